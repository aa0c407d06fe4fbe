-- `put_read` meets its contract: what reading answers is a refusal or a sheet, and is printed.
use native.Mathlib.Omega.{arith}
use Rattle.record_print.proofs.WriteSteps.{written_as}
use Rattle.record_file.specs.Reading.{aids_in}
use Rattle.show_text.proofs.ShowLaws.{refused-shown, sheet-shown}
use Rattle.show_text.proofs.showing.put_read.Goals as goal

pub put_refusal-requires : goal.put_refusal-requires
put_refusal-requires c =
    let r = refused-shown (aids_in c.args.input) c.args.bytes.now c.in-Err.refused c.in-Err.ensures in
    (r.1, omega (arith, c.requires))

pub put_sheet-requires : goal.put_sheet-requires
put_sheet-requires c =
    let b = sheet-shown (aids_in c.args.input) c.args.bytes.now c.in-Ok.back c.in-Ok.ensures in
    record { width = b.width; height = b.height; held = b.held; space = omega (arith, b.few, c.requires) }

pub returns-in-Ok : goal.returns-in-Ok
returns-in-Ok c = written_as c.put_sheet.ensures (sheet-shown (aids_in c.args.input) c.args.bytes.now c.in-Ok.back c.in-Ok.ensures).same
