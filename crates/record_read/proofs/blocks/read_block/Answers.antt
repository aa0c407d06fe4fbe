-- `read_block` meets its contract: the form, then what `place_from_values` answers.
use Rattle.std.proofs.Common.{◌≡◌, Ok, Err}
use Rattle.std.proofs.lemmas.Result.{err_from_is_err_and}
use Rattle.record_text.specs.Parsed.{found}
use Rattle.record_text.specs.Line.{record_line}
use Rattle.record_read.proofs.StepLaws.{step-placed}
use Rattle.record_read.proofs.blocks.read_block.Goals.{After-place_from_values-placed}
use Rattle.record_read.proofs.blocks.read_block.Goals as goal

-- the line has its form
form : (c : goal.After-place_from_values-placed) → found c.in_ok-record.record c.in_ok-record.rest.now ≡ record_line c.args.from.rest.now
form c = rw c.in_ok-record.ensures.ok_part at c.read_record_line.ensures

pub returns-in_err-sheet : goal.returns-in_err-sheet
returns-in_err-sheet c =
    let p = goal.at.returns-in_err-sheet c in
    let a = c.args in
    let q = err_from_is_err_and c.from_residual-in_err-sheet.result c.from_residual-in_err-sheet.ensures.1 in
    rw (q.1, q.2)
    (step-placed a.input a.samples.now a.from c.requires.0 c.in_ok-record.record c.in_ok-record.rest (form p.After-place_from_values-placed)
    c.place_from_values-placed.result (Err c.in_err-sheet.field-0.0) c.in_err-sheet.ensures c.place_from_values-placed.ensures.answered c.place_from_values-placed.ensures.left)

pub returns : goal.returns
returns c =
    let p = goal.at.returns c in
    let a = c.args in
    step-placed a.input a.samples.now a.from c.requires.0 c.in_ok-record.record c.in_ok-record.rest (form p.After-place_from_values-placed)
    c.place_from_values-placed.result (Ok c.in_ok-sheet.sheet) c.in_ok-sheet.ensures c.place_from_values-placed.ensures.answered c.place_from_values-placed.ensures.left
