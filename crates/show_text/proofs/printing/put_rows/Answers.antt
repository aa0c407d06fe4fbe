-- `put_rows` meets its contract: a number and the byte after it for each sample so far.
use Prim.Native.Nat.{ℕ, ◌*◌, ◌<◌}
use mathlib.Core.Path.{◌≡◌, refl, ◌∙◌}
use native.Mathlib.Omega.{arith}
use lib.ListN.{get_or}
use Rattle.std.proofs.lemmas.List.{get_or-take, length-take-le}
use Rattle.record_print.specs.Put.{number_printable}
use Rattle.record_print.proofs.LoopLaws.{writing_start, line-more}
use Rattle.record_print.proofs.WriteSteps.{written-length}
use Rattle.show_text.specs.Printed.{sample_text}
use Rattle.show_text.proofs.PrintLaws.{sample-printed, samples-short, rows_all}
use Rattle.show_text.proofs.printing.put_rows.Goals as goal

pub loop-i-init : goal.loop-i-init
loop-i-init c = (writing_start (sample_text c.args.sheet.width c.args.samples.now) (λ k. k) _ _, refl)

pub loop-i-preserved : goal.loop-i-preserved
loop-i-preserved c =
    let a = c.args in
    let l = c.loop-i in
    let t = a.samples.now in
    let m = a.sheet.width * a.sheet.height in
    let k = c.area.result in
    let first : l.i < k = omega (arith, c.loop-i-test.true, length-take-le k t (omega (arith, c.area.ensures, c.requires.samples_held))) in
    let h : l.i < m = omega (arith, c.area.ensures, first) in
    let byte : (i : ℕ) → get_or t i 0 < 256 = λ i. omega (arith, c.type_inv.samples i) in
    let v : c.from-depth.result ≡ get_or t l.i 0 = c.from-depth.ensures ∙ get_or-take k t l.i 0 first in
    let w =
    line-more (sample_text a.sheet.width t) (λ k. k) 4 m (samples-short a.sheet.width t byte m) l.i (number_printable (get_or t l.i 0))
    (sample-printed _ (byte l.i)) h (omega arith) c.requires.has_room l.invariant.0
    (rw (v, c.end_byte-end.ensures) at c.put_number-next.ensures) in
    (w, written-length w)

pub returns : goal.returns
returns c =
    let a = c.args in
    let l = c.loop-i in
    let long = length-take-le c.area.result a.samples.now (omega (arith, c.area.ensures, c.requires.samples_held)) in
    rows_all a.sheet.width a.sheet.height a.samples.now l.i (omega (arith, long, c.area.ensures, c.loop-i-test.false, l.auto.i-end)) l.invariant.0
