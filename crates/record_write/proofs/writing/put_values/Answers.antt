-- `put_values` meets its contract: a line for each value so far.
use Rattle.std.proofs.Common.{ℕ, ◌<◌, length, get_or, refl, subst, arith}
use Rattle.record_text.specs.Line.{value_text}
use Rattle.record_print.specs.Put.{Put, printed_if, number_printable}
use Rattle.record_print.proofs.LoopLaws.{writing_start, line-more}
use Rattle.record_print.proofs.WriteSteps.{written-length}
use Rattle.record_write.proofs.WriteLaws.{value-printed, values-short, values-all, values_length}
use Rattle.record_write.proofs.writing.put_values.Goals as goal

pub loop-v-init : goal.loop-v-init
loop-v-init c = (writing_start value_text _ _ _, refl)

pub loop-v-preserved : goal.loop-v-preserved
loop-v-preserved c =
    let a = c.args in
    let l = c.loop-v in
    let t = a.table.now in
    let h : l.v-index < length t = c.loop-v-test.true in
    let byte : (i : ℕ) → get_or t i 0 < 256 = λ i. omega (arith, c.type_inv.table i) in
    let put = c.put_value_line-next in
    let w =
    line-more value_text (λ k. get_or t k 0) 4 (length t) (values-short t byte (length t)) l.v-index (number_printable (get_or t l.v-index 0))
    (value-printed (get_or t l.v-index 0) (byte l.v-index)) h (omega arith) c.requires l.invariant.0
    (subst (λ (v : ℕ). Put l.out put.new.out l.next (printed_if (number_printable v) (value_text v)) put.result) c.from.ensures put.ensures) in
    (w, written-length w)

pub returns : goal.returns
returns c =
    let a = c.args in
    let l = c.loop-v in
    let byte : (i : ℕ) → get_or a.table.now i 0 < 256 = λ i. omega (arith, c.type_inv.table i) in
    let w = values-all a.table.now l.v-index (omega arith) l.invariant.0 in
    record { written = w; short = omega (arith, w.place, values_length a.table.now byte) }
