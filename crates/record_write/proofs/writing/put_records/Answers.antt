-- `put_records` meets its contract: a line for each record so far.
use Rattle.std.proofs.Common.{◌≡◌, ℕ, ◌<◌, length, refl, subst, arith}
use Rattle.arith.specs.Lists.{list_of}
use Rattle.record.specs.declared.Record.{Record}
use Rattle.record.specs.Lent.{record_at}
use Rattle.record_text.specs.Line.{record_text}
use Rattle.record_text.specs.Lines.{texts}
use Rattle.record_print.specs.Put.{Put, Written, printed_if, record_printable}
use Rattle.record_print.proofs.LoopLaws.{writing_start, line-more}
use Rattle.record_print.proofs.WriteSteps.{written-length}
use Rattle.record_write.proofs.WriteLaws.{record-is-printed, record-short}
use Rattle.record_write.proofs.writing.put_records.Goals as goal

pub loop-r-init : goal.loop-r-init
loop-r-init c = (writing_start record_text _ _ _, refl)

pub loop-r-preserved : goal.loop-r-preserved
loop-r-preserved c =
    let a = c.args in
    let l = c.loop-r in
    let f : ℕ → Record = record_at a.records.now in
    let m = length a.records.now in
    let h : l.r-index < m = c.loop-r-test.true in
    let put = c.put_record_line-next in
    let w =
    line-more record_text f 32 m (λ j q. record-short (f j) (c.requires.small_records j q)) l.r-index (record_printable (f l.r-index))
    (record-is-printed (f l.r-index) (c.requires.small_records l.r-index h)) h (omega arith) c.requires.has_room l.invariant.0
    (subst (λ (r : Record). Put l.out put.new.out l.next (printed_if (record_printable r) (record_text r)) put.result) c.from.ensures
    put.ensures) in
    (w, written-length w)

pub returns : goal.returns
returns c =
    let a = c.args in
    let l = c.loop-r in
    let e : l.r-index ≡ length a.records.now = omega arith in
    subst (λ (k : ℕ). Written a.out.now l.out a.from.at (texts record_text (list_of (record_at a.records.now) k)) l.next.at) e l.invariant.0
