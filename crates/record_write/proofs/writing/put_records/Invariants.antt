-- `put_records`: a line for each record so far.
use Rattle.std.proofs.Common.{◌≡◌, length}
use Rattle.arith.specs.Lists.{list_of}
use Rattle.record.specs.Lent.{record_at}
use Rattle.record_text.specs.Line.{record_text}
use Rattle.record_text.specs.Lines.{texts}
use Rattle.record_print.specs.Put.{Written}
use Rattle.record_write.proofs.writing.put_records.Given as goal

abbrev pub invariant-loop-r : goal.invariant-loop-r
invariant-loop-r l =
    (Written l.initial.out l.out l.initial.next.at (texts record_text (list_of (record_at l.records) l.r-index)) l.next.at)
    × (length l.out ≡ length l.initial.out)
