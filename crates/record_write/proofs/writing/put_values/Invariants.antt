-- `put_values`: a line for each value so far.
use Rattle.std.proofs.Common.{◌≡◌, length, get_or}
use Rattle.arith.specs.Lists.{list_of}
use Rattle.record_text.specs.Line.{value_text}
use Rattle.record_text.specs.Lines.{texts}
use Rattle.record_print.specs.Put.{Written}
use Rattle.record_write.proofs.writing.put_values.Given as goal

abbrev pub invariant-loop-v : goal.invariant-loop-v
invariant-loop-v l =
    (Written l.initial.out l.out l.initial.next.at (texts value_text (list_of (λ k. get_or l.table k 0) l.v-index)) l.next.at)
    × (length l.out ≡ length l.initial.out)
