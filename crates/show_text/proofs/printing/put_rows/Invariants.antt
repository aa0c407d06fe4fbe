-- `put_rows`: a number and the byte after it for each sample so far.
use mathlib.Core.Path.{◌≡◌}
use lib.ListN.{length}
use Rattle.arith.specs.Lists.{list_of}
use Rattle.record_text.specs.Lines.{texts}
use Rattle.record_print.specs.Put.{Written}
use Rattle.show_text.specs.Printed.{sample_text}
use Rattle.show_text.proofs.printing.put_rows.Given as goal

abbrev pub invariant-loop-i : goal.invariant-loop-i
invariant-loop-i l =
    (Written l.initial.out l.out l.initial.next.at (texts (sample_text l.sheet.width l.samples) (list_of (λ k. k) l.i)) l.next.at)
    × (length l.out ≡ length l.initial.out)
