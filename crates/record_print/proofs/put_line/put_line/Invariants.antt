-- `put_line`: the fields so far, from the end of the line.
use Rattle.record_print.proofs.LineSteps.{Ended}
use Rattle.record_print.proofs.put_line.put_line.Given as goal

abbrev pub invariant-loop-i : goal.invariant-loop-i
invariant-loop-i l = Ended l.fn.out l.next l.fn.numbers l.i l.out l.at
