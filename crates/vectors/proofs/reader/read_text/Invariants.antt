-- Each read leaves less of the text to be filled, and stays inside it.
use Rattle.std.proofs.Common.{◌-◌, ◌≤◌}
use Rattle.vectors.proofs.reader.read_text.Given as goal

abbrev pub invariant-loop-done : goal.invariant-loop-done
invariant-loop-done g l = l.done ≤ 524288

abbrev pub decreases-loop-done : goal.decreases-loop-done
decreases-loop-done g l = 524288 - l.done
