-- `put_sums` meets its contract: after k samples the sums of the first k are there.
use Prim.Native.Nat.{◌-◌, ◌≤◌}
use lib.ListN.{length}
use Rattle.choice.specs.Sums.{EightSums}
use Rattle.choice.proofs.sums.put_sums.Given as goal

abbrev pub invariant-loop-k : goal.invariant-loop-k
invariant-loop-k l = (l.k ≤ length l.samples) × EightSums l.k l.samples l.sums

abbrev pub decreases-loop-k : goal.decreases-loop-k
decreases-loop-k l = length l.samples - l.k
