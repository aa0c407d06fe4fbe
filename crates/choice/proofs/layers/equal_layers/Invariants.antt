-- `equal_layers` meets its contract: after k samples the layers hold the first k.
use Prim.Native.Nat.{◌-◌, ◌≤◌}
use lib.ListN.{length}
use Rattle.choice.specs.Layers.{EqualWords}
use Rattle.choice.proofs.BuildLaws.{Wide}
use Rattle.choice.proofs.layers.equal_layers.Given as goal

abbrev pub invariant-loop-k : goal.invariant-loop-k
invariant-loop-k l = (l.k ≤ length l.samples) × EqualWords l.k l.samples l.layers × Wide l.samples l.layers

abbrev pub decreases-loop-k : goal.decreases-loop-k
decreases-loop-k l = length l.samples - l.k
