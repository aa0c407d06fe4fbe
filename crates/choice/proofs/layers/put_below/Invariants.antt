-- `put_below` meets its contract: after v values the layers from 0 to v are there.
use Prim.Native.Nat.{◌+◌}
use mathlib.Core.Path.{◌≡◌}
use lib.ListN.{length}
use Rattle.choice.specs.Layers.{EqualWords, BelowWords}
use Rattle.choice.proofs.layers.put_below.Given as goal

abbrev pub invariant-loop-v : goal.invariant-loop-v
invariant-loop-v l =
    (length l.layers ≡ 257) × EqualWords (length l.samples) l.samples l.equal-items × BelowWords (l.v-counter + 1) l.samples l.layers
