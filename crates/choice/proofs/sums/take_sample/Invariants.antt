-- `take_sample` meets its contract: the first of the copied sums have the sample added, and the others are as copied.
use Prim.Native.Nat.{ℕ, ◌+◌, ◌≤◌, ◌<◌}
use mathlib.Core.Path.{◌≡◌}
use lib.ListN.{length, get_or}
use Rattle.choice.proofs.sums.take_sample.Given as goal

abbrev pub invariant-loop-sum : goal.invariant-loop-sum
invariant-loop-sum l =
    (length l.sum-items ≡ l.width)
    × ((i : ℕ) → i < l.sum-index → get_or l.sum-items i 0 ≡ get_or l.fn.sums i 0 + l.x)
    × ((i : ℕ) → l.sum-index ≤ i → i < l.width → get_or l.sum-items i 0 ≡ get_or l.fn.sums i 0)
