-- `block_by` meets its contract: the first y rows hold what f gives.
use Prim.Native.Nat.{ℕ, ◌<◌}
use mathlib.Core.Path.{◌≡◌}
use lib.ListN.{length, get_or, replicate}
use Rattle.arith.specs.Lists.{upto}
use Rattle.block.specs.Block.{capacity}
use Rattle.block.proofs.rows.block_by.Given as goal

abbrev pub invariant-loop-y : goal.invariant-loop-y
invariant-loop-y g l =
    (length l.row-items ≡ l.size.n)
    × ((k : ℕ) → k < l.y-counter → (v : ℕ → ℕ → ℕ) → ((x s : ℕ) → x < l.size.n → goal.F-post g l.f x k s → s ≡ v x k)
    → get_or l.row-items k (replicate capacity 0) ≡ upto capacity l.size.n (λ x. v x k) 0)
