-- `put_samples` meets its contract: after y rows the places of those rows hold the block's samples.
use Prim.Native.Nat.{ℕ, ◌*◌, ◌/◌, ◌%◌, ◌<◌}
use mathlib.Core.Path.{◌≡◌}
use lib.ListN.{get_or}
use Rattle.block.specs.Block.{sample}
use Rattle.block.proofs.rows.put_samples.Given as goal

abbrev pub invariant-loop-y : goal.invariant-loop-y
invariant-loop-y l = (i : ℕ) → i < l.y * l.n → get_or l.samples i 0 ≡ sample l.fn.b (i % l.n) (i / l.n)
