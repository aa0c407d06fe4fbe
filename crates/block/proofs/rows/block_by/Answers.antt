-- `block_by` meets its contract: the first n rows hold what f gives, and the others 0.
use borrow.Author.Rules.{rules}
use native.Mathlib.Omega.{arith}
use lib.ListN.{replicate}
use Rattle.arith.specs.Lists.{upto}
use Rattle.block.specs.Block.{capacity, block_by}
use Rattle.block.proofs.BlockLaws.{filled_up}
use Rattle.block.proofs.rows.block_by.Goals as goal

pub returns : goal.returns
unfolding block_by
returns g c =
    λ v h.
    filled_up capacity c.args.size.n (λ y. upto capacity c.args.size.n (λ x. v x y) 0) (replicate capacity 0) c.loop-y.row-items c.loop-y.invariant.0 (search rules)
    (λ k lt. c.loop-y.invariant.1 k (omega arith) v (λ x s hx p. h x k s hx lt p))
