-- `row_by` meets its contract: the first n places hold what f gives, and the others 0.
use borrow.Author.Rules.{rules}
use Rattle.block.specs.Block.{capacity}
use Rattle.block.proofs.BlockLaws.{upto_made}
use Rattle.block.proofs.rows.row_by.Goals as goal

pub returns : goal.returns
returns g c =
    λ v h.
    let items = c.from_fn.ensures.items in
    upto_made capacity c.args.size.n v 0 c.from_fn.result items.long (search rules)
    (λ k lt. let call = (items.at k 0 lt).1.1 in (λ i. h k _ i (search rules), λ i. search rules))
