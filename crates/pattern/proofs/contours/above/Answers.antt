-- `above` meets its contract: the last sample gives the highest mark.
use Prim.Native.Nat.{◌-◌}
use mathlib.Core.Path.{◌∙◌}
use borrow.Author.Rules.{rules}
use lib.ListN.{take, drop}
use Rattle.std.proofs.lemmas.Iterator.Adapters.{YieldsList-from_rev_slice}
use Rattle.std.proofs.lemmas.Iterator.Consumers.{fold_from_yields_List}
use Rattle.pattern.proofs.ContourLaws.{with_mark, part_folded}
use Rattle.pattern.proofs.contours.above.Goals as goal

pub returns : goal.returns
returns c =
    let t = c.args.texture.now in
    let s = take (c.min-2.result - c.min.result) (drop c.min.result t) in
    fold_from_yields_List _ (with_mark c.args.level) 0 c.fold.result c.fold.ensures.ran
    (YieldsList-from_rev_slice s (search rules)) (λ a x b q called. search rules)
    ∙ part_folded t c.args.level c.args.at c.min.ensures c.min-2.ensures
