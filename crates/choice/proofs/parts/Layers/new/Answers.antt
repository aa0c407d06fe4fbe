-- `new` meets its contract: the sum of a block's samples is that of its list.
use borrow.Author.Rules.{rules}
use mathlib.Core.Path.{◌∙◌}
use Rattle.std.proofs.lemmas.Iterator.{YieldsList-from_map, YieldsList-from_slice}
use Rattle.std.proofs.lemmas.Iterator.Consumers.{sum_from_yields_List}
use Rattle.std.proofs.lemmas.List.Sums.{sum-map}
use Rattle.arith.proofs.Sums.{sum-listed}
use Rattle.choice.proofs.parts.Layers.new.Goals as goal

pub invariant_of-result-clause-whole : goal.invariant_of-result-clause-whole
invariant_of-result-clause-whole c =
    let s = c.args.samples.now in
    sum_from_yields_List c.map.result _ c.sum.ensures.ran
    (YieldsList-from_map _ (λ x. x) (YieldsList-from_slice s (search rules)) c.map.ensures.closure (λ x r q k. search rules))
    ∙ sum-map (λ x. x) s
    ∙ sum-listed s
