-- `better_level` meets its contract: the level at the farther index where it costs less.
use borrow.Author.Rules.{rules}
use mathlib.Core.Logic.{inl, inr, ⊎_elim}
use mathlib.Core.Path.{refl}
use Rattle.std.proofs.lemmas.Fn.{always_returns_same}
use Rattle.choice.specs.declared.offsets.Trial.{Trial}
use Rattle.choice.proofs.ToldLaws.{smaller-by}
use Rattle.choice.proofs.offsets.Search.better_level.Goals as goal

pub returns : goal.returns
returns c =
    let near = c.level.ensures in
    let far = c.level-farther.ensures in
    let e = c.min_by_key.ensures (λ (t : Trial). t.cost) (always_returns_same _ _ _ (λ a r f k. (search rules, refl))) in
    ⊎_elim
    (λ q. rw q.1 (inl (rw (far.1, near.1) at q.0, far.0, far.1)))
    (λ q. rw q.1 (inr (rw (far.1, near.1) at q.0, near.0, near.1)))
    (smaller-by (λ (t : Trial). t.cost) c.level.result c.level-farther.result e)
