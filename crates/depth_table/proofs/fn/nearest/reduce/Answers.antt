-- The closure of `nearest` meets its contract: of two items the second where it is no farther.
use Prim.Native.Nat.{ℕ}
use mathlib.Core.Path.{refl, ◌∙◌}
use borrow.Author.Rules.{rules}
use Rattle.std.proofs.lemmas.Fn.{always_returns_same}
use Rattle.depth_table.proofs.NearestLaws.{nearer-by}
use Rattle.depth_table.proofs.fn.nearest.reduce.Goals as goal

pub returns : goal.returns
returns c =
    c.min_by_key.ensures (λ (x : ℕ × ℕ). x.1) (always_returns_same _ _ _ (λ a r f k. (search rules, refl)))
    ∙ nearer-by c.args.best c.args.next
