-- `pattern_at` meets its contract: past the entries texture is lent, and so there is a contour.
use mathlib.Core.Path.{◌≡◌, ◌∙◌}
use mathlib.Core.Bool.{true}
use Rattle.pattern.specs.Answer.{textured}
use Rattle.choice.specs.Case.{case_in}
use Rattle.choice.proofs.AcceptLaws.{accepted}
use Rattle.choice.proofs.SearchLaws.{past-entries, lent-textured}
use Rattle.choice.proofs.search.Block.pattern_at.Goals.{Else-number-list}
use Rattle.choice.proofs.search.Block.pattern_at.Goals as goal

-- texture is lent
lent : (c : goal.Else-number-list) → textured c.args.self.now.input.texture.now ≡ true
lent c =
    let C = case_in c.args.self.now.input in
    past-entries C (accepted C c.args.self.now.passes) c.args.number c.requires c.if-number-list.false

pub unwrap-requires : goal.unwrap-requires
unwrap-requires c =
    let b = c.args.self.now in
    lent-textured b.input.n b.input.texture.now b.contour b.outline ∙ lent (goal.at.unwrap-requires c).Else-number-list
