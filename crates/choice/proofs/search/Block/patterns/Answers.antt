-- `patterns` meets its contract: without texture there is an entry, and so a last one.
use native.Mathlib.Omega.{arith}
use mathlib.Core.Path.{sym, ◌∙◌}
use Rattle.choice.specs.Case.{case_in}
use Rattle.choice.proofs.AcceptLaws.{accepted}
use Rattle.choice.proofs.SearchLaws.{entries-alone, entries-contour, lent-textured}
use Rattle.choice.proofs.search.Block.patterns.Goals as goal

pub overflow_add-result : goal.overflow_add-result
overflow_add-result c = let k = (accepted (case_in c.args.self.now.input) c.args.self.now.passes).lengths.few in record { fits = omega arith }

pub returns-then-is_some : goal.returns-then-is_some
returns-then-is_some c =
    let b = c.args.self.now in
    let C = case_in b.input in
    let k = accepted C b.passes in
    let t = sym (lent-textured b.input.n b.input.texture.now b.contour b.outline) ∙ sym c.is_some.ensures ∙ c.if-is_some.true in
    (entries-contour C t, omega (arith, k.lengths.few))

pub returns-else-is_some : goal.returns-else-is_some
returns-else-is_some c =
    let b = c.args.self.now in
    let C = case_in b.input in
    let k = accepted C b.passes in
    let t = sym (lent-textured b.input.n b.input.texture.now b.contour b.outline) ∙ sym c.is_some.ensures ∙ c.if-is_some.false in
    (entries-alone C k t, omega (arith, k.lengths.few))
