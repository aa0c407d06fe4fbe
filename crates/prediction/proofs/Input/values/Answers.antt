-- `values` meets its contract: the level of the depth and the offset of each mark.
use mathlib.Core.Bool.{true, false, cond, not}
use mathlib.Core.Path.{ap₂, ◌∙◌}
use native.Mathlib.Omega.{arith}
use mir.ValLaws.{to_z-of_z}
use Rattle.prediction.proofs.BlockLaws.{value-is}
use Rattle.prediction.proofs.Input.values.Goals as goal

pub returns-clause-of_marked : goal.returns-clause-of_marked
returns-clause-of_marked c =
    let i = c.args.self in
    let s = c.sides-sides.ensures in
    value-is i.n _ i.border.now i.table.now i.off0 i.off1 true c.level.ensures
    (c.of_mark-marked.ensures ∙ ap₂ (cond (not c.mark_at-origin.result)) s.of_br s.of_lt) c.mark_at-origin.ensures
    (grind (arith, to_z-of_z))

pub returns-clause-of_others : goal.returns-clause-of_others
returns-clause-of_others c =
    let i = c.args.self in
    let s = c.sides-sides.ensures in
    value-is i.n _ i.border.now i.table.now i.off0 i.off1 false c.level-2.ensures
    (c.of_mark-unmarked.ensures ∙ ap₂ (cond c.mark_at-origin.result) s.of_br s.of_lt) c.mark_at-origin.ensures
    (grind (arith, to_z-of_z))
