-- `sides` meets its contract: each depth by the two edges.
use mathlib.Core.Path.{sym, ap₂, ◌∙◌}
use Rattle.prediction.specs.Sides.{lt_by, br_by, lt, br}
use Rattle.prediction.proofs.SideLaws.{vert-edge-bits, hor-edge-bits}
use Rattle.prediction.proofs.sides.Neighbours.sides.Goals as goal

pub returns-clause-of_lt : goal.returns-clause-of_lt
unfolding lt
returns-clause-of_lt c =
    c.lt.ensures ∙ ap₂ (lt_by _ _) (c.edge-v.ensures ∙ sym (vert-edge-bits _ _)) (c.edge-h.ensures ∙ sym (hor-edge-bits _ _))

pub returns-clause-of_br : goal.returns-clause-of_br
unfolding br
returns-clause-of_br c =
    c.br.ensures ∙ ap₂ (br_by _ _) (c.edge-v.ensures ∙ sym (vert-edge-bits _ _)) (c.edge-h.ensures ∙ sym (hor-edge-bits _ _))
