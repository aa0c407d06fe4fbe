-- `candidate_of` meets its contract: the side of the line through both points that does not hold (0,0).
use mathlib.Core.Path.{◌∙◌}
use native.Mathlib.Omega.{arith}
use Rattle.wedgelet.specs.Half.{in_half}
use Rattle.wedgelet.proofs.PointLaws.{wedgelet-by}
use Rattle.wedgelet.proofs.candidates.candidate_of.Goals as goal

pub returns : goal.returns
returns c =
    let a = c.args in
    let s = c.on_border.ensures in
    let e = c.on_border-2.ensures in
    c.pattern.ensures ∙ wedgelet-by a.size.n a.s a.e (in_half c.of_line.result) (omega arith) s.0 s.1 e.0 e.1 c.of_line.ensures
