-- `side_case` meets its contract: the number comes from the marks of three corners.
use Rattle.pattern.specs.Words.{pattern_number}
use Rattle.choice.proofs.CaseLaws.{case-by, case_lt}
use Rattle.choice.proofs.cases.side_case.Goals as goal

pub returns : goal.returns
returns c =
    let a = c.args in
    let e =
    case-by a.size.n (pattern_number a.p) a.m c.mark_at-origin.ensures c.mark_at.ensures c.mark_at-2.ensures
    c.from-other.ensures c.from-v.ensures c.from-h.ensures in
    (e, rw e (case_lt a.size.n (pattern_number a.p) a.m))
