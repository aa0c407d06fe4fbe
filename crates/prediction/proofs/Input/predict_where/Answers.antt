-- `predict_where` meets its contract: the answer and the block where a check fails, and where none does.
use mathlib.Core.Path.{sym, ◌∙◌}
use lib.ListN.{length}
use borrow.Author.Rules.{rules}
use Rattle.pattern.specs.Words.{pattern_number}
use Rattle.arith.proofs.CheckLaws.{given-means}
use Rattle.prediction.proofs.BlockLaws.{painted-is}
use Rattle.prediction.proofs.CallLaws.{PredictAccepted, answer-refusing, block-refusing, answer-giving, block-giving, predict-accepted, predictable}
use Rattle.prediction.proofs.Input.predict_where.Goals.{In_ok-check_all}
use Rattle.prediction.proofs.Input.predict_where.Goals as goal

pub returns-in_err-check_all-clause-answered : goal.returns-in_err-check_all-clause-answered
returns-in_err-check_all-clause-answered c =
    let a = c.args in
    let i = a.self in
    let h = answer-refusing a.asked i.n i.border.now i.table.now i.off0 i.off1 a.block.now c.used-self.ensures (c.in_err-check_all.ensures) in
    search rules

pub returns-in_err-check_all-clause-written : goal.returns-in_err-check_all-clause-written
returns-in_err-check_all-clause-written c =
    let a = c.args in
    let i = a.self in
    block-refusing a.asked i.n i.border.now i.table.now i.off0 i.off1 a.block.now c.used-self.ensures (c.in_err-check_all.ensures)

-- nothing is refused
accepted :
    (c : goal.In_ok-check_all)
    → let i = c.args.self in
    PredictAccepted c.args.asked i.n (pattern_number c.used-self.result) (length i.border.now) (length i.table.now) i.off0 i.off1
    (length c.args.block.now)
accepted c =
    let i = c.args.self in
    predict-accepted c.args.asked i.n (pattern_number c.used-self.result) (length i.border.now) (length i.table.now) i.off0 i.off1
    (length c.args.block.now)
    (given-means _ tt tt (sym c.in_ok-check_all.ensures)).0

pub values-v1-requires : goal.values-v1-requires
values-v1-requires c = predictable c.args.self.border.now c.requires (accepted c)

pub returns-clause-answered : goal.returns-clause-answered
returns-clause-answered c =
    let a = c.args in
    let i = a.self in
    answer-giving a.asked i.n i.border.now i.table.now i.off0 i.off1 a.block.now c.used-self.ensures (c.in_ok-check_all.ensures) c.marks.ensures.0

pub returns-clause-written : goal.returns-clause-written
returns-clause-written c =
    let a = c.args in
    let i = a.self in
    let v = c.values-v1.ensures in
    block-giving a.asked i.n i.border.now i.table.now i.off0 i.off1 a.block.now c.used-self.ensures (c.in_ok-check_all.ensures)
    (c.paint.ensures ∙ painted-is i.n _ i.border.now i.table.now i.off0 i.off1 v.of_others v.of_marked (accepted (goal.at.returns-clause-written c).In_ok-check_all).full)
