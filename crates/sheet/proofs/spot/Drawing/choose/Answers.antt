-- `choose` meets its contract, by what the choice answers.
use mathlib.Core.Path.{◌∙◌}
use Rattle.choice.specs.Case.{case_in}
use Rattle.sheet.proofs.ComposeLaws.{chosen-accepted, chosen-drawn, chosen-never}
use Rattle.sheet.proofs.RefusalLaws.{accepted-ok}
use Rattle.sheet.proofs.spot.Drawing.choose.Goals as goal

pub returns-in_err-choice-clause-left : goal.returns-in_err-choice-clause-left
returns-in_err-choice-clause-left c =
    let a = c.args.self in
    chosen-never (case_in a.case) a.spot.width a.spot.x a.spot.y c.args.samples.now c.in_err-choice.ensures.answered

pub unwrap-requires : goal.unwrap-requires
unwrap-requires c =
    accepted-ok c.draw.result (c.draw.ensures.number ∙ chosen-accepted (case_in c.args.self.case) c.in_ok-choice.ensures.answered)

pub returns-clause-left : goal.returns-clause-left
returns-clause-left c =
    let a = c.args.self in
    chosen-drawn (case_in a.case) c.in_ok-choice.ensures.answered a.spot.width a.spot.x a.spot.y c.args.samples.now c.draw.ensures.left
