-- `choose` meets its contract: the refusal, or what was picked; and an answer that is the definition's is least.
use mathlib.Core.Path.{sym}
use Rattle.choice.specs.Case.{case_in}
use Rattle.choice.proofs.AcceptLaws.{accepted}
use Rattle.choice.proofs.AnswerLaws.{picked-small, told-given, told-least}
use Rattle.choice.proofs.answer.choose.Goals as goal

pub record_of-requires : goal.record_of-requires
record_of-requires c =
    let C = case_in c.args.input in
    let k = accepted C (sym c.in_ok-check_choice.ensures) in
    let small = picked-small C c.best_pattern-picked.ensures k.near in
    (k.lengths.few, small.0, small.1)

pub returns : goal.returns
returns c =
    let C = case_in c.args.input in
    let e = told-given C (sym c.in_ok-check_choice.ensures) c.best_pattern-picked.ensures c.record_of.ensures in
    record { answered = e; least = told-least C e }
