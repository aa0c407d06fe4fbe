-- `choose` meets its contract: the list is built for n, and the refusals do not depend on it.
use mathlib.Core.Path.{ap, ◌∙◌}
use Rattle.choice.specs.Answer.{choose_answer}
use Rattle.choice.specs.Refusal.{choose_refusal}
use Rattle.depth_bench.proofs.Built.{built_count, built_same, then_built}
use Rattle.depth_bench.proofs.ChoiceInput.choose.Goals as goal

pub returns-in_err-count : goal.returns-in_err-count
returns-in_err-count c =
    let I = c.args.self in
    absurd
    (then_built I.n I.border.now I.original.now I.table.now I.reach I.texture.now _ (c.in_ok-check_choice.ensures ∙ ap choose_refusal c.with_list.ensures) c.in_err-count.ensures.0)

pub returns : goal.returns
returns c =
    let I = c.args.self in
    let k = built_count I.n _ c.in_ok-count.ensures.0 in
    let e = built_same I.n I.border.now I.original.now I.table.now I.reach I.texture.now c.in_ok-count.ensures.1 k in
    c.choose.ensures.answered ∙ ap choose_answer (c.with_list-2.ensures ∙ e)
