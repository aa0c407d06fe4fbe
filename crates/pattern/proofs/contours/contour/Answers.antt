-- `contour` meets its contract: the samples above the threshold, at most 64 to a word.
use mathlib.Core.Path.{sym, ap, ◌∙◌}
use borrow.Author.Rules.{rules}
use lib.ListN.{length}
use Rattle.arith.specs.Bits.{bits}
use Rattle.arith.specs.Checks.{given}
use Rattle.arith.proofs.CheckLaws.{answer-given}
use Rattle.pattern.specs.Answer.{samples_refusal, contour_answer}
use Rattle.pattern.specs.Contour.{threshold, contour_of}
use Rattle.pattern.proofs.AnswerLaws.{samples-fit}
use Rattle.pattern.proofs.ContourLaws.{contour-parts}
use Rattle.pattern.proofs.contours.contour.Goals as goal

pub returns : goal.returns
unfolding contour_answer bits
returns c =
    let a = c.args in
    let t = a.texture.now in
    let refused = sym c.in_ok-size.ensures.0 in
    let f = samples-fit a.n (length t) refused in
    ap given
    (contour-parts a.n t c.from_fn.result f.high f.square (c.threshold-level.ensures ∙ ap (λ m. threshold m t) c.in_ok-size.ensures.1.0)
    (search rules) (search rules) (search rules) (search rules))
    ∙ answer-given (samples_refusal a.n (length t)) (contour_of a.n t) refused
