-- `pattern_of` meets its contract: the contour of lent texture is not refused.
use borrow.Author.Rules.{rules}
use Rattle.pattern.specs.Answer.{samples_refusal, contour_answer}
use Rattle.depth_bench.specs.Built.{pattern_refusal, pattern_answer}
use Rattle.depth_bench.proofs.pattern_of.Goals as goal

pub returns-in_ok-check_contour-in-Contour : goal.returns-in_ok-check_contour-in-Contour
unfolding pattern_answer pattern_refusal contour_answer samples_refusal
returns-in_ok-check_contour-in-Contour c = search rules
