-- What `side_depths` answers: refusals in document 01's order, and the two depths.
use Rattle.std.specs.Prelude.{ℕ, ◌*◌, List, [], ◌∷◌, eqb, length}
use Rattle.arith.specs.Checks.{refusal, Answer, answer}
use Rattle.pattern.specs.Size.{size_ok, word_ok}
use Rattle.prediction.specs.Sides.{lt, br}
use Rattle.prediction.specs.declared.SideDepths.{SideDepths}

-- 1: the size; 2: the neighbours, which are 4n; 5: the word
unfoldable pub sides_refusal : ℕ → ℕ → List ℕ → ℕ
sides_refusal n w s = refusal ((size_ok n, 1) ∷ (eqb (length s) (4 * n), 2) ∷ (word_ok n w, 5) ∷ []) 0

-- lt and br
unfoldable pub sides_answer : ℕ → ℕ → List ℕ → Answer (ℕ × ℕ)
sides_answer n w s = answer (sides_refusal n w s) (lt n w s, br n w s)

-- the two depths that the code answers
abbrev pub both_depths : SideDepths → ℕ × ℕ
both_depths d = (d.lt.0, d.br.0)
