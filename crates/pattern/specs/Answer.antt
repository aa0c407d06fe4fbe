-- What the public calls answer: refusals in document 01's order.
use Rattle.std.specs.Prelude.{ℕ, ◌*◌, Bool, ◌&&◌, ◌||◌, List, [], ◌∷◌, eqb, leb, ltb, length}
use Rattle.arith.specs.Checks.{refusal, Answer, answer}
use Rattle.pattern.specs.Size.{size_ok}
use Rattle.pattern.specs.Contour.{contour_of}

-- a list's count: no more than the whole patterns lent, and at most 9,999
abbrev pub count_ok : ℕ → ℕ → Bool
count_ok patterns count = leb count patterns && leb count 9999

-- texture of none, or of as many samples as what it belongs to
abbrev pub texture_ok : ℕ → ℕ → Bool
texture_ok texture samples = eqb texture 0 || eqb texture samples

-- texture is lent where there are samples of it
abbrev pub textured : List ℕ → Bool
textured texture = ltb 0 (length texture)

-- 1: the size; 2: not n * n samples
unfoldable pub samples_refusal : ℕ → ℕ → ℕ
samples_refusal n samples = refusal ((size_ok n, 1) ∷ (eqb samples (n * n), 2) ∷ []) 0

-- `contour` answers the pattern
unfoldable pub contour_answer : ℕ → List ℕ → Answer ℕ
contour_answer n t = answer (samples_refusal n (length t)) (contour_of n t)
