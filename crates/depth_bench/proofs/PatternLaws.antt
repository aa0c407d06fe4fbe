-- What `depth_bench_pattern_of` answers, kind by kind, and its words.
use Prim.Native.Nat.{ℕ, zero, suc, ◌*◌, ◌^◌, ◌≤◌, ◌<◌}
use mathlib.Core.Bool.{true}
use mathlib.Core.List.{List, [], ◌∷◌}
use mathlib.Core.Logic.{◌⊎◌, ⊎_elim}
use mathlib.Core.Path.{◌≡◌, sym, ap, subst, ◌∙◌}
use native.Mathlib.Nat.{lt_of_lt_of_le}
use borrow.Author.Tests.{lt-ltb, ltb-true}
use lib.Dec.{eqb, ltb}
use lib.ListN.{length, get_or}
use lib.Pow.{pow_pos, pow_mono}
use Rattle.arith.specs.Checks.{unless, given, answer}
use Rattle.arith.proofs.CheckLaws.{passed, given-means}
use Rattle.pattern.specs.Size.{size_ok, word_ok}
use Rattle.pattern.specs.Words.{in_four}
use Rattle.pattern.specs.Answer.{texture_ok, textured}
use Rattle.pattern.specs.Contour.{contour_of}
use Rattle.pattern.proofs.AnswerLaws.{is-texture}
use Rattle.pattern.proofs.SizeLaws.{square-64}
use Rattle.pattern.proofs.ContourLaws.{contour-lt}
use Rattle.pattern.proofs.WordLaws.{one-word-number, in-four}
use Rattle.wedgelet.specs.Wedgelet.{wedgelet_list}
use Rattle.choice.specs.Record.{PatternIn, pattern_by}
use Rattle.depth_bench.specs.Built.{built_list, built_case, pattern_refusal, pattern_answer}
use Rattle.depth_bench.specs.Structs.{words_struct, pattern_struct}
use Rattle.depth_bench.proofs.Built.{entry-refusal}

-- ---- the answer of each kind

module _ (n : ℕ) (t : List ℕ) (size : size_ok n ≡ true) (fits : texture_ok (length t) (n * n) ≡ true) (entry : ℕ) where
  pub wedgelet-answer :
      answer (unless (ltb entry (length (wedgelet_list n))) 6 0) (get_or (built_list n) entry 0) ≡ pattern_answer n 0 entry t
  unfolding pattern_answer pattern_refusal
  wedgelet-answer = rw (size, fits, ← entry-refusal n size entry)

  pub contour-answer : answer (unless (eqb entry 0) 7 (unless (textured t) 21 0)) (contour_of n t) ≡ pattern_answer n 1 entry t
  unfolding pattern_answer pattern_refusal
  contour-answer = rw (size, fits)

-- the pattern of a record within the reach of an accepted choice is answered
pub pattern-answers :
    (n : ℕ) (s o t : List ℕ) (R : ℕ) (x : List ℕ) → size_ok n ≡ true → (length x ≡ 0) ⊎ (length x ≡ n * n)
    → (kind entry : ℕ) → PatternIn (built_case n s o t R x) kind entry
    → pattern_answer n kind entry x ≡ given (pattern_by (built_case n s o t R x) kind entry)
pattern-answers n s o t R x size optional kind entry =
    let fits = is-texture (length x) (n * n) optional in
    ⊎_elim
    (λ w. rw w.0 (sym (wedgelet-answer n x size fits entry) ∙ rw (lt-ltb entry (length (wedgelet_list n)) w.1)))
    (λ w. rw w.0 (sym (contour-answer n x size fits entry) ∙ rw (w.1, lt-ltb 0 (length x) w.2)))

-- ---- the words of an answered pattern

-- a number of at most 64 bits has 0 in words 1 to 3
first-of-four : (w : ℕ) → w < 2 ^ 64 → in_four w ≡ w ∷ 0 ∷ 0 ∷ 0 ∷ []
first-of-four w h = ap in_four (sym (one-word-number w)) ∙ in-four w 0 0 0 h (pow_pos 64) (pow_pos 64)

-- where no check fails, the pattern marks samples of the block only
marks-inside :
    (n kind entry : ℕ) (t : List ℕ) → pattern_refusal n kind entry t ≡ 0 → pattern_by (built_case n [] [] [] 0 t) kind entry < 2 ^ (n * n)
unfolding pattern_refusal
marks-inside n zero entry t e =
    let a = passed (size_ok n) 0 _ e in
    let b = passed (texture_ok (length t) (n * n)) 1 _ a.1 in
    let c = passed (ltb entry (length (wedgelet_list n))) 5 _ b.1 in
    ltb-true _ _ (passed (word_ok n (get_or (built_list n) entry 0)) 4 0 c.1).0
marks-inside n (suc zero) entry t e = contour-lt n t
marks-inside n (suc (suc kind)) entry t e = pow_pos (n * n)

-- the answer for a block of at most 8 by 8 samples has the pattern in word 0, and 0 in words 1 to 3
pub one-word-answered :
    (n kind entry w : ℕ) (t : List ℕ) → n ≤ 8 → pattern_answer n kind entry t ≡ given w
    → pattern_struct (pattern_answer n kind entry t) ≡ words_struct (w ∷ 0 ∷ 0 ∷ 0 ∷ [])
unfolding pattern_answer
one-word-answered n kind entry w t h e =
    let g = given-means (pattern_refusal n kind entry t) (pattern_by (built_case n [] [] [] 0 t) kind entry) w e in
    let inside = subst (λ (x : ℕ). x < 2 ^ (n * n)) g.1 (marks-inside n kind entry t g.0) in
    ap pattern_struct e ∙ ap words_struct (first-of-four w (lt_of_lt_of_le inside (pow_mono (square-64 h))))
