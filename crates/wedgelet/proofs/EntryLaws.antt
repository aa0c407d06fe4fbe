-- The words of an entry: four that are compared where they lie, and those that are stored.
use Prim.Native.Nat.{ℕ, zero, suc, ◌+◌, ◌*◌, ◌^◌, ◌≤◌, ◌<◌}
use mathlib.Core.Bool.{Bool, true, false}
use mathlib.Core.List.{List, [], ◌∷◌}
use mathlib.Core.Path.{◌≡◌, refl, sym, ap, ◌∙◌}
use native.Mathlib.Decide.{dec_le}
use native.Mathlib.Nat.{add-zero}
use native.Mathlib.Omega.{arith}
use borrow.Author.Tests.{clash, eq-eqb, ne_eqb}
use lib.Dec.{eqb}
use lib.ListN.{length, get_or, take, drop, length-drop}
use Rattle.std.proofs.lemmas.List.{get_or-drop}
use lib.Pointwise.{pointwise, bytes_decides}
use lib.Seq.{get_or-take, length-take-le, ext_get_or}
use Rattle.pattern.specs.Words.{four_at, words_of, in_words}
use Rattle.pattern.proofs.WordLaws.{four_same, four-words-same, number-narrow, width_narrow, width-wide, in-narrow, in-wide, in-four}

-- two lists of four elements with the same elements
same_four : (t w : List ℕ) → length t ≡ 4 → length w ≡ 4
    → get_or t 0 0 ≡ get_or w 0 0 → get_or t 1 0 ≡ get_or w 1 0 → get_or t 2 0 ≡ get_or w 2 0 → get_or t 3 0 ≡ get_or w 3 0 → t ≡ w
same_four t w p q a b c d = ext_get_or 0 t w (p ∙ sym q) (λ i h. each i (omega arith))
  where
    each : (i : ℕ) → i < 4 → get_or t i 0 ≡ get_or w i 0
    each zero h = a
    each (suc zero) h = b
    each (suc (suc zero)) h = c
    each (suc (suc (suc zero))) h = d
    each (suc (suc (suc (suc i)))) h = absurd (omega arith)

-- four words of a list, taken out
taken_at : (l : List ℕ) (at i : ℕ) → i < 4 → get_or (take 4 (drop at l)) i 0 ≡ get_or l (at + i) 0
taken_at l at i h = get_or-take 4 (drop at l) i 0 h ∙ get_or-drop at l i 0

module _ (l w : List ℕ) (at : ℕ) (room : at + 4 ≤ length l) (four : length w ≡ 4) (small : (i : ℕ) → get_or l i 0 < 2 ^ 64) (few : (i : ℕ) → get_or w i 0 < 2 ^ 64) where
  abbrev four_taken : List ℕ
  four_taken = take 4 (drop at l)

  four_long : length four_taken ≡ 4
  four_long = length-take-le 4 (drop at l) (omega (arith, length-drop at l))

  at-0 : get_or four_taken 0 0 ≡ get_or l at 0
  at-0 = taken_at l at 0 (omega arith) ∙ ap (λ (i : ℕ). get_or l i 0) (add-zero at)

  same-number : four_taken ≡ w → four_at l at ≡ four_at w 0
  same-number e =
      four_same
      (sym at-0 ∙ ap (λ (t : List ℕ). get_or t 0 0) e)
      (sym (taken_at l at 1 (omega arith)) ∙ ap (λ (t : List ℕ). get_or t 1 0) e)
      (sym (taken_at l at 2 (omega arith)) ∙ ap (λ (t : List ℕ). get_or t 2 0) e)
      (sym (taken_at l at 3 (omega arith)) ∙ ap (λ (t : List ℕ). get_or t 3 0) e)

  same-words : four_at l at ≡ four_at w 0 → four_taken ≡ w
  same-words e =
      let s = four-words-same _ _ _ _ _ _ _ _ (small at) (small (at + 1)) (small (at + 2)) (few 0) (few 1) (few 2) e in
      same_four four_taken w four_long four
      (at-0 ∙ s.0) (taken_at l at 1 (omega arith) ∙ s.1) (taken_at l at 2 (omega arith) ∙ s.2) (taken_at l at 3 (omega arith) ∙ s.3)

  decided : (b : Bool) → pointwise eqb four_taken w ≡ b → b ≡ eqb (four_at l at) (four_at w 0)
  decided true h = sym (eq-eqb _ _ (same-number ((bytes_decides four_taken w).0 h)))
  decided false h = sym (ne_eqb _ _ (λ e. clash (sym h ∙ (bytes_decides four_taken w).1 (same-words e))))

  -- they are those of the pattern only where their numbers are equal
  pub four_compared : pointwise eqb (take 4 (drop at l)) w ≡ eqb (four_at l at) (four_at w 0)
  four_compared = decided (pointwise eqb four_taken w) refl

-- the words that a pattern takes in a list are its first ones
pub in_taken : (n : ℕ) (w : List ℕ) → length w ≡ 4 → ((i : ℕ) → get_or w i 0 < 2 ^ 64) → four_at w 0 < 2 ^ (n * n) → in_words n (four_at w 0) ≡ take (words_of n) w
in_taken n [] e h l = absurd (omega arith)
in_taken n (a ∷ []) e h l = absurd (omega arith)
in_taken n (a ∷ b ∷ []) e h l = absurd (omega arith)
in_taken n (a ∷ b ∷ c ∷ []) e h l = absurd (omega arith)
in_taken n (a ∷ b ∷ c ∷ d ∷ []) e h l =
    elim (dec_le n 8) [
      | yes s ↦
          in-narrow n _ s ∙ ap (λ (x : ℕ). x ∷ []) (number-narrow n a b c d s (h 0) l) ∙ ap (λ (m : ℕ). take m (a ∷ b ∷ c ∷ d ∷ [])) (sym (width_narrow n s))
      | no s ↦
          let wide : 8 < n = omega arith in
          in-wide n _ wide ∙ in-four a b c d (h 0) (h 1) (h 2) ∙ ap (λ (m : ℕ). take m (a ∷ b ∷ c ∷ d ∷ [])) (sym (width-wide n wide))
    ]
in_taken n (a ∷ b ∷ c ∷ d ∷ x ∷ t) e h l = absurd (omega arith)
