-- Patterns by number, the entries first and then the contour; and the least of a cost of two parts.
use Prim.Native.Nat.{ℕ, zero, suc, ◌+◌, ◌-◌, ◌≤◌, ◌<◌}
use mathlib.Core.Path.{◌≡◌, refl, sym}
use mathlib.Core.Bool.{Bool, true, false, cond}
use mathlib.Core.Logic.{◌⊎◌, inl, inr, ⊎_elim}
use native.Mathlib.Decide.{dec_lt}
use native.Mathlib.Omega.{arith}
use lib.Dec.{ltb}
use lib.ListN.{length}
use borrow.Author.Tests.{lt-ltb, le-ltb, ltb-true}
use Rattle.arith.proofs.Bools.{clash}
use Rattle.choice.specs.Case.{Case}
use Rattle.pattern.specs.Answer.{textured}
use Rattle.choice.specs.Record.{PatternIn, pattern_by}
use Rattle.choice.specs.Search.{pattern_at, last_pattern}
use Rattle.choice.specs.Trial.{trial_over}
use Rattle.choice.proofs.TrialLaws.{trial-best}

-- ---- a cost of two parts, each with a number of its own, both at most N

module _ (u m : ℕ → ℕ) (N c d : ℕ) (hc : c ≤ N) (hd : d ≤ N) where
  abbrev best-u : ℕ
  best-u = (trial_over u N).0

  abbrev best-m : ℕ
  best-m = (trial_over m N).0

  -- one part at a time is enough
  pub parts-least : u best-u + m best-m ≤ u c + m d
  parts-least = omega (arith, (trial-best u N).least c (omega arith), (trial-best m N).least d (omega arith))

  -- what comes before the first least of each costs more
  pub parts_first : (c < best-u) ⊎ ((c ≡ best-u) × (d < best-m)) → u best-u + m best-m < u c + m d
  parts_first =
      ⊎_elim
      (λ l. omega (arith, (trial-best u N).first c l, (trial-best m N).least d (omega arith)))
      (λ w. rw w.0 (omega (arith, (trial-best m N).first d w.1)))

-- ---- the number of a pattern

module _ (C : Case) where
  abbrev pub number_of : ℕ → ℕ → ℕ
  number_of zero entry = entry
  number_of (suc k) entry = C.count

  -- an entry, or the contour
  pub number_is :
      (k e : ℕ) → PatternIn C k e
      → ((k ≡ 0) × (e < C.count) × (number_of k e ≡ e)) ⊎ ((k ≡ 1) × (e ≡ 0) × (number_of k e ≡ C.count))
  number_is k e = ⊎_elim (λ w. inl (w.0, w.1, rw w.0)) (λ w. inr (w.0, w.1, rw w.0))

  last-by : (b : Bool) → C.count - 1 ≤ cond b C.count (C.count - 1)
  last-by true = omega arith
  last-by false = omega arith

  pub number_in : (k e : ℕ) → PatternIn C k e → number_of k e ≤ last_pattern C
  number_in k e =
      ⊎_elim (λ w. rw w.0 (omega (arith, w.1, last-by (textured C.texture)))) (λ w. rw (w.0, lt-ltb 0 (length C.texture) w.2) (omega arith))

  pub number-pattern : (k e : ℕ) → PatternIn C k e → pattern_at C (number_of k e) ≡ pattern_by C k e
  number-pattern k e =
      ⊎_elim (λ w. rw (w.0, lt-ltb e C.count w.1)) (λ w. rw (w.0, le-ltb C.count C.count (omega arith)))

  -- the order of patterns is that of their numbers
  pub number-before :
      (k e j f : ℕ) → PatternIn C k e → PatternIn C j f → (k < j) ⊎ ((k ≡ j) × (e < f)) → number_of k e < number_of j f
  number-before k e j f h g b =
      ⊎_elim
      (λ x. ⊎_elim (λ y. ⊎_elim (λ l. omega arith) (λ w. omega arith) b) (λ y. omega arith) (number_is j f g))
      (λ x. ⊎_elim (λ l. ⊎_elim (λ y. omega arith) (λ y. omega arith) (number_is j f g)) (λ w. ⊎_elim (λ y. omega arith) (λ y. omega arith) (number_is j f g)) b)
      (number_is k e h)

  -- ---- the pattern of a number

  abbrev pub kind_at : ℕ → ℕ
  kind_at p = cond (ltb p C.count) 0 1

  abbrev pub entry_at : ℕ → ℕ
  entry_at p = cond (ltb p C.count) p 0

  -- the number of an entry, or with texture the count
  number-cases :
      (b : Bool) → textured C.texture ≡ b → (0 < C.count) ⊎ (b ≡ true) → (p : ℕ) → p ≤ cond b C.count (C.count - 1) → Dec (p < C.count)
      → (p < C.count) ⊎ ((p ≡ C.count) × (0 < length C.texture))
  number-cases b e s p l (yes h) = inl h
  number-cases true e s p l (no h) = inr (omega arith, ltb-true 0 (length C.texture) e)
  number-cases false e s p l (no h) = ⊎_elim (λ q. absurd (omega arith)) (λ q. clash (sym q)) s

  pub number-either :
      (0 < C.count) ⊎ (textured C.texture ≡ true) → (p : ℕ) → p ≤ last_pattern C → (p < C.count) ⊎ ((p ≡ C.count) × (0 < length C.texture))
  number-either s p l = number-cases (textured C.texture) refl s p l (dec_lt p C.count)

  module _ (p : ℕ) (h : (p < C.count) ⊎ ((p ≡ C.count) × (0 < length C.texture))) where
    pub at_in : PatternIn C (kind_at p) (entry_at p)
    at_in =
        ⊎_elim
        (λ l. rw (lt-ltb p C.count l) (inl (refl, l)))
        (λ w. rw (le-ltb p C.count (omega (arith, w.0))) (inr (refl, refl, w.1)))
        h

    pub at-number : number_of (kind_at p) (entry_at p) ≡ p
    at-number = ⊎_elim (λ l. rw (lt-ltb p C.count l)) (λ w. rw (le-ltb p C.count (omega (arith, w.0))) (sym w.0)) h
