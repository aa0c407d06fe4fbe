-- The list as it grows, candidate by candidate, and its length.
use Prim.Native.Nat.{ℕ, zero, suc, ◌+◌, ◌-◌, ◌*◌, ◌≤◌, ◌<◌}
use mathlib.Core.Bool.{Bool, true, false, cond, ◌||◌, or-true}
use mathlib.Core.List.{List, [], ◌∷◌, ◌++◌}
use mathlib.Core.Logic.{⊎_elim}
use mathlib.Core.Path.{◌≡◌, refl, ap, ◌∙◌}
use native.Mathlib.Nat.{mul-le-mul_right, suc-mul, add-zero, add-suc, add-sub_of_le}
use native.Mathlib.Numerals.{add-one}
use native.Mathlib.Omega.{arith}
use borrow.Author.Tests.{eq-eqb, ne_eqb}
use lib.Dec.{eqb}
use lib.ListN.{length, get_or}
use Rattle.wedgelet.specs.Wedgelet.{points, wedgelet, holds, keep, ends, starts, wedgelet_list}
use Rattle.arith.proofs.ListLaws.{length-end}
use Rattle.wedgelet.specs.Answer.{needed}
use Rattle.wedgelet.proofs.LineLaws.{le-or-lt}

-- ---- whether a word stands in a list

pub holds_at : (l : List ℕ) (w k : ℕ) → k < length l → get_or l k 0 ≡ w → holds l w ≡ true
unfolding holds
holds_at [] w k h e = absurd (omega arith)
holds_at (a ∷ l) w zero h e = rw (eq-eqb a w e)
holds_at (a ∷ l) w (suc k) h e = ap (λ (b : Bool). eqb a w || b) (holds_at l w k (omega arith) e) ∙ or-true (eqb a w)

pub holds-none : (l : List ℕ) (w : ℕ) → ((k : ℕ) → k < length l → get_or l k 0 ≡ w → ⊥) → holds l w ≡ false
unfolding holds
holds-none [] w h = refl
holds-none (a ∷ l) w h = rw (ne_eqb a w (h zero (omega arith))) (holds-none l w (λ k lt. h (suc k) (omega arith)))

-- ---- one candidate more

module _ (n : ℕ) (l : List ℕ) (s e : ℕ) where
  step : ends n l s (e + 1) ≡ cond (eqb e s) (ends n l s e) (keep (ends n l s e) (wedgelet n s e))
  unfolding ends
  step = ap (ends n l s) (add-one e)

  pub skip-same : e ≡ s → ends n l s (e + 1) ≡ ends n l s e
  skip-same h = step ∙ rw (eq-eqb e s h)

  pub skip-zero : (e ≡ s → ⊥) → wedgelet n s e ≡ 0 → ends n l s (e + 1) ≡ ends n l s e
  unfolding keep
  skip-zero d h = step ∙ rw (ne_eqb e s d, eq-eqb (wedgelet n s e) 0 h)

  pub skip-held : (e ≡ s → ⊥) → holds (ends n l s e) (wedgelet n s e) ≡ true → ends n l s (e + 1) ≡ ends n l s e
  unfolding keep
  skip-held d h = step ∙ rw (ne_eqb e s d, h, or-true)

  pub kept : (e ≡ s → ⊥) → (wedgelet n s e ≡ 0 → ⊥) → holds (ends n l s e) (wedgelet n s e) ≡ false → ends n l s (e + 1) ≡ ends n l s e ++ (wedgelet n s e ∷ [])
  unfolding keep
  kept d z h = step ∙ rw (ne_eqb e s d, ne_eqb (wedgelet n s e) 0 z, h)

-- ---- the length of the list

keep-by : (b : Bool) (l : List ℕ) (w : ℕ) → (length l ≤ length (cond b l (l ++ (w ∷ [])))) × (length (cond b l (l ++ (w ∷ []))) ≤ length l + 1)
keep-by true l w = omega arith
keep-by false l w = omega (arith, length-end l w)

keep-length : (l : List ℕ) (w : ℕ) → (length l ≤ length (keep l w)) × (length (keep l w) ≤ length l + 1)
unfolding keep
keep-length l w = keep-by (eqb w 0 || holds l w) l w

ends_by :
    (b : Bool) (l : List ℕ) (w : ℕ)
    → (length l ≤ length (cond b l (keep l w))) × (length (cond b l (keep l w)) ≤ length l + 1)
ends_by true l w = omega arith
ends_by false l w = keep-length l w

pub ends-length : (n : ℕ) (l : List ℕ) (s e : ℕ) → (length l ≤ length (ends n l s e)) × (length (ends n l s e) ≤ length l + e)
unfolding ends
ends-length n l s zero = omega arith
ends-length n l s (suc e) = omega (arith, ends-length n l s e, ends_by (eqb e s) (ends n l s e) (wedgelet n s e))

-- the candidate (s, s) is left out
ends-past : (n : ℕ) (l : List ℕ) (s d : ℕ) → length (ends n l s (suc s + d)) < length l + (suc s + d)
unfolding ends
ends-past n l s zero = rw (add-zero, eq-eqb s s refl) (omega (arith, ends-length n l s s))
ends-past n l s (suc d) =
    rw add-suc (omega (arith, ends-past n l s d, ends_by (eqb (suc s + d) s) (ends n l s (suc s + d)) (wedgelet n s (suc s + d))))

pub ends-after : (n : ℕ) (l : List ℕ) (s e : ℕ) → s < e → length (ends n l s e) < length l + e
ends-after n l s e h = rw (← add-sub_of_le h) (ends-past n l s (e - suc s))

pub starts-length : (n s : ℕ) → s ≤ points n → length (starts n s) ≤ s * (points n - 1)
unfolding starts
starts-length n zero h = omega arith
starts-length n (suc s) h =
    omega (arith, suc-mul s (points n - 1), starts-length n s (omega arith), ends-after n (starts n s) s (points n) h)

-- there is room for one word more at each candidate
pub room : (n s e : ℕ) → s < points n → e < points n → (e ≡ s → ⊥) → length (ends n (starts n s) s e) < needed n
room n s e hs he d =
    let whole : suc s * (points n - 1) ≤ needed n = mul-le-mul_right (points n - 1) hs in
    ⊎_elim
    (λ (h : e ≤ s). omega (arith, whole, suc-mul s (points n - 1), starts-length n s (omega arith), ends-length n (starts n s) s e))
    (λ (h : s < e). omega (arith, whole, suc-mul s (points n - 1), starts-length n s (omega arith), ends-after n (starts n s) s e h))
    (le-or-lt e s)

pub list_length : (n : ℕ) → length (wedgelet_list n) ≤ needed n
unfolding wedgelet_list
list_length n = starts-length n (points n) (omega arith)
