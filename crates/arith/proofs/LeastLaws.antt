-- The first least: there is one and only one, and `least_to` finds it.
use Prim.Native.Nat.{ℕ, zero, suc, ◌+◌, ◌≤◌, ◌<◌}
use mathlib.Core.Path.{◌≡◌, refl, subst⁻¹}
use mathlib.Core.Bool.{Bool, true, false, cond}
use mathlib.Core.Logic.{◌⊎◌, ⊎_elim}
use native.Mathlib.Omega.{arith}
use native.Mathlib.Nat.{eq-or-lt_of_le, le_of_suc-le-suc}
use native.Mathlib.Numerals.{add-one}
use lib.Dec.{ltb}
use borrow.Author.Tests.{ltb-true, ltb-false}
use Rattle.arith.specs.Least.{First, least_to}

-- below n + 1: n itself, or below n
pub last-or-below : {k n : ℕ} → k < suc n → (k ≡ n) ⊎ (k < n)
last-or-below h = eq-or-lt_of_le (le_of_suc-le-suc h)

module _ (f : ℕ → ℕ) where
  -- one candidate
  pub first_one : First f 1 0
  first_one = record { within = omega arith; least = one; first = none }
    where
      one : (k : ℕ) → k < 1 → f 0 ≤ f k
      one k h = subst⁻¹ (λ (i : ℕ). f 0 ≤ f i) (let e : k ≡ 0 = omega arith in e) (omega arith)

      none : (k : ℕ) → k < 0 → f 0 < f k
      none k h = omega arith

  -- one candidate more, which is less
  pub first-new : {n r : ℕ} → First f n r → f n < f r → First f (suc n) n
  first-new {n} {r} p h =
      record {
        within = omega arith;
        least = λ k l. ⊎_elim (λ e. rw e (omega arith)) (λ b. omega (arith, p.least k b)) (last-or-below l);
        first = λ k l. omega (arith, p.least k l);
      }

  -- one candidate more, which is not less
  pub first-old : {n r : ℕ} → First f n r → f r ≤ f n → First f (suc n) r
  first-old {n} {r} p h =
      record {
        within = omega (arith, p.within);
        least = λ k l. ⊎_elim (λ e. rw e h) (λ b. p.least k b) (last-or-below l);
        first = p.first;
      }

  -- there is only one
  pub first-unique : {n r s : ℕ} → First f n r → First f n s → r ≡ s
  first-unique {n} {r} {s} p q =
      let a : r < s → ⊥ = λ l. omega (arith, q.first r l, p.least s q.within) in
      let b : s < r → ⊥ = λ l. omega (arith, p.first s l, q.least r p.within) in
      omega arith

  -- one candidate more, by the test that `least_to` makes
  pub first_step : {n r : ℕ} → First f n r → First f (suc n) (cond (ltb (f n) (f r)) n r)
  first_step {n} {r} p = go (ltb (f n) (f r)) refl
    where
      go : (b : Bool) → ltb (f n) (f r) ≡ b → First f (suc n) (cond b n r)
      go true e = first-new p (ltb-true (f n) (f r) e)
      go false e = first-old p (ltb-false (f n) (f r) e)

  -- what `least_to` gives is the one
  pub least_to-first : (n : ℕ) → First f (suc n) (least_to f n)
  unfolding least_to
  least_to-first zero = first_one
  least_to-first (suc n) = first_step (least_to-first n)

  pub first-least_to : {n r : ℕ} → First f (suc n) r → r ≡ least_to f n
  first-least_to {n} p = first-unique p (least_to-first n)

-- two functions that agree have the same first least
pub first-same : {f g : ℕ → ℕ} {n r : ℕ} → ((k : ℕ) → k < n → f k ≡ g k) → First f n r → First g n r
first-same {f} {g} {n} {r} e p =
    let er = e r p.within in
    record {
      within = p.within;
      least = λ k l. omega (arith, p.least k l, er, e k l);
      first = λ k l. omega (arith, p.first k l, er, e k (omega (arith, p.within)));
    }

-- A loop that keeps the best so far: after n candidates `at` is the first least and `cost` its value.
pub record Kept (f : ℕ → ℕ) (n at cost : ℕ) : Type 0 where
  pub is_first : First f n at
  pub its_value : cost ≡ f at

pub kept-one : {f : ℕ → ℕ} {x : ℕ} → x ≡ f 0 → Kept f 1 0 x
kept-one {f} e = record { is_first = first_one f; its_value = e }

-- a turn of the loop: candidate n has the value x, and is taken or passed
pub kept_new :
    {f : ℕ → ℕ} {n at cost at' cost' : ℕ} (x : ℕ) → Kept f n at cost → x ≡ f n → x < cost → at' ≡ n → cost' ≡ x
    → Kept f (n + 1) at' cost'
kept_new {f} {n} {at} {cost} {at'} {cost'} x k e l ea ec =
    rw (ea, ec, add-one) (record { is_first = first-new f k.is_first (omega (arith, k.its_value)); its_value = e })

pub kept-old :
    {f : ℕ → ℕ} {n at cost at' cost' : ℕ} (x : ℕ) → Kept f n at cost → x ≡ f n → cost ≤ x → at' ≡ at → cost' ≡ cost
    → Kept f (n + 1) at' cost'
kept-old {f} {n} {at} {cost} {at'} {cost'} x k e l ea ec =
    rw (ea, ec, add-one) (record { is_first = first-old f k.is_first (omega (arith, k.its_value)); its_value = k.its_value })

-- all n + 1 candidates have been seen
pub kept-all : {f : ℕ → ℕ} {m at cost : ℕ} (n : ℕ) → Kept f m at cost → m ≡ n + 1 → at ≡ least_to f n
kept-all {f} {m} {at} n k e = first-least_to f (rw (e, add-one) at k.is_first)
