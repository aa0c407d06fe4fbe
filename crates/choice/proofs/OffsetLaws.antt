-- Offsets and their numbers 0, 1, 2, ..: one for one, in the order between equals, the reach R being the numbers 0 .. 2R.
use Prim.Native.Nat.{ℕ, suc, ◌+◌, ◌-◌, ◌*◌, ◌/◌, ◌%◌, ◌≤◌, ◌<◌, min}
use mathlib.Core.Path.{◌≡◌, refl, sym, ap, ◌∙◌}
use mathlib.Core.Bool.{Bool, true, false, cond}
use mathlib.Core.Logic.{inl, inr, ⊎_elim}
use native.Mathlib.Omega.{arith}
use native.Mathlib.Nat.{eq-or-lt_of_le}
use lib.IntN.{ℤ, pos, negsuc}
use lib.Dec.{eqb}
use borrow.Author.Tests.{eq-eqb, ne_eqb, eqb-true, eqb-false}
use Rattle.choice.specs.Offset.{InReach, Sooner, trial, offset}

-- the offsets 0, 1, 2, .. have the even numbers, -1, -2, .. the odd ones
pub offset-even : (k : ℕ) → offset (2 * k) ≡ pos k
offset-even k = rw (eq-eqb (2 * k % 2) 0 (omega arith)) (ap pos (omega arith))

pub offset-odd : (k : ℕ) → offset (2 * k + 1) ≡ negsuc k
offset-odd k = rw (ne_eqb ((2 * k + 1) % 2) 0 (omega arith)) (ap negsuc (omega arith))

pub offset-trial : (o : ℤ) → offset (trial o) ≡ o
offset-trial (pos k) = offset-even k
offset-trial (negsuc k) = offset-odd k

pub trial-offset : (t : ℕ) → trial (offset t) ≡ t
trial-offset t = go (eqb (t % 2) 0) refl
  where
    go : (b : Bool) → eqb (t % 2) 0 ≡ b → trial (cond b (pos (t / 2)) (negsuc (t / 2))) ≡ t
    go true e = omega (arith, eqb-true (t % 2) 0 e)
    go false e = omega (arith, eqb-false (t % 2) 0 e)

-- offsets with one number are one
pub trial-same : (a b : ℤ) → trial a ≡ trial b → a ≡ b
trial-same a b e = sym (offset-trial a) ∙ ap offset e ∙ offset-trial b

-- the offsets in reach have the numbers 0 .. 2R
pub trial-in : (R : ℕ) (o : ℤ) → InReach R o → trial o ≤ 2 * R
trial-in R (pos k) h = omega arith
trial-in R (negsuc k) h = omega arith

pub in-trial : (R : ℕ) (o : ℤ) → trial o ≤ 2 * R → InReach R o
in-trial R (pos k) h = omega arith
in-trial R (negsuc k) h = omega arith

pub in-offset : (R t : ℕ) → t ≤ 2 * R → InReach R (offset t)
in-offset R t h = in-trial R (offset t) (rw trial-offset h)

-- a reach below the count is the one in use, and one in use stays so
pub reach-same : (R count : ℕ) → R < count → R ≡ min R (count - 1)
reach-same R count h = omega arith

pub reach-again : (R last : ℕ) {near : ℕ} → near ≡ min R last → min near last ≡ min R last
reach-again R last e = omega arith

-- the one that comes first has the lower number, and the other way round
pub sooner-trial : (a b : ℤ) → Sooner a b → trial a < trial b
sooner-trial (pos j) (pos k) s = ⊎_elim (λ l. omega arith) (λ w. absurd w.1) s
sooner-trial (pos j) (negsuc k) s = ⊎_elim (λ l. omega arith) (λ w. absurd w.1) s
sooner-trial (negsuc j) (pos k) s = ⊎_elim (λ l. omega arith) (λ w. omega (arith, w.0)) s
sooner-trial (negsuc j) (negsuc k) s = ⊎_elim (λ l. omega arith) (λ w. absurd (w.2 tt)) s

pub trial-sooner : (a b : ℤ) → trial a < trial b → Sooner a b
trial-sooner (pos j) (pos k) h = inl (omega arith)
trial-sooner (pos j) (negsuc k) h = inl (omega arith)
trial-sooner (negsuc j) (pos k) h =
    ⊎_elim (λ e. inr (e, tt, λ z. z)) (λ l. inl l)
    (let le : suc j ≤ k = omega arith in eq-or-lt_of_le le)
trial-sooner (negsuc j) (negsuc k) h = inl (omega arith)

-- of two offsets neither of which comes first, both are one
pub same-offset : (a b : ℤ) → (Sooner a b → ⊥) → (Sooner b a → ⊥) → a ≡ b
same-offset a b p q =
    let l : trial a < trial b → ⊥ = λ h. p (trial-sooner a b h) in
    let g : trial b < trial a → ⊥ = λ h. q (trial-sooner b a h) in
    trial-same a b (let e : trial a ≡ trial b = omega arith in e)
