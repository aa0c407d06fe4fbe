-- Refusals in order: what follows where no check fails, and the answer in each case.
use Prim.Native.Nat.{ℕ, zero, suc, ◌-◌}
use mathlib.Core.Path.{◌≡◌, refl, sym, ap₂, ◌∙◌}
use mathlib.Core.Bool.{Bool, true, false, not}
use mathlib.Core.List.{List, [], ◌∷◌}
use native.Mathlib.Omega.{arith}
use borrow.Author.Tests.{not-true, eqb-false}
use lib.Dec.{eqb}
use Rattle.arith.proofs.Bools.{both_of}
use Rattle.arith.specs.Checks.{unless, refusal, Hold, elsewhere, refused, given, answer, lent}

-- no refusal: the check holds, and none after it fails
pub passed : (b : Bool) (k rest : ℕ) → unless b (suc k) rest ≡ 0 → (b ≡ true) × (rest ≡ 0)
passed true k rest h = (refl, h)
passed false k rest h = absurd (omega arith)

-- the check fails: its number, whatever the checks after it say
pub failed : (k rest : ℕ) {b : Bool} → b ≡ false → k ≡ unless b k rest
failed k rest e = rw e

-- a check as the code makes it: its test b is the check a, and r is what the checks after it say
pub checked : (k : ℕ) {t r s : ℕ} {a b : Bool} → t ≡ unless b k r → b ≡ a → r ≡ s → t ≡ unless a k s
checked k e f g = e ∙ ap₂ (λ (x : Bool) (y : ℕ). unless x k y) f g

-- no check of a list fails: all hold, and nothing after them fails
pub holds : (l : List (Bool × ℕ)) (rest : ℕ) → refusal l rest ≡ 0 → Hold l × (rest ≡ 0)
holds [] rest h = (tt, h)
holds ((true, k) ∷ l) rest h = let p = holds l rest h in ((refl, p.0), p.1)
holds ((false, k) ∷ l) rest h = absurd (omega arith)

-- all hold: what comes after decides
pub passes : (l : List (Bool × ℕ)) (rest : ℕ) → Hold l → refusal l rest ≡ rest
passes [] rest h = refl
passes ((b, k) ∷ l) rest h = rw h.0 (passes l rest h.1)

-- one fails: what comes after does not matter
pub kept : (l : List (Bool × ℕ)) (rest : ℕ) → (refusal l 0 ≡ 0 → ⊥) → refusal l rest ≡ refusal l 0
kept [] rest h = absurd (h refl)
kept ((true, k) ∷ l) rest h = kept l rest h
kept ((false, k) ∷ l) rest h = refl

-- a number that none of the checks has comes from what is after them
pub later : (l : List (Bool × ℕ)) (rest m : ℕ) → elsewhere m l ≡ true → refusal l rest ≡ m → Hold l × (rest ≡ m)
later [] rest m h e = (tt, e)
later ((true, k) ∷ l) rest m h e =
    let p = later l rest m (both_of (not (eqb (suc (k - 1)) m)) (elsewhere m l) h).1 e in
    ((refl, p.0), p.1)
later ((false, k) ∷ l) rest m h e =
    absurd (eqb-false (suc (k - 1)) m (not-true _ (both_of (not (eqb (suc (k - 1)) m)) (elsewhere m l) h).0) e)

module _ {A : Type 0} where
  pub answer-refused : (k : ℕ) (a : A) → (k ≡ 0 → ⊥) → refused k ≡ answer k a
  answer-refused zero a h = absurd (h refl)
  answer-refused (suc k) a h = refl

  pub answer-given : (k : ℕ) (a : A) → k ≡ 0 → given a ≡ answer k a
  answer-given k a e = rw e

  -- the answer of a call that has worked out the number t, with b in hand
  pub refused-by : {t k : ℕ} (a : A) → t ≡ k → (t ≡ 0 → ⊥) → refused t ≡ answer k a
  refused-by {t} a e h = rw (← e) (answer-refused t a h)

  pub given_by : {t k : ℕ} {a b : A} → t ≡ k → t ≡ 0 → b ≡ a → given b ≡ answer k a
  given_by e h v = rw (← e, h, v)

  pub lent-refused : (k : ℕ) (new old : A) → (k ≡ 0 → ⊥) → old ≡ lent k new old
  lent-refused zero new old h = absurd (h refl)
  lent-refused (suc k) new old h = refl

  pub lent-given : (k : ℕ) (new old : A) → k ≡ 0 → new ≡ lent k new old
  lent-given k new old e = rw e

  -- what was given is the value, and no check failed
  pub given-means : (k : ℕ) (a b : A) → answer k a ≡ given b → (k ≡ 0) × (a ≡ b)
  given-means zero a b e = (refl, cc)
  given-means (suc k) a b e = absurd (let z : ◌≡◌ {A = ℕ} 0 1 = cc in omega arith)

  -- what was refused has the number of the check that failed
  pub refused-means : (k number : ℕ) (a : A) → answer k a ≡ refused number → (number ≡ k) × (k ≡ 0 → ⊥)
  refused-means zero number a e = absurd (let z : ◌≡◌ {A = ℕ} 0 1 = cc in omega arith)
  refused-means (suc k) number a e = (cc, λ z. omega arith)

  -- what is given, is one thing only, and is not refused
  pub given-same : {a b : A} → given a ≡ given b → a ≡ b
  given-same {a} {b} e = (given-means 0 a b e).1

  pub given-never : {X : Type 0} {k : ℕ} {a : A} → refused k ≡ given a → X
  given-never {k = k} {a = a} e = absurd ((refused-means 0 k a (sym e)).1 refl)
