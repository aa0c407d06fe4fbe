-- Refusals in order, and what a call answers and leaves behind.
use Rattle.std.specs.Prelude.{ℕ, zero, suc, ◌-◌, Bool, true, false, not, ◌&&◌, List, [], ◌∷◌, ◌≡◌, eqb}

-- a check with the number of its refusal, and what the checks after it say; 0 is no refusal
abbrev pub unless : Bool → ℕ → ℕ → ℕ
unless true number rest = rest
unless false number rest = number

-- checks in order, each with the number of its refusal: the number of the first that fails, else what comes after. A number is not 0, and
-- is written so that its form says it.
abbrev pub refusal : List (Bool × ℕ) → ℕ → ℕ
refusal [] rest = rest
refusal (c ∷ l) rest = unless c.0 (suc (c.1 - 1)) (refusal l rest)

-- every check holds
abbrev pub Hold : List (Bool × ℕ) → Type 0
Hold [] = Unit {0}
Hold (c ∷ l) = (c.0 ≡ true) × Hold l

-- no check has the number m
abbrev pub elsewhere : ℕ → List (Bool × ℕ) → Bool
elsewhere m [] = true
elsewhere m (c ∷ l) = not (eqb (suc (c.1 - 1)) m) && elsewhere m l

-- what a call answers: the number of a refusal, or what it gives
pub data Answer (A : Type 0) : Type 0 where
  refused : ℕ → Answer A
  given : A → Answer A

-- the answer of a call whose checks say the number
abbrev pub answer : {A : Type 0} → ℕ → A → Answer A
answer zero a = given a
answer (suc k) a = refused (suc k)

-- what a lent slice holds after a call whose checks say the number: a refusal leaves the old content
abbrev pub lent : {A : Type 0} → ℕ → A → A → A
lent zero new old = new
lent (suc k) new old = old
