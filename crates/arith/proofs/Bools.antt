-- Truth values.
use mathlib.Core.Path.{◌≡◌, refl, sym, subst}
use mathlib.Core.Bool.{Bool, true, false, ◌&&◌, ◌||◌}
use mathlib.Core.Logic.{◌⊎◌, inl, inr}
use lib.Dec.{T}

-- true is not false
pub clash {ℓ} : {X : Type ℓ} → true ≡ false → X
clash e = absurd (subst T e tt)

pub both_of : (a b : Bool) → a && b ≡ true → (a ≡ true) × (b ≡ true)
both_of true b h = (refl, h)
both_of false b h = clash (sym h)

-- two tests in turn: the first fails
pub first-fails : {a : Bool} (b : Bool) → a ≡ false → false ≡ a && b
first-fails b e = rw e

-- the first holds, and the second says which
pub first_holds : {a b r : Bool} → a ≡ true → r ≡ b → r ≡ a && b
first_holds e f = rw e f

pub either-of : (a b : Bool) → a || b ≡ true → (a ≡ true) ⊎ (b ≡ true)
either-of true b h = inl refl
either-of false b h = inr h
