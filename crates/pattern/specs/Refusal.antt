-- The refusals and their numbers, and what a call's result says in these numbers.
use Rattle.std.specs.Prelude.{ℕ, ◌≡◌, Bool, true, false, Result, Ok, Err}
use Rattle.arith.specs.Checks.{Answer, refused, given}
use Rattle.pattern.specs.Size.{size_ok}
use Rattle.pattern.specs.declared.refusals.Refusal.{Refusal}
use Rattle.pattern.specs.declared.refusals.Refusal.TheVariants as refusal

-- the number of a refusal
abbrev pub number_of : Refusal → ℕ
number_of refusal.Size = 1
number_of refusal.Length = 2
number_of refusal.Table = 3
number_of refusal.Offset = 4
number_of refusal.Pattern = 5
number_of refusal.Entry = 6
number_of refusal.Kind = 7
number_of refusal.Sides = 8
number_of refusal.Form = 9
number_of refusal.NoPattern = 10
number_of refusal.Full = 20
number_of refusal.NoTexture = 21
number_of refusal.Missing = 22
number_of refusal.Placed = 23
number_of refusal.OffsetPastTable = 24

-- a number is refused as a size: it is not an allowed one
abbrev pub IsSizeRefusal : ℕ → Refusal → Type 0
IsSizeRefusal n r = (size_ok n ≡ false) × (r ≡ refusal.Size)

-- what a check answers: nothing, or the error it was given
abbrev pub checked : {E : Type 0} → Bool → E → Result Unit E
checked true e = Ok (record {})
checked false e = Err e

-- the number of a call's refusal, 0 for none
abbrev pub refusal_in : {A : Type 0} → Result A Refusal → ℕ
refusal_in (Ok a) = 0
refusal_in (Err r) = number_of r

-- a call's result: the number of its refusal, or what it gives
abbrev pub told : {A B : Type 0} → (A → B) → Result A Refusal → Answer B
told f (Ok a) = given (f a)
told f (Err r) = refused (number_of r)
