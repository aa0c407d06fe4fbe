-- Signed numbers from their magnitude, as the code computes them.
use Prim.Native.Nat.{ℕ, zero, suc, ◌-◌, ◌<◌}
use mathlib.Core.Path.{◌≡◌, ◌∙◌, ap}
use native.Mathlib.Omega.{arith}
use mathlib.Core.Bool.{Bool, true, false}
use lib.Dec.{T}
use lib.IntN.{ℤ, pos, negsuc, nat_abs, ◌-ℤ◌, +ℤ_idl}
use lib.Signed.{non_neg}
use mir.Syntax.{w32}
use mir.Val.{Fits, SFits, to_z, of_z}
use mir.ValLaws.{to_z_pos, to_z-of_z}
use Rattle.record_text.specs.Numeral.{numeral_end}
use Rattle.record_text.specs.Codec.{FieldPrintable}

-- a number that fits stands for itself
pub word_back : (z : ℤ) → SFits w32 z → to_z w32 (of_z w32 z) ≡ z
word_back z f = to_z-of_z w32 z f

pub positive-is : (v : ℕ) → v < numeral_end → to_z w32 v ≡ pos v
positive-is v h = to_z_pos w32 v (omega arith)

pub negative-is : (v : ℕ) → 0 < v → v < numeral_end → pos 0 -ℤ to_z w32 v ≡ negsuc (v - 1)
negative-is zero h l = absurd (omega arith)
negative-is (suc v) h l = rw (positive-is (suc v) l) (+ℤ_idl (negsuc v) ∙ ap negsuc (omega arith))

pub negative_fits : (v : ℕ) → 0 < v → v < numeral_end → SFits w32 (pos 0 -ℤ to_z w32 v)
negative_fits v h l = rw (negative-is v h l) (record { sfits = omega arith })

-- a number of a field without a minus is not below 0
pub unsigned-fits : (z : ℤ) → FieldPrintable false z → T (non_neg z) × Fits w32 (nat_abs z)
unsigned-fits (pos n) h = (tt, record { fits = omega arith })
unsigned-fits (negsuc n) h = absurd h

-- a number that can be printed in a field stands for itself
pub field_back : (m : Bool) (z : ℤ) → FieldPrintable m z → to_z w32 (of_z w32 z) ≡ z
field_back m z h = word_back z (fits m z h)
  where
    fits : (m : Bool) (z : ℤ) → FieldPrintable m z → SFits w32 z
    fits true (pos n) h = record { sfits = omega arith }
    fits true (negsuc n) h = record { sfits = omega arith }
    fits false (pos n) h = record { sfits = omega arith }
    fits false (negsuc n) h = absurd h
