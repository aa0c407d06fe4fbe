-- An index plus an offset, clamped: what the library's saturating sum and least number give.
use Prim.Native.Nat.{ℕ, ◌-◌, ◌^◌, ◌<◌, min}
use mathlib.Core.Path.{◌≡◌}
use native.Mathlib.Omega.{arith}
use lib.IntN.{ℤ, pos, negsuc, ◌+ℤ◌}
use mir.Syntax.{w64}
use Rattle.std.proofs.lemmas.Int.{ints}
use Rattle.std.specs.Int.{saturate_unsigned}
use Rattle.arith.specs.Distance.{clamped}

-- a count is a number of 64 bits, so where the sum saturates it is past the last place
pub clamped_sum :
    (count i : ℕ) (z : ℤ) → count < 2 ^ 64 → min (saturate_unsigned w64 (pos i +ℤ z)) (count - 1) ≡ clamped count i z
unfolding clamped
clamped_sum count i (pos k) h = omega (arith, ints)
clamped_sum count i (negsuc k) h = omega (arith, ints)
