-- Laws of the value at an index plus an offset: its range, and the steps in which the code finds it.
use Prim.Native.Nat.{ℕ, ◌-◌, ◌^◌, ◌<◌, min}
use mathlib.Core.Path.{◌≡◌, ap}
use mathlib.Core.Bool.{true}
use mathlib.Core.List.{List}
use native.Mathlib.Omega.{arith}
use lib.IntN.{ℤ, pos, negsuc, ◌+ℤ◌}
use lib.ListN.{length, get_or}
use mir.Syntax.{w64}
use Rattle.std.specs.Int.{saturate_unsigned}
use Rattle.arith.specs.Checks.{given}
use Rattle.arith.specs.Distance.{clamped}
use Rattle.arith.proofs.Bools.{both_of}
use Rattle.depth_table.specs.Table.{table_ok, some_value, index_of}
use Rattle.depth_table.specs.Answer.{nearest_answer, value_answer}
use Rattle.depth_table.specs.Offset.{offset_ok, value_of, level_of}
use Rattle.depth_table.proofs.TableLaws.{table-bytes}
use Rattle.depth_table.proofs.OffsetLaws.{clamped_sum}

-- every value of a sound table is below 256
pub level-byte : (t : List ℕ) (d : ℕ) (off : ℤ) → table_ok t ≡ true → level_of t d off < 256
unfolding level_of
level-byte t d off ok = table-bytes t ok (clamped (length t) (index_of t d) off)

-- a clamped place is below the count
pub clamped-lt : (count i : ℕ) (z : ℤ) → 0 < count → clamped count i z < count
unfolding clamped
clamped-lt count i (pos k) h = omega arith
clamped-lt count i (negsuc k) h = omega arith

-- the saturating sum, held to the last place; b is the offset by its bits
pub place_held :
    (count i : ℕ) (off : ℤ) {b : ℤ} {sum place : ℕ} → count < 2 ^ 64 → b ≡ off → sum ≡ saturate_unsigned w64 (pos i +ℤ b)
    → place ≡ min sum (count - 1) → place ≡ clamped count i off
place_held count i off h o s p = rw (p, s, o) (clamped_sum count i off h)

-- the value at that place
pub value_held :
    (t : List ℕ) (i : ℕ) (off : ℤ) {b : ℤ} {sum place : ℕ} → length t < 2 ^ 64 → b ≡ off → sum ≡ saturate_unsigned w64 (pos i +ℤ b)
    → place ≡ min sum (length t - 1) → get_or t place 0 ≡ value_of t i off
value_held t i off h o s p = ap (λ (k : ℕ). get_or t k 0) (place_held (length t) i off h o s p)

-- ---- where there is a value nothing is refused

-- a sound table has one
pub table-some : (t : List ℕ) → table_ok t ≡ true → some_value t ≡ true
unfolding table_ok
table-some t ok = (both_of (some_value t) _ ok).0

pub nearest-given : (t : List ℕ) (d : ℕ) → some_value t ≡ true → nearest_answer t d ≡ given (index_of t d)
unfolding nearest_answer
nearest-given t d some = rw some

pub value-given : (t : List ℕ) (i : ℕ) (off : ℤ) → some_value t ≡ true → offset_ok off ≡ true → value_answer t i off ≡ given (value_of t i off)
unfolding value_answer
value-given t i off some o = rw (some, o)
