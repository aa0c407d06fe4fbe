-- How long fields and lines are.
use Prim.Native.Nat.{ℕ, suc, ◌+◌, ◌*◌, ◌^◌, ◌≤◌, ◌<◌}
use mathlib.Core.Path.{◌≡◌}
use mathlib.Core.List.{List, [], ◌∷◌}
use native.Mathlib.Omega.{arith}
use lib.IntN.{ℤ, pos, negsuc, nat_abs}
use lib.ListN.{length, length-append}
use Rattle.record_text.specs.Numeral.{further_digits, numeral, signed_numeral}
use Rattle.record_text.specs.Field.{number_text, signed_text}
use Rattle.record_text.proofs.NumeralLaws.{further-le, further-below, length-numeral}
use Rattle.record_text.specs.declared.fields.SizeFields.{SizeFields}
use Rattle.record.specs.declared.Record.{Record}
use Rattle.record_text.specs.Line.{size_title, depth_title, record_title, end_of, line_text, size_text, value_text, record_text}

-- a field: its digits, its minus, and the byte after it
pub length-number : (e n : ℕ) → length (number_text e n) ≡ further_digits 4 n + 2
unfolding number_text
length-number e n = omega (arith, length-append (numeral n) (e ∷ []), length-numeral n)

pub length_above : (e n : ℕ) → length (signed_text e (pos n)) ≡ further_digits 4 n + 2
unfolding signed_text signed_numeral
length_above e n = omega (arith, length-append (numeral n) (e ∷ []), length-numeral n)

pub length-below : (e n : ℕ) → length (signed_text e (negsuc n)) ≡ further_digits 4 (suc n) + 3
unfolding signed_text signed_numeral
length-below e n = omega (arith, length-append (numeral (suc n)) (e ∷ []), length-numeral (suc n))

pub signed-some : (e : ℕ) (z : ℤ) → 0 < length (signed_text e z)
signed-some e (pos n) = omega (arith, length_above e n)
signed-some e (negsuc n) = omega (arith, length-below e n)

-- of a number below 10 ^ (k + 1)
pub number_short : (e k n : ℕ) → n < 10 ^ suc k → length (number_text e n) ≤ k + 2
number_short e k n h = omega (arith, length-number e n, further-below 4 k n h)

plain-short : (e k n : ℕ) → n < 10 ^ suc k → length (signed_text e (pos n)) ≤ k + 2
plain-short e k n h = omega (arith, length_above e n, further-below 4 k n h)

pub signed-short : (e k : ℕ) (z : ℤ) → nat_abs z < 10 ^ suc k → length (signed_text e z) ≤ k + 3
signed-short e k (pos n) h = omega (arith, length_above e n, further-below 4 k n h)
signed-short e k (negsuc n) h = omega (arith, length-below e n, further-below 4 k (suc n) h)

-- of any number
pub number-le : (e n : ℕ) → length (number_text e n) ≤ 6
number-le e n = omega (arith, length-number e n, further-le 4 n)

plain-le : (e n : ℕ) → length (signed_text e (pos n)) ≤ 6
plain-le e n = omega (arith, length_above e n, further-le 4 n)

pub signed_le : (e : ℕ) (z : ℤ) → length (signed_text e z) ≤ 7
signed_le e (pos n) = omega (arith, length_above e n, further-le 4 n)
signed_le e (negsuc n) = omega (arith, length-below e n, further-le 4 (suc n))

-- of any numbers
pub line-le : (l : List ℤ) → length (line_text l) ≤ 7 * length l
line-le [] = omega arith
line-le (z ∷ l) = omega (arith, length-append (signed_text (end_of l) z) (line_text l), signed_le (end_of l) z, line-le l)

pub value-le : (v : ℕ) → length (value_text v) ≤ 6
unfolding value_text
value-le v = number-le 10 v

pub size-le : (h : SizeFields) → length (size_text h) ≤ 24
unfolding size_text
size-le h =
    simp length-append
    (omega (arith, plain-le 32 h.n, plain-le 32 h.width, plain-le 32 h.height, plain-le 10 h.values))

pub record-le : (r : Record) → length (record_text r) ≤ 26
unfolding record_text
record-le r =
    simp length-append
    (omega (arith, plain-le 32 r.kind, plain-le 32 r.entry, signed_le 32 r.off0, signed_le 10 r.off1))

-- a table value's line has at most 4 bytes
pub value-line-length : (v : ℕ) → v ≤ 255 → length (value_text v) ≤ 4
unfolding value_text
value-line-length v h = number_short 10 2 v (omega arith)

-- a record's line has at most 32 bytes
pub record-line-length :
    (r : Record) → r.kind < 10 → r.entry < 10000 → nat_abs r.off0 < 1000 → nat_abs r.off1 < 1000 → length (record_text r) ≤ 32
unfolding record_text
record-line-length r hk he h0 h1 =
    simp length-append
    (omega (arith, plain-short 32 0 r.kind hk, plain-short 32 3 r.entry he, signed-short 32 2 r.off0 h0, signed-short 10 2 r.off1 h1))

-- the three title lines and the size line have at most 80 bytes
pub head-length :
    (h : SizeFields) → h.n < 100 → h.width < 1000 → h.height < 1000 → h.values < 1000
    → length size_title + length (size_text h) + length depth_title + length record_title ≤ 80
unfolding size_title depth_title record_title size_text
head-length h hn hw hh hv =
    simp length-append
    (omega (arith, plain-short 32 1 h.n hn, plain-short 32 2 h.width hw, plain-short 32 2 h.height hh, plain-short 10 2 h.values hv))
