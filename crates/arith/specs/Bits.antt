-- A natural number as a row of bits, lowest first.
use Rattle.std.specs.Prelude.{ℕ, zero, suc, ◌+◌, ◌*◌, ◌/◌, ◌%◌, ◌^◌, Bool, true, false, eqb}

-- a truth value as a digit
abbrev pub bit : Bool → ℕ
bit true = 1
bit false = 0

-- bit i of a number, as a truth value
abbrev pub test_bit : ℕ → ℕ → Bool
test_bit w i = eqb (w / 2 ^ i % 2) 1

-- the number whose bit i is f i, for each i below k
unfoldable pub bits : (ℕ → Bool) → ℕ → ℕ
bits f zero = 0
bits f (suc k) = bits f k + bit (f k) * 2 ^ k
