-- Numbers as text: decimal, without leading zeros, a minus only before a nonzero numeral.
use Rattle.std.specs.Prelude.{ℕ, zero, suc, ◌+◌, ◌/◌, ◌%◌, ◌^◌, cond, List, [], ◌∷◌, ltb, ℤ, pos, negsuc}

-- numbers from here up have no numeral: the longest has five digits
abbrev pub numeral_end : ℕ
numeral_end = 100000

-- the k decimal digits of n, which is below 10 ^ k, the first the most significant
unfoldable pub digits_of : ℕ → ℕ → List ℕ
digits_of zero n = []
digits_of (suc k) n = (48 + n / 10 ^ k) ∷ digits_of k (n % 10 ^ k)

-- how many digits n has after its first, at most k
unfoldable pub further_digits : ℕ → ℕ → ℕ
further_digits zero n = zero
further_digits (suc k) n = cond (ltb n (10 ^ suc k)) (further_digits k n) (suc k)

-- the numeral of n, which is below `numeral_end`
unfoldable pub numeral : ℕ → List ℕ
numeral n = digits_of (suc (further_digits 4 n)) n

-- the text of a signed number (an offset): byte 45 is the minus
unfoldable pub signed_numeral : ℤ → List ℕ
signed_numeral (pos n) = numeral n
signed_numeral (negsuc n) = 45 ∷ numeral (suc n)
