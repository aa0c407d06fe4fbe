-- One field of a line: a number with the byte after it, 32 (a space) or 10 (the line's end).
use Rattle.std.specs.Prelude.{ℕ, zero, suc, ◌+◌, ◌-◌, ◌*◌, Bool, cond, ◌&&◌, List, [], ◌∷◌, ◌++◌, ltb, eqb, ℤ, pos, negsuc}
use Rattle.record_text.specs.Numeral.{numeral, signed_numeral}
use Rattle.record_text.specs.Parsed.{Parsed, Parser, bad_form, found, and_then}

-- what follows, where the byte b is a digit
abbrev pub if_digit : {A : Type 0} → ℕ → Parsed A → Parsed A
if_digit b x = cond (ltb b 48) bad_form (cond (ltb b 58) x bad_form)

-- the value of the digit b, 10 for a byte that is none
abbrev pub digit_in : ℕ → ℕ
digit_in b = cond (ltb b 48) 10 (cond (ltb b 58) (b - 48) 10)

-- at most k digits more after those of a, and then the byte e
unfoldable pub more_digits : ℕ → ℕ → ℕ → Parser ℕ
more_digits e k a [] = bad_form
more_digits e zero a (b ∷ s) = cond (eqb b e) (found a s) bad_form
more_digits e (suc k) a (b ∷ s) = cond (eqb b e) (found a s) (if_digit b (more_digits e k (a * 10 + (b - 48)) s))

-- how many digits may follow the first: none after a 0, since there are no leading zeros
abbrev pub digit_room : ℕ → ℕ
digit_room zero = 0
digit_room (suc d) = 4

-- a numeral of one to five digits, and the byte e after it
unfoldable pub number : ℕ → Parser ℕ
number e [] = bad_form
number e (b ∷ s) = if_digit b (more_digits e (digit_room (b - 48)) (b - 48) s)

-- the signed number that a numeral stands for after a minus: none for 0
abbrev pub after_minus : ℕ → List ℕ → Parsed ℤ
after_minus zero s = bad_form
after_minus (suc n) s = found (negsuc n) s

-- the signed number that a numeral stands for without a minus
abbrev pub after_none : ℕ → List ℕ → Parsed ℤ
after_none n s = found (pos n) s

-- a numeral, or where a minus (byte 45) may stand, a minus and a nonzero numeral; and the byte e after it
unfoldable pub signed : Bool → ℕ → Parser ℤ
signed minus e [] = bad_form
signed minus e (b ∷ s) = cond (minus && eqb b 45) (and_then (number e s) after_minus) (and_then (number e (b ∷ s)) after_none)

-- the field's text: the number, and the byte e after it
unfoldable pub number_text : ℕ → ℕ → List ℕ
number_text e n = numeral n ++ e ∷ []

-- the same of a signed number
unfoldable pub signed_text : ℕ → ℤ → List ℕ
signed_text e z = signed_numeral z ++ e ∷ []
