-- A numeral is the decimal text of its number.
use Prim.Native.Nat.{ℕ, zero, suc, ◌+◌, ◌/◌, ◌%◌, ◌^◌, ◌≤◌, ◌<◌, ◌*◌, zero-le}
use mathlib.Core.Path.{◌≡◌, refl, sym, ◌∙◌, ap}
use mathlib.Core.Bool.{Bool, true, false}
use mathlib.Core.List.{List, [], ◌∷◌, ◌++◌, append_assoc}
use mathlib.Core.Logic.{⊎_elim}
use native.Mathlib.Omega.{arith}
use native.Mathlib.Nat.{mod-lt, pow-suc, mul_assoc, div-add-mod', eq-or-lt_of_le}
use lib.IntN.{ℤ, pos, negsuc, nat_abs}
use lib.ListN.{length, length-append, length-set, take, drop}
use lib.Signed.{le_z}
use borrow.Author.Tests.{clash, le-leb}
use mir.Syntax.{w64}
use mir.Val.{SFits, to_z, of_z}
use mir.ValLaws.{to_z-of_z}
use Rattle.std.specs.Fmt.{decimal}
use Rattle.std.specs.Prelude.{◌-◌, slice_set}
use Rattle.std.proofs.lemmas.Fmt.{decimal_digit, decimal_step}
use Rattle.std.proofs.lemmas.List.{drop-set, length-drop, take-set-le}
use lib.Seq.{take-take}
use Rattle.record_text.specs.Numeral.{digits_of, further_digits, numeral, signed_numeral, numeral_end}
use Rattle.record_text.specs.Field.{number_text, signed_text}
use Rattle.record_text.proofs.LengthLaws.{signed-some, length-number}
use Rattle.record_text.proofs.NumeralLaws.{ten-pow, digit-before, further-high, further-low, further-le}

-- the last of the digits
digits-end : (k n : ℕ) → n < 10 ^ suc k → digits_of (suc k) n ≡ digits_of k (n / 10) ++ ((48 + n % 10) ∷ [])
unfolding digits_of
digits-end zero n h = ap (λ (d : ℕ). (48 + d) ∷ []) (omega arith)
digits-end (suc k) n h =
    let p = 10 ^ suc k in
    let d = n / p in
    let m = n % p in
    let ten : p ≡ 10 ^ k * 10 = pow-suc 10 k in
    let whole = div-add-mod' n p in
    let shifted : d * p ≡ d * 10 ^ k * 10 = ap (λ (x : ℕ). d * x) ten ∙ sym (mul_assoc d (10 ^ k) 10) in
    let low : m < p = mod-lt n (ten-pow (suc k)) in
    let before : d * 10 ^ k + m / 10 ≡ n / 10 = omega (arith, whole, shifted) in
    let last : m % 10 ≡ n % 10 = omega (arith, whole, shifted) in
    ap (λ (l : List ℕ). (48 + d) ∷ l) (digits-end k m low)
    ∙ ap (λ (l : List ℕ). l ++ ((48 + m % 10) ∷ [])) (sym (digit-before k d (m / 10) (omega (arith, low, ten))))
    ∙ rw (before, last)

-- a number of one digit
digits-one : (n : ℕ) → n < 10 → decimal n ≡ digits_of 1 n
unfolding digits_of
digits-one n h = decimal_digit n h ∙ ap (λ (d : ℕ). (48 + d) ∷ []) (omega arith)

-- a number of k + 1 digits
digits-decimal : (k n : ℕ) → 10 ^ k ≤ n → n < 10 ^ suc k → n < 100000 → decimal n ≡ digits_of (suc k) n
digits-decimal zero n l h s = digits-one n h
digits-decimal (suc k) n l h s =
    let ten : 10 ^ suc k ≡ 10 ^ k * 10 = pow-suc 10 k in
    let more : 10 ^ suc (suc k) ≡ 10 ^ suc k * 10 = pow-suc 10 (suc k) in
    let some = ten-pow k in
    decimal_step n (omega arith) (omega arith)
    ∙ ap (λ (s : List ℕ). s ++ ((48 + n % 10) ∷ [])) (digits-decimal k (n / 10) (omega arith) (omega arith) (omega arith))
    ∙ sym (digits-end (suc k) n h)

-- the decimal text of a number that has a numeral is the numeral
pub numeral_decimal : (n : ℕ) → n < numeral_end → decimal n ≡ numeral n
unfolding numeral
numeral_decimal n h =
    ⊎_elim
    (λ z. let e : n < 10 = omega (arith, further-high 4 n h, ap (λ (k : ℕ). 10 ^ suc k) z) in digits-one n e ∙ ap (λ (k : ℕ). digits_of (suc k) n) z)
    (λ l. digits-decimal (further_digits 4 n) n (further-low 4 n l) (further-high 4 n h) h)
    (eq-or-lt_of_le (zero-le {n = further_digits 4 n}))

-- ---- a field: a numeral and the byte e after it

-- a number that is not below 0 stands there without a sign
pub plain_field : (e n : ℕ) → signed_text e (pos n) ≡ number_text e n
unfolding signed_text number_text signed_numeral
plain_field e n = refl

-- a number from 0 up is not below 0
zero_below : (n : ℕ) → le_z (pos 0) (pos n) ≡ true
zero_below n = le-leb 0 n (zero-le {n = n})

-- the same by the test of the sign, and one below 0 with a minus
signed_plain : (e : ℕ) (z : ℤ) → le_z (pos 0) z ≡ true → signed_text e z ≡ number_text e (nat_abs z)
signed_plain e (pos n) h = plain_field e n
signed_plain e (negsuc n) h = absurd (clash h)

signed_minus : (e : ℕ) (z : ℤ) → le_z (pos 0) z ≡ false → signed_text e z ≡ 45 ∷ number_text e (nat_abs z)
unfolding signed_text number_text signed_numeral
signed_minus e (pos n) h = absurd (clash (sym h ∙ zero_below n))
signed_minus e (negsuc n) h = refl

-- the numeral and the byte, one behind the other
numeral_then : (e n : ℕ) (s : List ℕ) → numeral n ++ (e ∷ s) ≡ number_text e n ++ s
unfolding number_text
numeral_then e n s = sym (append_assoc (numeral n) (e ∷ []) s)

-- and how long the numeral is without the byte
numeral_length : (e n : ℕ) → length (numeral n) + 1 ≡ length (number_text e n)
unfolding number_text
numeral_length e n = sym (length-append (numeral n) (e ∷ []))

-- how long it is, from its number of digits d
module _
    (z : ℤ) {n d : ℕ} (value : n ≡ nat_abs (to_z w64 (of_z w64 z))) (f : SFits w64 z) (count : d ≡ suc (further_digits 4 n)) where
  pub digits_few : d ≤ 5
  digits_few = omega (arith, count, further-le 4 n)

  counted : d ≡ suc (further_digits 4 (nat_abs z))
  counted = count ∙ ap (λ (k : ℕ). suc (further_digits 4 k)) (value ∙ ap nat_abs (to_z-of_z w64 z f))

  pub plain_length : le_z (pos 0) (to_z w64 (of_z w64 z)) ≡ true → (e : ℕ) → d + 1 ≡ length (signed_text e z)
  plain_length h e =
      let same = ap length (signed_plain e z (ap (le_z (pos 0)) (sym (to_z-of_z w64 z f)) ∙ h)) in
      omega (arith, counted, same, length-number e (nat_abs z))

  pub minus_length : le_z (pos 0) (to_z w64 (of_z w64 z)) ≡ false → (e : ℕ) → d + 2 ≡ length (signed_text e z)
  minus_length h e =
      let same = ap length (signed_minus e z (ap (le_z (pos 0)) (sym (to_z-of_z w64 z f)) ∙ h)) in
      omega (arith, counted, same, length-number e (nat_abs z))

-- it is at most one byte shorter without its sign
number_le_signed : (e : ℕ) (z : ℤ) → length (number_text e (nat_abs z)) ≤ length (signed_text e z)
number_le_signed e z = go (le_z (pos 0) z) refl
  where
    go : (b : Bool) → le_z (pos 0) z ≡ b → length (number_text e (nat_abs z)) ≤ length (signed_text e z)
    go true h = omega (arith, ap length (signed_plain e z h))
    go false h = omega (arith, ap length (signed_minus e z h))

-- there is room for its last byte
pub field_some : (e : ℕ) (z : ℤ) {to : ℕ} → length (signed_text e z) ≤ to → 1 ≤ to
field_some e z h = omega (arith, h, signed-some e z)

-- a signed number, as a word of the machine holds it, is written before the place `to`: first the byte, then its n digits
module _
    (e : ℕ) (z : ℤ) (n to : ℕ) (old : List ℕ) (value : n ≡ nat_abs (to_z w64 (of_z w64 z))) (f : SFits w64 z)
    (requires : (nat_abs z < numeral_end) × (length (signed_text e z) ≤ to) × (to ≤ length old)) where
  back : to_z w64 (of_z w64 z) ≡ z
  back = to_z-of_z w64 z f

  digits : decimal n ≡ numeral (nat_abs z)
  digits = ap decimal (value ∙ ap nat_abs back) ∙ numeral_decimal (nat_abs z) requires.0

  digits_length : length (decimal n) + 1 ≡ length (number_text e (nat_abs z))
  digits_length = ap (λ (s : List ℕ). length s + 1) digits ∙ numeral_length e (nat_abs z)

  pub field_room : (b : ℕ) → (length (decimal n) ≤ to - 1) × (to - 1 ≤ length (slice_set old (to - 1) b))
  field_room b = (
    omega (arith, digits_length, number_le_signed e z, requires.1),
    omega (arith, length-set old (to - 1) b, requires.2),
  )

  -- ---- where it begins

  module _ (at : ℕ) (start : at + length (decimal n) ≡ to - 1) where
    number_start : at + length (number_text e (nat_abs z)) ≡ to
    number_start = omega (arith, start, digits_length, field_some e z requires.1)

    module _ (plain : le_z (pos 0) (to_z w64 (of_z w64 z)) ≡ true) where
      same_plain : signed_text e z ≡ number_text e (nat_abs z)
      same_plain = signed_plain e z (ap (le_z (pos 0)) (sym back) ∙ plain)

      pub plain_start : at + length (signed_text e z) ≡ to
      plain_start = rw same_plain number_start

    module _ (below : le_z (pos 0) (to_z w64 (of_z w64 z)) ≡ false) where
      same_minus : signed_text e z ≡ 45 ∷ number_text e (nat_abs z)
      same_minus = signed_minus e z (ap (le_z (pos 0)) (sym back) ∙ below)

      -- room for the minus
      pub minus_room : 1 ≤ at
      minus_room = omega (arith, number_start, ap length same_minus, requires.1)

      pub minus_start : at - 1 + length (signed_text e z) ≡ to
      minus_start = omega (arith, minus_room, number_start, ap length same_minus)

  -- ---- what is written

  module _
      (at : ℕ) (new : List ℕ) (start : at + length (decimal n) ≡ to - 1)
      (written : drop at new ≡ decimal n ++ drop (to - 1) (slice_set old (to - 1) e)) where
    number_written : drop at new ≡ number_text e (nat_abs z) ++ drop to old
    number_written =
        let end : to - 1 + 1 ≡ to = omega (arith, field_some e z requires.1) in
        written
        ∙ rw (digits, drop-set old (to - 1) e (omega (arith, field_some e z requires.1, requires.2)), end) (numeral_then e (nat_abs z) (drop to old))

    pub plain_written : le_z (pos 0) (to_z w64 (of_z w64 z)) ≡ true → drop at new ≡ signed_text e z ++ drop to old
    plain_written plain = rw (same_plain at start plain) number_written

    module _ (below : le_z (pos 0) (to_z w64 (of_z w64 z)) ≡ false) where
      inside : at - 1 < length new
      inside =
          omega (
            arith,
            minus_room at start below,
            length-drop at new,
            ap length number_written,
            length-append (number_text e (nat_abs z)) (drop to old),
            number_start at start,
            digits_length,
          )

      pub minus_written : drop (at - 1) (slice_set new (at - 1) 45) ≡ signed_text e z ++ drop to old
      minus_written =
          let next : at - 1 + 1 ≡ at = omega (arith, minus_room at start below) in
          drop-set new (at - 1) 45 inside
          ∙ ap (λ (k : ℕ). 45 ∷ drop k new) next
          ∙ ap (λ (s : List ℕ). 45 ∷ s) number_written
          ∙ ap (λ (s : List ℕ). s ++ drop to old) (sym (same_minus at start below))

  -- ---- what stands before it

  pub minus_before :
      (at b : ℕ) (new : List ℕ) → at + length (decimal n) ≡ to - 1 → take at new ≡ take at (slice_set old (to - 1) b)
      → take (at - 1) (slice_set new (at - 1) 45) ≡ take (at - 1) old
  minus_before at b new start before =
      let less : at - 1 ≤ at = omega arith in
      take-set-le (at - 1) new (at - 1) 45 (omega arith)
      ∙ sym (take-take (at - 1) at new less)
      ∙ ap (take (at - 1)) (before ∙ take-set-le at old (to - 1) b (omega (arith, start)))
      ∙ take-take (at - 1) at old less
