-- Laws of numerals: how many digits a number has, and digit by digit.
use Prim.Native.Nat.{ℕ, zero, suc, ◌+◌, ◌*◌, ◌/◌, ◌%◌, ◌^◌, ◌≤◌, ◌<◌}
use mathlib.Core.Path.{◌≡◌, refl, sym, ◌∙◌, ap, subst}
use mathlib.Core.List.{◌∷◌}
use native.Mathlib.Omega.{arith}
use native.Mathlib.Nat.{pow-suc, mul_comm, mul_assoc, add-mul, div-lt_iff_lt-mul, one-le-pow, pow-le-pow_right, eq-or-lt_of_le}
use mathlib.Core.Logic.{⊎_elim}
use lib.Arith.{digits_div, digits_mod, digits_lt}
use lib.Dec.{ltb}
use lib.ListN.{length}
use borrow.Author.Tests.{ltb-true, ltb-false, lt-ltb}
use Rattle.record_text.specs.Numeral.{digits_of, further_digits, numeral}
use Rattle.record_text.proofs.ParsedLaws.{cond-elim}

pub ten-pow : (k : ℕ) → 0 < 10 ^ k
ten-pow k = one-le-pow k 10 (omega arith)

pub ten-mono : {i j : ℕ} → i ≤ j → 10 ^ i ≤ 10 ^ j
ten-mono h = pow-le-pow_right (omega arith) h

-- the first of j + 1 digits
pub digit_lt : (j n : ℕ) → n < 10 ^ suc j → n / 10 ^ j < 10
digit_lt j n h = (div-lt_iff_lt-mul (ten-pow j)).1 (subst (λ (x : ℕ). n < x) (pow-suc 10 j ∙ mul_comm (10 ^ j) 10) h)

-- a digit before j others
pub digits-below : (d j n : ℕ) → d < 10 → n < 10 ^ j → d * 10 ^ j + n < 10 ^ suc j
digits-below d j n hd h = subst (λ (x : ℕ). d * 10 ^ j + n < x) (mul_comm 10 (10 ^ j) ∙ sym (pow-suc 10 j)) (digits_lt hd h)

pub digit-before : (j d n : ℕ) → n < 10 ^ j → digits_of (suc j) (d * 10 ^ j + n) ≡ (48 + d) ∷ digits_of j n
unfolding digits_of
digit-before j d n h = rw (digits_div d h, digits_mod d h)

-- one digit more behind those of a, of the q and r of n
pub carry : (a q r p n : ℕ) → q * p + r ≡ n → (a * 10 + q) * p + r ≡ a * (p * 10) + n
carry a q r p n h = omega (arith, add-mul (a * 10) q p, mul_assoc a 10 p ∙ ap (λ (x : ℕ). a * x) (mul_comm 10 p))

-- ---- how many digits follow the first

pub further-le : (k n : ℕ) → further_digits k n ≤ k
unfolding further_digits
further-le zero n = omega arith
further-le (suc k) n =
    cond-elim (λ (x : ℕ). x ≤ suc k) (ltb n (10 ^ suc k)) (further_digits k n) (suc k) (λ e. omega (arith, further-le k n)) (λ e. omega arith)

-- they are enough
pub further-high : (k n : ℕ) → n < 10 ^ suc k → n < 10 ^ suc (further_digits k n)
unfolding further_digits
further-high zero n h = h
further-high (suc k) n h =
    cond-elim (λ (x : ℕ). n < 10 ^ suc x) (ltb n (10 ^ suc k)) (further_digits k n) (suc k) (λ e. further-high k n (ltb-true n (10 ^ suc k) e)) (λ e. h)

-- and no more than are needed
pub further-low : (k n : ℕ) → 0 < further_digits k n → 10 ^ further_digits k n ≤ n
unfolding further_digits
further-low zero n = λ h. absurd (omega arith)
further-low (suc k) n =
    cond-elim (λ (x : ℕ). 0 < x → 10 ^ x ≤ n) (ltb n (10 ^ suc k)) (further_digits k n) (suc k) (λ e h. further-low k n h) (λ e h. ltb-false n (10 ^ suc k) e)

pub further-is : (k j n : ℕ) → j ≤ k → 10 ^ j ≤ n → n < 10 ^ suc j → further_digits k n ≡ j
unfolding further_digits
further-is zero j n h lo hi = omega arith
further-is (suc k) j n h lo hi =
    cond-elim (λ (x : ℕ). x ≡ j) (ltb n (10 ^ suc k)) (further_digits k n) (suc k)
    (λ e. ⊎_elim (λ q. absurd (omega (arith, ltb-true n (10 ^ suc k) e, ap (λ (x : ℕ). 10 ^ x) q))) (λ l. further-is k j n (omega arith) lo hi) (eq-or-lt_of_le h))
    (λ e. ⊎_elim (λ q. sym q) (λ l. absurd (omega (arith, ltb-false n (10 ^ suc k) e, ten-mono l))) (eq-or-lt_of_le h))

pub further-none : (k n : ℕ) → n < 10 → further_digits k n ≡ 0
unfolding further_digits
further-none zero n h = refl
further-none (suc k) n h =
    rw (lt-ltb n (10 ^ suc k) (omega (arith, ten-mono {i = 1} {j = suc k} (omega arith)))) (further-none k n h)

-- a number below 10 ^ (j + 1) has at most j of them
pub further-below : (k j n : ℕ) → n < 10 ^ suc j → further_digits k n ≤ j
unfolding further_digits
further-below zero j n h = omega arith
further-below (suc k) j n h =
    cond-elim (λ (x : ℕ). x ≤ j) (ltb n (10 ^ suc k)) (further_digits k n) (suc k) (λ e. further-below k j n h)
    (λ e. let no : j < suc k → ⊥ = λ l. omega (arith, ltb-false n (10 ^ suc k) e, ten-mono l) in omega arith)

-- ---- lengths

pub length_digits : (k n : ℕ) → length (digits_of k n) ≡ k
unfolding digits_of
length_digits zero n = refl
length_digits (suc k) n = ap suc (length_digits k (n % 10 ^ k))

pub length-numeral : (n : ℕ) → length (numeral n) ≡ suc (further_digits 4 n)
unfolding numeral
length-numeral n = length_digits (suc (further_digits 4 n)) n
