-- Bounds of the allowed sizes and of what they hold.
use Prim.Native.Nat.{ℕ, ◌*◌, ◌/◌, ◌^◌, ◌≤◌, ◌<◌}
use mathlib.Core.Bool.{Bool, true, ◌&&◌, ◌||◌}
use mathlib.Core.Logic.{◌⊎◌, ⊎_elim, inl, inr}
use mathlib.Core.Path.{◌≡◌, refl, sym, ap, ◌∙◌}
use native.Mathlib.Nat.{mul-le-mul, div-eq_of_lt, div-lt_iff_lt-mul, one-mul}
use native.Mathlib.Omega.{arith}
use borrow.Author.Tests.{eqb-true, eq-eqb, ne_eqb, lt-ltb, le-ltb}
use native.Mathlib.Decide.{dec_lt}
use lib.Dec.{eqb, ltb}
use lib.Pow.{pow_pos}
use Rattle.arith.proofs.Bools.{both_of, either-of}
use Rattle.arith.proofs.SquareLaws.{square_le}
use Rattle.pattern.specs.Size.{greatest_size, greatest_samples, size_ok, each_size}

-- an allowed size is up to 8, or the greatest
pub size-cases : (n : ℕ) → size_ok n ≡ true → ((4 ≤ n) × (n ≤ 8)) ⊎ (n ≡ greatest_size)
size-cases n h =
    ⊎_elim
    (λ e. inl (omega (arith, eqb-true n 4 e)))
    (λ r. ⊎_elim (λ e. inl (omega (arith, eqb-true n 8 e))) (λ e. inr (eqb-true n greatest_size e)) (either-of (eqb n 8) (eqb n greatest_size) r))
    (either-of (eqb n 4) (eqb n 8 || eqb n greatest_size) h)

-- what holds for each allowed size holds for an allowed size, and the other way round
pub size-each : (ok : ℕ → Bool) → ((n : ℕ) → size_ok n ≡ true → ok n ≡ true) → each_size ok ≡ true
size-each ok all = rw (all 4 refl, all 8 refl, all greatest_size refl)

pub each-size : (ok : ℕ → Bool) (n : ℕ) → each_size ok ≡ true → size_ok n ≡ true → ok n ≡ true
each-size ok n h s =
    let a = both_of (ok 4) (ok 8 && ok greatest_size) h in
    let b = both_of (ok 8) (ok greatest_size) a.1 in
    ⊎_elim
    (λ e. ap ok (eqb-true n 4 e) ∙ a.0)
    (λ r. ⊎_elim (λ e. ap ok (eqb-true n 8 e) ∙ b.0) (λ e. ap ok (eqb-true n greatest_size e) ∙ b.1) (either-of (eqb n 8) (eqb n greatest_size) r))
    (either-of (eqb n 4) (eqb n 8 || eqb n greatest_size) s)

pub size-bounds : (n : ℕ) → size_ok n ≡ true → (4 ≤ n) × (n ≤ greatest_size)
size-bounds n h = ⊎_elim (λ b. omega arith) (λ e. omega arith) (size-cases n h)

-- a block of at most 8 by 8 samples has at most 64, and each block at most as many as the greatest
pub square-64 : {n : ℕ} → n ≤ 8 → n * n ≤ 64
square-64 h = square_le {m = 8} h

pub square-256 : {n : ℕ} → n ≤ greatest_size → n * n ≤ greatest_samples
square-256 h = square_le {m = greatest_size} h

pub one-le-square : {n : ℕ} → 1 ≤ n → 1 ≤ n * n
one-le-square h = mul-le-mul {n₁ = 1} {m₁ = 1} h h

-- a quotient of 0: the number is below the divisor
lt-of-zero-div : (w p : ℕ) → 0 < p → w / p ≡ 0 → w < p
lt-of-zero-div w p h e =
    let l : w / p < 1 = omega arith in
    rw one-mul at ((div-lt_iff_lt-mul {k = p} {x = w} {y = 1} h).0 l)

-- no bit from k up: nothing is left when the word is shifted by k
pub shifted_none : (w k : ℕ) → eqb (w / 2 ^ k) 0 ≡ ltb w (2 ^ k)
shifted_none w k = go (dec_lt w (2 ^ k))
  where
    go : Dec (w < 2 ^ k) → eqb (w / 2 ^ k) 0 ≡ ltb w (2 ^ k)
    go (yes h) = eq-eqb (w / 2 ^ k) 0 (div-eq_of_lt h) ∙ sym (lt-ltb w (2 ^ k) h)
    go (no h) =
        let l : 2 ^ k ≤ w = omega arith in
        ne_eqb (w / 2 ^ k) 0 (λ e. h (lt-of-zero-div w (2 ^ k) (pow_pos k) e)) ∙ sym (le-ltb w (2 ^ k) l)
