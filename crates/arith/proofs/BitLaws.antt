-- Laws of numbers as rows of bits.
use Prim.Native.Nat.{ℕ, zero, suc, ◌+◌, ◌-◌, ◌*◌, ◌/◌, ◌%◌, ◌^◌, ◌≤◌, ◌<◌}
use mathlib.Core.Bool.{Bool, true, false, not}
use mathlib.Core.Path.{◌≡◌, refl, sym, ap, ap₂, ◌∙◌, subst}
use native.Mathlib.Nat.{pow-suc, pow-succ', mod-lt, mod-one, mod-eq_of_lt, mul_assoc, mul_comm, add-mul, zero-mul, one-mul, add_comm, add-zero, add-suc, add-sub_of_le, add-mul-div_right, add-mul-mod_self_right, zero-div, div-one, div-eq_of_lt, div-lt_iff_lt-mul, zero-lt-suc, lt_of_lt_of_le}
use native.Mathlib.Numerals.{one-add, add-one}
use native.Mathlib.Omega.{arith}
use lib.Arith.{lt-one, bin_ind}
use lib.Count.{ones, ones_step}
use lib.Dec.{eqb}
use lib.Pow.{pow_pos, pow-add, pow_mono, pow-lt, high_ones, high, mod-pow-add, shr_lt, shr-shr, split}
use Rattle.arith.specs.Bits.{bit, bits, test_bit}
use Rattle.arith.specs.Sum.{sum_to}
use Rattle.arith.proofs.Sums.{sum-ext, sum-front}

pub bit_test : (b : Bool) → eqb (bit b) 1 ≡ b
bit_test true = refl
bit_test false = refl

-- a digit times a power is at most the power
pub digit-le : (b : Bool) (p : ℕ) → bit b * p ≤ p
digit-le true p = omega arith
digit-le false p = omega arith

pub bits-lt : (f : ℕ → Bool) (k : ℕ) → bits f k < 2 ^ k
unfolding bits
bits-lt f zero = omega arith
bits-lt f (suc k) = omega (arith, pow-suc 2 k, bits-lt f k, digit-le (f k) (2 ^ k))

-- only the bits below k count
pub bits-ext : (f g : ℕ → Bool) (k : ℕ) → ((i : ℕ) → i < k → f i ≡ g i) → bits f k ≡ bits g k
unfolding bits
bits-ext f g zero h = refl
bits-ext f g (suc k) h =
    ap₂ (λ (a : ℕ) (b : Bool). a + bit b * 2 ^ k) (bits-ext f g k (λ i l. h i (omega arith))) (h k (omega arith))

-- one bit more, as a loop takes it
pub bits-more : (f : ℕ → Bool) (k : ℕ) {w r : ℕ} {b : Bool} → w ≡ bits f k → b ≡ f k → r ≡ w + bit b * 2 ^ k → r ≡ bits f (k + 1)
unfolding bits
bits-more f k p q e = e ∙ ap₂ (λ (x : ℕ) (c : Bool). x + bit c * 2 ^ k) p q ∙ ap (bits f) (sym (add-one k))

-- the same as a branch takes it, in a word of 64 bits
pub shifted_one : (k : ℕ) → k < 64 → 1 * 2 ^ k % 2 ^ 64 ≡ 2 ^ k
shifted_one k h = ap (λ (x : ℕ). x % 2 ^ 64) (one-mul (2 ^ k)) ∙ mod-eq_of_lt (pow-lt h)

pub bits-on : (f : ℕ → Bool) (k : ℕ) {w r : ℕ} → k < 64 → w ≡ bits f k → f k ≡ true → r ≡ w + 1 * 2 ^ k % 2 ^ 64 → r ≡ bits f (k + 1)
bits-on f k {w} h p q e = bits-more f k p (sym q) (e ∙ ap (λ (x : ℕ). w + x) (shifted_one k h ∙ sym (one-mul (2 ^ k))))

pub bits-off : (f : ℕ → Bool) (k : ℕ) {w r : ℕ} → w ≡ bits f k → f k ≡ false → r ≡ w → r ≡ bits f (k + 1)
bits-off f k {w} p q e = bits-more f k p (sym q) (e ∙ omega (arith, zero-mul (2 ^ k)))

-- a word of k bits has room for one more
pub room-above : (f : ℕ → Bool) (k : ℕ) {w : ℕ} → k < 64 → w ≡ bits f k → w + 1 * 2 ^ k % 2 ^ 64 < 2 ^ 64
room-above f k {w} h e = rw (shifted_one k h) (let l : w < 2 ^ k = rw e (bits-lt f k) in omega (arith, pow-suc 2 k, pow_mono {i = suc k} {j = 64} h))

-- ---- all bits inverted

digit_not : (b : Bool) (p : ℕ) → bit b * p + bit (not b) * p ≡ p
digit_not true p = omega arith
digit_not false p = omega arith

not-add : (f : ℕ → Bool) (k : ℕ) → bits f k + bits (λ i. not (f i)) k + 1 ≡ 2 ^ k
unfolding bits
not-add f zero = refl
not-add f (suc k) = omega (arith, pow-suc 2 k, not-add f k, digit_not (f k) (2 ^ k))

pub bits-not : (f : ℕ → Bool) (k : ℕ) → 2 ^ k - 1 - bits f k ≡ bits (λ i. not (f i)) k
bits-not f k = omega (arith, not-add f k)

-- ---- bit i of `bits f k` is f i

digit-mod : (b : Bool) → bit b % 2 ≡ bit b
digit-mod true = refl
digit-mod false = refl

above : (a b c p : ℕ) → zero < p → (a + b * (c * 2 * p)) / p % 2 ≡ a / p % 2
above a b c p h =
    ap (λ (x : ℕ). (a + x) / p % 2) (sym (mul_assoc b (c * 2) p) ∙ ap (λ (x : ℕ). x * p) (sym (mul_assoc b c 2)))
    ∙ ap (λ (x : ℕ). x % 2) (add-mul-div_right a (b * c * 2) h)
    ∙ add-mul-mod_self_right (a / p) (b * c) 2

power : (i d : ℕ) → 2 ^ (suc i + d) ≡ 2 ^ d * 2 * 2 ^ i
power i d =
    pow-add 2 (suc i) d
    ∙ mul_comm (2 ^ suc i) (2 ^ d)
    ∙ ap (λ (x : ℕ). 2 ^ d * x) (pow-succ' 2 i)
    ∙ sym (mul_assoc (2 ^ d) 2 (2 ^ i))

digit_at : (f : ℕ → Bool) (i d : ℕ) → bits f (suc i + d) / 2 ^ i % 2 ≡ bit (f i)
unfolding bits
digit_at f i zero =
    rw (add-zero, add_comm (bits f i) (bit (f i) * 2 ^ i))
    (ap (λ (x : ℕ). x % 2) (high (bit (f i)) i (bits-lt f i)) ∙ digit-mod (f i))
digit_at f i (suc d) =
    rw (add-suc, power i d) (above (bits f (suc i + d)) (bit (f (suc i + d))) (2 ^ d) (2 ^ i) (pow_pos i) ∙ digit_at f i d)

pub bits_at : (f : ℕ → Bool) (k i : ℕ) → i < k → test_bit (bits f k) i ≡ f i
bits_at f k i h =
    ap (λ (x : ℕ). test_bit (bits f x) i) (sym (add-sub_of_le h))
    ∙ ap (λ (x : ℕ). eqb x 1) (digit_at f i (k - suc i))
    ∙ bit_test (f i)

-- ---- a number in a high part and m low bits

-- bits of both parts
pub bits-append : (f : ℕ → Bool) (a b : ℕ) → bits f (a + b) ≡ bits (λ j. f (a + j)) b * 2 ^ a + bits f a
unfolding bits
bits-append f a zero = rw add-zero (omega (arith, zero-mul (2 ^ a)))
bits-append f a (suc b) =
    let g : ℕ → Bool = λ j. f (a + j) in
    let d = bit (f (a + b)) in
    let e : d * 2 ^ (a + b) ≡ d * 2 ^ b * 2 ^ a = ap (λ (x : ℕ). d * x) (pow-add 2 a b ∙ mul_comm (2 ^ a) (2 ^ b)) ∙ sym (mul_assoc d (2 ^ b) (2 ^ a)) in
    rw add-suc (omega (arith, bits-append f a b, e, add-mul (bits g b) (d * 2 ^ b) (2 ^ a)))

-- a bit of the low part
pub low_bit : (m high low k : ℕ) → k < m → test_bit (high * 2 ^ m + low) k ≡ test_bit low k
low_bit m high low k h =
    let d = m - suc k in
    let e : 2 ^ m ≡ 2 ^ d * 2 * 2 ^ k = ap (λ (x : ℕ). 2 ^ x) (sym (add-sub_of_le h)) ∙ power k d in
    ap (λ (x : ℕ). eqb (x / 2 ^ k % 2) 1) (add_comm (high * 2 ^ m) low ∙ ap (λ (x : ℕ). low + high * x) e)
    ∙ ap (λ (x : ℕ). eqb x 1) (above low high (2 ^ d) (2 ^ k) (pow_pos k))

-- a bit of the high part
pub high_bit : (m h low k : ℕ) → low < 2 ^ m → m ≤ k → test_bit (h * 2 ^ m + low) k ≡ test_bit h (k - m)
high_bit m h low k l le =
    ap (λ (j : ℕ). eqb ((h * 2 ^ m + low) / 2 ^ j % 2) 1) (sym (add-sub_of_le le))
    ∙ ap (λ (x : ℕ). eqb (x % 2) 1) (sym (shr-shr (h * 2 ^ m + low) m (k - m)) ∙ ap (λ (x : ℕ). x / 2 ^ (k - m)) (high h m l))

-- bit j of the b bits from a on
pub field-bit : (w a b j : ℕ) → j < b → test_bit (w / 2 ^ a % 2 ^ b) j ≡ test_bit w (a + j)
field-bit w a b j h =
    sym (low_bit b (w / 2 ^ a / 2 ^ b) (w / 2 ^ a % 2 ^ b) j h)
    ∙ ap (λ (x : ℕ). test_bit x j) (split (w / 2 ^ a) b)
    ∙ ap (λ (x : ℕ). eqb (x % 2) 1) (shr-shr w a j)

-- the bits from a on of a number of c bits
pub rest_lt : (w c a : ℕ) → w < 2 ^ c → w / 2 ^ a < 2 ^ (c - a)
rest_lt w c a h = shr_lt (c - a) a (lt_of_lt_of_le h (pow_mono {i = c} {j = c - a + a} (omega arith)))

-- ---- a run of ones

pub bits_none : (k : ℕ) → bits (λ _. false) k ≡ 0
unfolding bits
bits_none zero = refl
bits_none (suc k) = ap (λ (x : ℕ). x + 0 * 2 ^ k) (bits_none k) ∙ omega arith

pub bits-all : (k : ℕ) → bits (λ _. true) k ≡ 2 ^ k - 1
bits-all k =
    let e : 2 ^ k - 1 - 0 ≡ 2 ^ k - 1 = omega arith in
    sym (bits-not (λ _. false) k) ∙ ap (λ (x : ℕ). 2 ^ k - 1 - x) (bits_none k) ∙ e

-- the ones stand below t
pub run-front :
    (f : ℕ → Bool) (t k : ℕ) → t ≤ k → ((i : ℕ) → i < t → f i ≡ true) → ((i : ℕ) → t ≤ i → i < k → f i ≡ false) → bits f k ≡ 2 ^ t - 1
run-front f t k h on off =
    ap (bits f) (sym (add-sub_of_le h))
    ∙ bits-append f t (k - t)
    ∙ ap₂ (λ (x y : ℕ). x * 2 ^ t + y)
    (bits-ext (λ j. f (t + j)) (λ _. false) (k - t) (λ j l. off (t + j) (omega arith) (omega arith)) ∙ bits_none (k - t))
    (bits-ext f (λ _. true) t on ∙ bits-all t)
    ∙ (let e : 0 * 2 ^ t + (2 ^ t - 1) ≡ 2 ^ t - 1 = omega (arith, zero-mul (2 ^ t)) in e)

-- the ones stand from t on
pub run-back :
    (f : ℕ → Bool) (t k : ℕ) → t ≤ k → ((i : ℕ) → i < t → f i ≡ false) → ((i : ℕ) → t ≤ i → i < k → f i ≡ true) → bits f k ≡ 2 ^ k - 2 ^ t
run-back f t k h off on =
    let e : k - t + t ≡ k = omega arith in
    ap (bits f) (sym (add-sub_of_le h))
    ∙ bits-append f t (k - t)
    ∙ ap₂ (λ (x y : ℕ). x * 2 ^ t + y)
    (bits-ext (λ j. f (t + j)) (λ _. true) (k - t) (λ j l. on (t + j) (omega arith) (omega arith)) ∙ bits-all (k - t))
    (bits-ext f (λ _. false) t off ∙ bits_none t)
    ∙ add-zero ((2 ^ (k - t) - 1) * 2 ^ t)
    ∙ sym (high_ones (k - t) t)
    ∙ ap (λ (x : ℕ). 2 ^ x - 2 ^ t) e

-- ---- a number is made of its own bits

pub digit-of : (x : ℕ) → x < 2 → bit (eqb x 1) ≡ x
digit-of zero h = refl
digit-of (suc zero) h = refl
digit-of (suc (suc x)) h = absurd (omega arith)

bits-own : (w k : ℕ) → bits (test_bit w) k ≡ w % 2 ^ k
unfolding bits
bits-own w zero = sym (mod-one w)
bits-own w (suc k) =
    ap₂ ◌+◌ (bits-own w k) (ap (λ (x : ℕ). x * 2 ^ k) (digit-of (w / 2 ^ k % 2) (mod-lt (w / 2 ^ k) (omega arith))))
    ∙ add_comm (w % 2 ^ k) (w / 2 ^ k % 2 * 2 ^ k)
    ∙ sym (ap (λ (x : ℕ). w % 2 ^ x) (sym (one-add k)) ∙ mod-pow-add w 1 k)

pub bits-same : (k w : ℕ) → w < 2 ^ k → bits (test_bit w) k ≡ w
bits-same k w h = bits-own w k ∙ mod-eq_of_lt h

-- ---- bits that are not set

pub zero_bit : (i : ℕ) → test_bit 0 i ≡ false
zero_bit i = ap (λ (x : ℕ). eqb (x % 2) 1) (zero-div (2 ^ i))

-- past its highest bit a number has none
pub bit_past : (k w i : ℕ) → w < 2 ^ k → k ≤ i → test_bit w i ≡ false
bit_past k w i h l = ap (λ (x : ℕ). eqb (x % 2) 1) (div-eq_of_lt (lt_of_lt_of_le h (pow_mono l)))

-- ---- the count of ones is the sum of the bits

bit-half : (w k : ℕ) → test_bit w (suc k) ≡ test_bit (w / 2) k
bit-half w k = ap (λ (x : ℕ). eqb (x % 2) 1) (ap (λ (j : ℕ). w / 2 ^ j) (sym (one-add k)) ∙ sym (shr-shr w 1 k))

bit-low : (w : ℕ) → w % 2 ≡ bit (test_bit w 0)
bit-low w = sym (digit-of (w % 2) (omega arith)) ∙ ap (λ (x : ℕ). bit (eqb (x % 2) 1)) (sym (div-one w))

pub ones-bits : (k w : ℕ) → w < 2 ^ k → ones w ≡ sum_to (λ i. bit (test_bit w i)) k
unfolding ones sum_to
ones-bits zero w h = rw (lt-one h)
ones-bits (suc k) w h =
    ones_step w
    ∙ ap₂ ◌+◌ (bit-low w)
    (ones-bits k (w / 2) ((div-lt_iff_lt-mul (zero-lt-suc 1)).1 (subst (λ (x : ℕ). w < x) (pow-suc 2 k) h))
    ∙ sum-ext _ _ k (λ i _. ap bit (sym (bit-half w i))))
    ∙ sym (sum-front (λ i. bit (test_bit w i)) k)

-- no ones: the number is 0
pub ones_none : (w : ℕ) → ones w ≡ 0 → w ≡ 0
ones_none = bin_ind (λ (w : ℕ). ones w ≡ 0 → w ≡ 0) (λ _. refl) (λ w half e. let h : w / 2 ≡ 0 = half (omega (arith, ones_step w)) in omega (arith, ones_step w))

pub ones-zero : ones 0 ≡ 0
unfolding ones
ones-zero = refl
