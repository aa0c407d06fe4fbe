-- Layers of samples: a part's samples in a layer are counted on the words.
use Prim.Native.Nat.{ℕ, zero, suc, ◌+◌, ◌*◌, ◌/◌, ◌%◌, ◌^◌, ◌≤◌, ◌<◌, min}
use mathlib.Core.Path.{◌≡◌, refl, ap, ◌∙◌}
use mathlib.Core.Bool.{Bool, true, false, cond, not, ◌&&◌}
use mathlib.Core.List.{List}
use native.Mathlib.Nat.{lt_of_le_of_lt, lt_of_lt_of_le}
use native.Mathlib.Omega.{arith}
use lib.Bits.{bit_and, bit_xor, differ, and_shr, and_step, and_le_l, xor_shr, xor_step}
use lib.Count.{ones}
use lib.Dec.{eqb, ltb}
use lib.ListN.{get_or}
use lib.Pow.{pow_mono}
use Rattle.arith.specs.Bits.{bit, bits, test_bit}
use Rattle.arith.specs.Sum.{sum_to}
use Rattle.arith.proofs.BitLaws.{bits_at, ones-bits}
use Rattle.arith.proofs.Sums.{sum-ext}
use Rattle.choice.specs.Tally.{side_count, side_size, side_below}
use Rattle.choice.specs.Layers.{below_word}

-- ---- the bits that two words share

and_low : (a b : ℕ) → bit_and a b % 2 ≡ min (a % 2) (b % 2)
and_low a b = ap (λ (x : ℕ). x % 2) (and_step a b) ∙ omega arith

and-digit : (x y : ℕ) → x < 2 → y < 2 → eqb (min x y) 1 ≡ (eqb x 1 && eqb y 1)
and-digit zero zero p q = refl
and-digit zero (suc zero) p q = refl
and-digit (suc zero) zero p q = refl
and-digit (suc zero) (suc zero) p q = refl
and-digit zero (suc (suc y)) p q = absurd (omega arith)
and-digit (suc zero) (suc (suc y)) p q = absurd (omega arith)
and-digit (suc (suc x)) y p q = absurd (omega arith)

and-bit : (a b k : ℕ) → test_bit (bit_and a b) k ≡ (test_bit a k && test_bit b k)
and-bit a b k =
    ap (λ (x : ℕ). eqb (x % 2) 1) (and_shr a b k)
    ∙ ap (λ (x : ℕ). eqb x 1) (and_low (a / 2 ^ k) (b / 2 ^ k))
    ∙ and-digit (a / 2 ^ k % 2) (b / 2 ^ k % 2) (omega arith) (omega arith)

-- the bits in which two words differ
xor_low : (a b : ℕ) → bit_xor a b % 2 ≡ differ (a % 2) (b % 2)
xor_low a b = ap (λ (x : ℕ). x % 2) (xor_step a b) ∙ go (a % 2) (b % 2) (omega arith) (omega arith)
  where
    go : (x y : ℕ) → x < 2 → y < 2 → (bit_xor (a / 2) (b / 2) * 2 + differ x y) % 2 ≡ differ x y
    go zero zero p q = omega arith
    go zero (suc zero) p q = omega arith
    go (suc zero) zero p q = omega arith
    go (suc zero) (suc zero) p q = omega arith
    go zero (suc (suc y)) p q = absurd (omega arith)
    go (suc zero) (suc (suc y)) p q = absurd (omega arith)
    go (suc (suc x)) y p q = absurd (omega arith)

xor-digit : (x y : ℕ) → x < 2 → y < 2 → eqb (differ x y) 1 ≡ cond (eqb y 1) (not (eqb x 1)) (eqb x 1)
xor-digit zero zero p q = refl
xor-digit zero (suc zero) p q = refl
xor-digit (suc zero) zero p q = refl
xor-digit (suc zero) (suc zero) p q = refl
xor-digit zero (suc (suc y)) p q = absurd (omega arith)
xor-digit (suc zero) (suc (suc y)) p q = absurd (omega arith)
xor-digit (suc (suc x)) y p q = absurd (omega arith)

pub xor-bit : (a b k : ℕ) → test_bit (bit_xor a b) k ≡ cond (test_bit b k) (not (test_bit a k)) (test_bit a k)
xor-bit a b k =
    ap (λ (x : ℕ). eqb (x % 2) 1) (xor_shr a b k)
    ∙ ap (λ (x : ℕ). eqb x 1) (xor_low (a / 2 ^ k) (b / 2 ^ k))
    ∙ xor-digit (a / 2 ^ k % 2) (b / 2 ^ k % 2) (omega arith) (omega arith)

-- the samples of a word in a layer
module _ (c w : ℕ) (f : ℕ → Bool) (small : w < 2 ^ c) where
  common-lt : bit_and w (bits f c) < 2 ^ c
  common-lt = lt_of_le_of_lt (and_le_l w (bits f c)) small

  pub common-bit : (k : ℕ) → k < c → test_bit (bit_and w (bits f c)) k ≡ (test_bit w k && f k)
  common-bit k l = and-bit w (bits f c) k ∙ ap (λ (b : Bool). test_bit w k && b) (bits_at f c k l)

  common-ones : ones (bit_and w (bits f c)) ≡ sum_to (λ k. bit (test_bit w k && f k)) c
  common-ones = ones-bits c (bit_and w (bits f c)) common-lt ∙ sum-ext _ _ c (λ k l. ap bit (common-bit k l))

-- a pattern of at most 64 samples fits in one word
pub one-word : (c w : ℕ) → c ≤ 64 → w < 2 ^ c → w < 2 ^ 64
one-word c w few small = lt_of_lt_of_le small (pow_mono few)

and-true : (b : Bool) → b ≡ (b && true)
and-true true = refl
and-true false = refl

-- ---- counts

module _ (c : ℕ) (samples : List ℕ) (w : ℕ) (small : w < 2 ^ c) where
  pub size-count : ones w ≡ side_size c samples w true
  unfolding side_count
  size-count = ones-bits c w small ∙ sum-ext _ _ c (λ k l. ap bit (and-true (test_bit w k)))

  pub below-count : (v : ℕ) → ones (bit_and w (below_word c samples v)) ≡ side_below c samples w true v
  unfolding side_count
  below-count v = common-ones c w (λ k. ltb (get_or samples k 0) v) small
