-- Laws of patterns, mark by mark.
use Prim.Native.Nat.{ℕ, ◌*◌, ◌/◌, ◌%◌, ◌^◌, ◌<◌}
use mathlib.Core.Bool.{Bool, false}
use mathlib.Core.Path.{◌≡◌, sym, ap, ap₂, ◌∙◌}
use lib.Arith.{digits_div, digits_mod}
use lib.Count.{ones}
use Rattle.arith.specs.Bits.{bit, test_bit}
use Rattle.arith.specs.Square.{place, across}
use Rattle.arith.specs.Sum.{sum_to}
use Rattle.arith.proofs.BitLaws.{bits-lt, bits-ext, bits_at, bits-same, bits_none, zero_bit, ones-bits}
use Rattle.arith.proofs.Sums.{sum-ext}
use Rattle.arith.proofs.SquareLaws.{column-lt, row_lt, place-lt, place-own, sum-across}
use Rattle.pattern.specs.Pattern.{mark, pattern, transposed}

pub mark-pattern : (n : ℕ) (f : ℕ → ℕ → Bool) (x y : ℕ) → x < n → y < n → mark n (pattern n f) x y ≡ f x y
mark-pattern n f x y hx hy =
    bits_at (λ i. f (i % n) (i / n)) (n * n) (place n x y) (place-lt n x y hx hy)
    ∙ ap₂ f (digits_mod y hx) (digits_div y hx)

-- patterns with the same marks are the same
pub pattern-ext : (n : ℕ) (f g : ℕ → ℕ → Bool) → ((x y : ℕ) → x < n → y < n → f x y ≡ g x y) → pattern n f ≡ pattern n g
pattern-ext n f g h =
    bits-ext (λ i. f (i % n) (i / n)) (λ i. g (i % n) (i / n)) (n * n)
    (λ i l. h (i % n) (i / n) (column-lt n i l) (row_lt n i l))

-- a pattern is that of its own marks
pub own-marks : (n w : ℕ) → w < 2 ^ (n * n) → pattern n (mark n w) ≡ w
own-marks n w h =
    bits-ext (λ i. test_bit w (place n (i % n) (i / n))) (test_bit w) (n * n) (λ i _. ap (test_bit w) (place-own n i))
    ∙ bits-same (n * n) w h

-- ---- transposing

pub transposed-lt : (n w : ℕ) → transposed n w < 2 ^ (n * n)
transposed-lt n w = bits-lt _ (n * n)

-- the mark of (x, y) is the old one of (y, x)
pub transposed-mark : (n w x y : ℕ) → x < n → y < n → mark n (transposed n w) x y ≡ mark n w y x
transposed-mark n w x y hx hy = mark-pattern n (λ a b. mark n w b a) x y hx hy

-- the same by places: the mark at a place is the old one across the diagonal
pub transposed-bit : (n w k : ℕ) → k < n * n → test_bit (transposed n w) k ≡ test_bit w (across n k)
transposed-bit n w k h = bits_at (λ i. mark n w (i / n) (i % n)) (n * n) k h

pub transposed_pattern : (n : ℕ) (f : ℕ → ℕ → Bool) → transposed n (pattern n f) ≡ pattern n (λ x y. f y x)
transposed_pattern n f =
    pattern-ext n (λ x y. mark n (pattern n f) y x) (λ x y. f y x) (λ x y hx hy. mark-pattern n f y x hy hx)

-- transposed twice it is the pattern again
pub transposed-transposed : (n w : ℕ) → w < 2 ^ (n * n) → transposed n (transposed n w) ≡ w
transposed-transposed n w h = transposed_pattern n (λ x y. mark n w y x) ∙ own-marks n w h

pub transposed-zero : (n : ℕ) → transposed n 0 ≡ 0
transposed-zero n = pattern-ext n (λ x y. mark n 0 y x) (λ _ _. false) (λ x y _ _. zero_bit (place n y x)) ∙ bits_none (n * n)

pub transposed-nonzero : (n w : ℕ) → w < 2 ^ (n * n) → (w ≡ 0 → ⊥) → transposed n w ≡ 0 → ⊥
transposed-nonzero n w h z q = z (sym (transposed-transposed n w h) ∙ ap (transposed n) q ∙ transposed-zero n)

-- ---- the number of marks

-- the count of ones of the word is the number of marked samples
pub marks-counted : (n w : ℕ) → w < 2 ^ (n * n) → ones w ≡ sum_to (λ k. bit (test_bit w k)) (n * n)
marks-counted n w h = ones-bits (n * n) w h

-- a transposed pattern has as many
pub ones-transposed : (n w : ℕ) → w < 2 ^ (n * n) → ones (transposed n w) ≡ ones w
ones-transposed n w h =
    marks-counted n (transposed n w) (transposed-lt n w)
    ∙ sum-ext _ _ (n * n) (λ k l. ap bit (transposed-bit n w k l))
    ∙ sum-across (λ k. bit (test_bit w k)) n
    ∙ sym (marks-counted n w h)
