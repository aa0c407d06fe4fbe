-- A block's samples in layers, each layer a pattern; and a part of a block.
use Rattle.std.specs.Prelude.{ℕ, ◌+◌, ◌-◌, ◌*◌, ◌^◌, ◌≤◌, ◌<◌, min, ◌≡◌, Bool, true, cond, List, [], eqb, ltb, length, get_or}
use Rattle.arith.specs.Bits.{bits}
use Rattle.pattern.specs.Size.{greatest_samples}
use Rattle.pattern.specs.Words.{four_at}
use Rattle.choice.specs.Tally.{side_size}
use Rattle.choice.specs.Sums.{marked_sum, EightSums}

-- of the first c samples: those below v
abbrev pub below_word : ℕ → List ℕ → ℕ → ℕ
below_word c samples v = bits (λ k. ltb (get_or samples k 0) v) c

-- layers are rows of four words each: the row at a place, and the pattern that it is
abbrev pub row_at : List (List ℕ) → ℕ → List ℕ
row_at l v = get_or l v []

abbrev pub layer_at : List (List ℕ) → ℕ → ℕ
layer_at l v = four_at (row_at l v) 0

-- of a layer that marks the samples k, of the first c, where f k holds: word i
abbrev pub word_of : (ℕ → Bool) → ℕ → ℕ → ℕ
word_of f c i = bits (λ j. f (64 * i + j)) (min 64 (c - 64 * i))

-- the words of such layers
abbrev pub EqualWords : ℕ → List ℕ → List (List ℕ) → Type 0
EqualWords c samples l =
    (length l ≡ 256) × ((v i : ℕ) → v < 256 → i < 4 → get_or (row_at l v) i 0 ≡ word_of (λ k. eqb (get_or samples k 0) v) c i)

abbrev pub BelowWords : ℕ → List ℕ → List (List ℕ) → Type 0
BelowWords m samples l =
    (v i : ℕ) → v < m → i < 4 → get_or (row_at l v) i 0 ≡ word_of (λ k. ltb (get_or samples k 0) v) (length samples) i

-- and the layers themselves
abbrev pub BelowLayers : ℕ → List ℕ → List (List ℕ) → Type 0
BelowLayers m samples l = (v : ℕ) → v < m → layer_at l v ≡ below_word (length samples) samples v

-- a pattern that fits in one word, or in four where it may be wide
abbrev pub Fits : Bool → ℕ → Type 0
Fits wide w = w < 2 ^ cond wide greatest_samples 64

-- all layers of a block, and its sums
pub record Layered (samples : List ℕ) (below sums : List (List ℕ)) : Type 0 where
  pub few : length samples ≤ greatest_samples
  pub below_at : BelowLayers 257 samples below
  pub sums_at : EightSums (length samples) samples sums

-- the part of a word: the samples that it marks, how many there are, and their sum
pub record Parted (samples : List ℕ) (below sums : List (List ℕ)) (word size sum : ℕ) : Type 0 where
  pub layers : Layered samples below sums
  pub small : word < 2 ^ length samples
  pub its_size : size ≡ side_size (length samples) samples word true
  pub its_sum : sum ≡ marked_sum (λ k. get_or samples k 0) word (length samples)
