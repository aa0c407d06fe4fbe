-- Sums of a block's samples by their marks, eight samples at a time.
use Rattle.std.specs.Prelude.{ℕ, ◌+◌, ◌-◌, ◌*◌, ◌/◌, ◌%◌, ◌^◌, ◌≤◌, ◌<◌, ◌≡◌, cond, List, [], ◌⊎◌, length, get_or}
use Rattle.arith.specs.Bits.{test_bit}
use Rattle.arith.specs.Sum.{sum_to}

-- the sum of f over the set bits of the number w, of its first c bits
unfoldable pub marked_sum : (ℕ → ℕ) → ℕ → ℕ → ℕ
marked_sum f w c = sum_to (λ k. cond (test_bit w k) (f k) 0) c

-- in row r at b is the sum of those of the samples 8r to 8r + 7 that the byte b marks, for every byte that marks none past the first c
-- samples
abbrev pub sum_at : List (List ℕ) → ℕ → ℕ → ℕ
sum_at l r b = get_or (get_or l r []) b 0

abbrev pub EightSums : ℕ → List ℕ → List (List ℕ) → Type 0
EightSums c samples l =
    (length l ≡ 32)
    × ((r b : ℕ) → r < 32 → b < 256 → b < 2 ^ (c - 8 * r) → sum_at l r b ≡ marked_sum (λ j. get_or samples (8 * r + j) 0) b 8)

-- behind the first `width` sums stand the same with x added; all others are as before
pub record Extended (before after : List ℕ) (width x : ℕ) : Type 0 where
  pub as_long : length after ≡ length before
  pub added : (i : ℕ) → i < width → get_or after (width + i) 0 ≡ get_or before i 0 + x
  pub others : (a : ℕ) → (a < width) ⊎ (width + width ≤ a) → get_or after a 0 ≡ get_or before a 0

-- behind the `width` sums from a place on stand the first m of the same with x added; all others are as before: for a law that no proof
-- cites
pub record Followed (before after : List ℕ) (from width x m : ℕ) : Type 0 where
  pub as_long : length after ≡ length before
  pub added : (i : ℕ) → i < m → get_or after (from + width + i) 0 ≡ get_or before (from + i) 0 + x
  pub others : (a : ℕ) → (a < from + width) ⊎ (from + width + m ≤ a) → get_or after a 0 ≡ get_or before a 0

-- the sum of what is looked up for the first m bytes of a word, which marks samples from 64i on
abbrev pub bytes_sum : List (List ℕ) → ℕ → ℕ → ℕ → ℕ
bytes_sum sums i w m = sum_to (λ k. sum_at sums (8 * i + k) (w / 2 ^ (8 * k) % 256)) m
