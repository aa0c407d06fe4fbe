-- What the public calls answer and leave in the lent slice.
use Rattle.std.specs.Prelude.{ℕ, List, [], ◌∷◌, length}
use Rattle.arith.specs.Checks.{refusal, lent}
use Rattle.pattern.specs.Size.{size_ok}
use Rattle.pattern.specs.Answer.{samples_refusal}
use Rattle.block.specs.Block.{capacity, block_of, transposed_block, samples_of}

-- `block_of` leaves the block of the samples s
unfoldable pub block_after : ℕ → List ℕ → List (List ℕ) → List (List ℕ)
block_after n s old = lent (samples_refusal n (length s)) (block_of capacity n s) old

-- 1: the size
unfoldable pub size_refusal : ℕ → ℕ
size_refusal n = refusal ((size_ok n, 1) ∷ []) 0

-- `transpose` leaves the transposed block
unfoldable pub transposed_after : ℕ → List (List ℕ) → List (List ℕ)
transposed_after n b = lent (size_refusal n) (transposed_block capacity n b) b

-- `write_block` writes the samples row by row to a lent slice of n * n
unfoldable pub samples_after : ℕ → List (List ℕ) → List ℕ → List ℕ
samples_after n b old = lent (samples_refusal n (length old)) (samples_of n b) old
