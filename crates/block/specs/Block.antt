-- A block is n rows of n samples, kept in m rows of m places (m is the capacity) and filled up to n; the other places are 0.
use Rattle.std.specs.Prelude.{ℕ, ◌*◌, ◌/◌, ◌%◌, List, [], get_or, replicate}
use Rattle.arith.specs.Lists.{list_of, upto}
use Rattle.arith.specs.Square.{place}
use Rattle.pattern.specs.Size.{greatest_size}

-- the rows and columns that a block has room for
abbrev pub capacity : ℕ
capacity = greatest_size

-- sample (x, y), column and row from 0
abbrev pub sample : List (List ℕ) → ℕ → ℕ → ℕ
sample b x y = get_or (get_or b y []) x 0

-- the block whose sample (x, y) is f x y
unfoldable pub block_by : ℕ → ℕ → (ℕ → ℕ → ℕ) → List (List ℕ)
block_by m n f = upto m n (λ y. upto m n (λ x. f x y) 0) (replicate m 0)

-- the block of samples that come row by row
abbrev pub block_of : ℕ → ℕ → List ℕ → List (List ℕ)
block_of m n s = block_by m n (λ x y. get_or s (place n x y) 0)

-- the block transposed: sample (x, y) moves to (y, x)
abbrev pub transposed_block : ℕ → ℕ → List (List ℕ) → List (List ℕ)
transposed_block m n b = block_by m n (λ x y. sample b y x)

-- the samples of a block, row by row
unfoldable pub samples_of : ℕ → List (List ℕ) → List ℕ
samples_of n b = list_of (λ k. sample b (k % n) (k / n)) (n * n)
