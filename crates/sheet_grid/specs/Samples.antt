-- Document 01, "Sheet": one block of a sheet's samples, written and read.
use Rattle.std.specs.Prelude.{ℕ, ◌+◌, ◌-◌, ◌*◌, ◌/◌, ◌%◌, Bool, cond, ◌&&◌, List, leb, ltb, length, get_or}
use Rattle.arith.specs.Lists.{list_of, upto}
use Rattle.arith.specs.Square.{place}
use Rattle.block.specs.Block.{capacity, block_by}

-- whether column c and row r lie in the n by n block whose first sample is (x, y)
abbrev pub covers : ℕ → ℕ → ℕ → ℕ → ℕ → Bool
covers n x y c r = leb x c && (ltb c (x + n) && (leb y r && ltb r (y + n)))

-- sample j of a sheet of width w with the block b, row by row, at (x, y)
abbrev pub written_at : ℕ → ℕ → ℕ → ℕ → List ℕ → List ℕ → ℕ → ℕ
written_at n w x y b s j =
    cond (covers n x y (j % w) (j / w)) (get_or b (place n (j % w - x) (j / w - y)) 0) (get_or s j 0)

-- the sheet's samples with the block written
unfoldable pub written : ℕ → ℕ → ℕ → ℕ → List ℕ → List ℕ → List ℕ
written n w x y b s = list_of (written_at n w x y b s) (length s)

-- the block at (x, y) of a sheet's samples, row by row
unfoldable pub cut : ℕ → ℕ → ℕ → ℕ → List ℕ → List ℕ
cut n w x y s = list_of (λ k. get_or s (place w (x + k % n) (y + k / n)) 0) (n * n)

-- ---- as the code has them

-- the block that is cut, n rows of n
abbrev pub cut_block : ℕ → ℕ → ℕ → ℕ → List ℕ → List (List ℕ)
cut_block n w x y s = block_by capacity n (λ i r. get_or s (place w (x + i) (y + r)) 0)

-- the list with the first n values of a row in the places from `at` on
unfoldable pub with_row : ℕ → ℕ → List ℕ → List ℕ → List ℕ
with_row n at row s = list_of (λ j. cond (leb at j && ltb j (at + n)) (get_or row (j - at) 0) (get_or s j 0)) (length s)

-- an array of m places whose first k hold those of the list, the others 0
abbrev pub filled : ℕ → ℕ → List ℕ → List ℕ
filled m k l = upto m k (λ i. get_or l i 0) 0
