-- n rows of n places in one row, row by row.
use Rattle.std.specs.Prelude.{ℕ, ◌+◌, ◌*◌, ◌/◌, ◌%◌, List, get_or}
use Rattle.arith.specs.Lists.{list_of}

-- the place of column x in row y
abbrev pub place : ℕ → ℕ → ℕ → ℕ
place n x y = y * n + x

-- the place across the main diagonal: of column x in row y it is that of column y in row x
abbrev pub across : ℕ → ℕ → ℕ
across n k = k % n * n + k / n

-- the square transposed: what stands at (x, y) moves to (y, x)
unfoldable pub transposed_list : ℕ → List ℕ → List ℕ
transposed_list n l = list_of (λ k. get_or l (across n k) 0) (n * n)
