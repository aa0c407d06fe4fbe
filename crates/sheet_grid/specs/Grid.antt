-- Document 01, "Sheet": the sides of a sheet, its blocks and where each lies.
use Rattle.std.specs.Prelude.{ℕ, ◌*◌, ◌/◌, ◌%◌, ◌≤◌, ◌+◌, Bool, ◌&&◌, eqb, leb}
use Rattle.arith.specs.Square.{place}
use Rattle.pattern.specs.Size.{greatest_size}

-- the greatest width and height
abbrev pub longest : ℕ
longest = 128

-- the most samples (16,384) and the most blocks of a sheet, 32 by 32 of size 4
abbrev pub most_samples : ℕ
most_samples = longest * longest

abbrev pub most_blocks : ℕ
most_blocks = 1024

-- a width or a height: a multiple of n, n to 128; refusal 8 is given where one is not
abbrev pub side_ok : ℕ → ℕ → Bool
side_ok n side = leb n side && (leb side longest && eqb (side % n) 0)

-- the number of blocks; where a side is no multiple of n, whole blocks are counted
abbrev pub blocks : ℕ → ℕ → ℕ → ℕ
blocks n w h = w / n * (h / n)

-- the column and the row of the first sample of block k: blocks come row by row, left to right
abbrev pub block_x : ℕ → ℕ → ℕ → ℕ
block_x n w k = k % (w / n) * n

abbrev pub block_y : ℕ → ℕ → ℕ → ℕ
block_y n w k = k / (w / n) * n

-- the number of the block that holds the sample in column c and row r, and of the block that holds sample j of the sheet
abbrev pub block_at : ℕ → ℕ → ℕ → ℕ → ℕ
block_at n w c r = place (w / n) (c / n) (r / n)

abbrev pub block_holding : ℕ → ℕ → ℕ → ℕ
block_holding n w j = block_at n w (j % w) (j / w)

-- an n by n block whose first sample is (x, y), no greater than the greatest, lies inside a sheet of width w and so many samples
pub record Inside (n w samples x y : ℕ) : Type 0 where
  pub some : 1 ≤ n
  pub high : n ≤ greatest_size
  pub across : x + n ≤ w
  pub down : (y + n) * w ≤ samples
