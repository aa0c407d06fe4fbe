-- Document 01, "Sheet": the neighbours (document 01: the border) of a block, read from the sheet's samples, where those that are missing
-- are filled as HEVC 8.4.4.2.2 has it.
use Rattle.std.specs.Prelude.{ℕ, zero, suc, ◌+◌, ◌-◌, ◌*◌, ◌/◌, Bool, cond, ◌&&◌, List, eqb, ltb, get_or}
use Rattle.arith.specs.Lists.{list_of}
use Rattle.arith.specs.Square.{place}
use Rattle.sheet_grid.specs.Grid.{block_x, block_y, block_at}

-- where a neighbour is read: a sample of the sheet, or nowhere
pub data Source : Type 0 where
  sample : ℕ → Source
  nowhere : Source

-- what it then is: that sample, or 128
abbrev pub read_from : List ℕ → Source → ℕ
read_from s (sample j) = get_or s j 0
read_from s nowhere = 128

-- ---- substitution along a walk f 0, f 1, ..; a place whose sample is missing is nowhere

-- a, or b where a is missing
abbrev pub or_else : Source → Source → Source
or_else (sample j) b = sample j
or_else nowhere b = b

-- the first of m places whose sample is present; nowhere if none is
unfoldable pub first_present : (ℕ → Source) → ℕ → Source
first_present f zero = nowhere
first_present f (suc m) = or_else (first_present f m) (f m)

-- a missing one takes the one before it, the leading ones take `first`
unfoldable pub substituted_by : Source → (ℕ → Source) → ℕ → Source
substituted_by first f zero = or_else (f zero) first
substituted_by first f (suc i) = or_else (f (suc i)) (substituted_by first f i)

-- ---- the walk around the n by n block whose first sample is (x, y), on a sheet of width w; `present c r` tells whether the sample in
-- ---- column c and row r is present

-- which samples L(i), the corner and T(i) are
abbrev pub left_own : ℕ → ℕ → ℕ → ℕ → Source
left_own w x y i = sample (place w (x - 1) (y + i))

abbrev pub corner_own : ℕ → ℕ → ℕ → Source
corner_own w x y = sample (place w (x - 1) (y - 1))

abbrev pub top_own : ℕ → ℕ → ℕ → ℕ → Source
top_own w x y i = sample (place w (x + i) (y - 1))

-- and whether each is present: left of column 0 and above row 0 there is none
abbrev pub left_present : (ℕ → ℕ → Bool) → ℕ → ℕ → ℕ → Bool
left_present present x y i = ltb 0 x && present (x - 1) (y + i)

abbrev pub corner_present : (ℕ → ℕ → Bool) → ℕ → ℕ → Bool
corner_present present x y = ltb 0 x && (ltb 0 y && present (x - 1) (y - 1))

abbrev pub top_present : (ℕ → ℕ → Bool) → ℕ → ℕ → ℕ → Bool
top_present present x y i = ltb 0 y && present (x + i) (y - 1)

-- the walk: L(2n-1) up to L0, the corner, then T0 to T(2n-1)
abbrev pub walk : ℕ → ℕ → (ℕ → ℕ → Bool) → ℕ → ℕ → ℕ → Source
walk n w present x y i =
    cond (ltb i (2 * n)) (let j = 2 * n - 1 - i in cond (left_present present x y j) (left_own w x y j) nowhere)
    (cond (eqb i (2 * n)) (cond (corner_present present x y) (corner_own w x y) nowhere)
    (let j = i - (2 * n + 1) in cond (top_present present x y j) (top_own w x y j) nowhere))

-- the walk with nothing missing: the leading ones take the first that is present
unfoldable pub substituted : ℕ → ℕ → (ℕ → ℕ → Bool) → ℕ → ℕ → ℕ → Source
substituted n w present x y i = substituted_by (first_present (walk n w present x y) (4 * n + 1)) (walk n w present x y) i

-- neighbour i of it: L0 to L(2n-1), then T0 to T(2n-1)
abbrev pub walked_at : ℕ → ℕ → (ℕ → ℕ → Bool) → ℕ → ℕ → ℕ → Source
walked_at n w present x y i = substituted n w present x y (cond (ltb i (2 * n)) (2 * n - 1 - i) (i + 1))

-- all 4n of them
unfoldable pub walked : ℕ → ℕ → (ℕ → ℕ → Bool) → ℕ → ℕ → List ℕ → List ℕ
walked n w present x y s = list_of (λ i. read_from s (walked_at n w present x y i)) (4 * n)

-- ---- the neighbours of a block of a sheet

-- for the block at (x, y) the sample (c, r) is present where it lies in a block of the sheet that is placed before that one
abbrev pub placed_before : ℕ → ℕ → ℕ → ℕ → ℕ → ℕ → Bool
placed_before n w x y c r = ltb (c / n) (w / n) && ltb (block_at n w c r) (block_at n w x y)

-- the 4n neighbours of the block at (x, y), and of block k
abbrev pub neighbours_at : ℕ → ℕ → ℕ → ℕ → List ℕ → List ℕ
neighbours_at n w x y s = walked n w (placed_before n w x y) x y s

abbrev pub neighbours : ℕ → ℕ → ℕ → List ℕ → List ℕ
neighbours n w k s = neighbours_at n w (block_x n w k) (block_y n w k) s
