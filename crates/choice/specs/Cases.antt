-- The eight cases of a partition's depth (document 01, "Side depths"): which side it is, v and h.
use Rattle.std.specs.Prelude.{ℕ, ◌+◌, ◌-◌, ◌*◌, ◌/◌, ◌%◌, ◌^◌, Bool, cond, List, eqb, leb}
use Rattle.arith.specs.Bits.{bit}
use Rattle.pattern.specs.Pattern.{mark}
use Rattle.prediction.specs.Sides.{differ, vert_edge, hor_edge, lt, br}

-- the number of the case of partition m: 4 where it does not hold (0,0), 2 for document 01's v, 1 for its h
unfoldable pub side_case : ℕ → ℕ → Bool → ℕ
side_case n w m = 4 * bit (differ m (mark n w 0 0)) + (2 * bit (vert_edge n w) + bit (hor_edge n w))

-- a pattern of the case k, with marks in the first row only: at (0,0) where h holds, and at (n-1,0) where just one of v and h does
abbrev pub row_word : ℕ → Bool → Bool → ℕ
row_word n v h = bit (differ v h) * 2 ^ (n - 1) + bit h

abbrev pub corner_word : ℕ → ℕ → ℕ
corner_word n k = row_word n (eqb (k / 2 % 2) 1) (eqb (k % 2) 1)

-- the depth in the case k: from 4 on, of the partition that does not hold (0,0)
unfoldable pub depth_in : ℕ → List ℕ → ℕ → ℕ
depth_in n s k = cond (leb 4 k) (br n (corner_word n k) s) (lt n (corner_word n k) s)
