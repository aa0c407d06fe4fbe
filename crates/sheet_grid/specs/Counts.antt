-- The neighbours of a block by two counts, as the code reads them.
use Rattle.std.specs.Prelude.{ℕ, ◌+◌, ◌-◌, ◌*◌, ◌≤◌, ◌<◌, min, Bool, true, cond, List, ◌≡◌, leb, ltb}
use Rattle.arith.specs.Lists.{list_of}
use Rattle.arith.specs.Square.{place}
use Rattle.sheet_grid.specs.Neighbours.{Source, sample, nowhere, read_from, left_present, corner_present, top_present, left_own, top_own}

-- of the left run exactly the first l samples are present, of the top run exactly the first t, and the corner only where both have one
pub record Counted (n : ℕ) (present : ℕ → ℕ → Bool) (x y l t : ℕ) : Type 0 where
  pub left : (i : ℕ) → i < 2 * n → left_present present x y i ≡ ltb i l
  pub top : (i : ℕ) → i < 2 * n → top_present present x y i ≡ ltb i t
  pub corner : corner_present present x y ≡ true → (0 < l) × (0 < t)

-- place i of a run whose first `count` samples are present: past them the last of them stands; where none is present, `other` does
abbrev pub run : ℕ → (ℕ → Source) → Source → ℕ → Source
run count own other i = cond (ltb 0 count) (own (min i (count - 1))) other

-- L0 to L(2n-1) and T0 to T(2n-1); a run with none present takes the first of the other run
unfoldable pub counted_left : ℕ → ℕ → ℕ → ℕ → ℕ → ℕ → Source
counted_left w x y l t i = run l (left_own w x y) (run t (top_own w x y) nowhere 0) i

unfoldable pub counted_top : ℕ → ℕ → ℕ → ℕ → ℕ → ℕ → Source
counted_top w x y l t i = run t (top_own w x y) (run l (left_own w x y) nowhere 0) i

-- the left run, then the top run
abbrev pub counted_at : ℕ → ℕ → ℕ → ℕ → ℕ → ℕ → ℕ → Source
counted_at n w x y l t i = cond (ltb i (2 * n)) (counted_left w x y l t i) (counted_top w x y l t (i - 2 * n))

-- the 4n neighbours of the block at (x, y) where its runs have l and t samples present
unfoldable pub counted : ℕ → ℕ → ℕ → ℕ → ℕ → ℕ → List ℕ → List ℕ
counted n w x y l t s = list_of (λ i. read_from s (counted_at n w x y l t i)) (4 * n)

-- ---- the same by places, as the code reads them: the first samples of the runs stand at `left` and `top`, the next ones of the left
-- ---- run w places further each

-- the first sample of a run, if it has one
abbrev pub first_of : ℕ → ℕ → Source
first_of count first = cond (ltb 0 count) (sample first) nowhere

-- place i of a run whose samples stand `step` places apart; where none is present, the first of the other run stands
abbrev pub run_at : ℕ → ℕ → ℕ → ℕ → ℕ → ℕ → Source
run_at count first step others other i = run count (λ j. sample (first + j * step)) (first_of others other) i

-- the left run, then the top run
abbrev pub runs_at : ℕ → ℕ → ℕ → ℕ → ℕ → ℕ → ℕ → Source
runs_at n w l left t top i = cond (ltb i (2 * n)) (run_at l left w t top i) (run_at t top 1 l left (i - 2 * n))

-- what a run reads stands among so many samples
pub record RunIn (samples count first step others other : ℕ) : Type 0 where
  pub own : (j : ℕ) → j < count → first + j * step < samples
  pub rest : 0 < others → other < samples

-- the places of the first samples of the two runs of the block at (x, y); 0 where a run has none
abbrev pub left_first : ℕ → ℕ → ℕ → ℕ
left_first w x y = cond (ltb 0 x) (place w (x - 1) y) 0

abbrev pub top_first : ℕ → ℕ → ℕ → ℕ
top_first w x y = cond (ltb 0 y) (place w x (y - 1)) 0

-- the samples that the two counts name stand among so many samples of a sheet of width w
pub record RunsInside (w samples x y l t : ℕ) : Type 0 where
  pub left : 0 < l → (0 < x) × (x ≤ w) × ((y + l) * w ≤ samples)
  pub top : 0 < t → (0 < y) × (x + t ≤ w) × (y * w ≤ samples)

-- ---- the counts of a block of a sheet

-- The left run has n samples present where there is a block to the left: the ones below them are never placed before the block.
abbrev pub left_count : ℕ → ℕ → ℕ
left_count n x = cond (ltb 0 x) n 0

-- The top run has 2n present where there is a row above, and n at the sheet's right edge.
abbrev pub above_count : ℕ → ℕ → ℕ → ℕ
above_count n w x = cond (leb (x + 2 * n) w) (2 * n) n

abbrev pub top_count : ℕ → ℕ → ℕ → ℕ → ℕ
top_count n w x y = cond (ltb 0 y) (above_count n w x) 0
