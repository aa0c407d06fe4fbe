-- Where the counts of a block of a sheet read each neighbour.
use Prim.Native.Nat.{ℕ, ◌-◌, ◌≤◌, ◌<◌, min}
use mathlib.Core.Path.{◌≡◌}
use native.Mathlib.Omega.{arith}
use borrow.Author.Tests.{lt-ltb, le-ltb}
use Rattle.arith.specs.Square.{place}
use Rattle.sheet_grid.specs.Neighbours.{Source, sample, nowhere, left_own, top_own}
use Rattle.sheet_grid.specs.Counts.{left_count, above_count, top_count, counted_left, counted_top, counted_at}
use Rattle.sheet_grid.proofs.CountLaws.{above-some, left-some, left_other, left-gone, top-some, top-other, top-gone}

-- L(i), T(i) and neighbour i
abbrev pub left_source : ℕ → ℕ → ℕ → ℕ → ℕ → Source
left_source n w x y i = counted_left w x y (left_count n x) (top_count n w x y) i

abbrev pub top_source : ℕ → ℕ → ℕ → ℕ → ℕ → Source
top_source n w x y i = counted_top w x y (left_count n x) (top_count n w x y) i

abbrev pub source_at : ℕ → ℕ → ℕ → ℕ → ℕ → Source
source_at n w x y i = counted_at n w x y (left_count n x) (top_count n w x y) i

module _ (n w x y : ℕ) (some : 1 ≤ n) where
  left-count : 0 < x → left_count n x ≡ n
  left-count h = rw (lt-ltb 0 x h)

  left-none : x ≤ 0 → left_count n x ≡ 0
  left-none h = rw (le-ltb 0 x h)

  top-count : 0 < y → top_count n w x y ≡ above_count n w x
  top-count h = rw (lt-ltb 0 y h)

  top-none : y ≤ 0 → top_count n w x y ≡ 0
  top-none h = rw (le-ltb 0 y h)

  -- a block to the left
  pub left-own : (i : ℕ) → 0 < x → left_source n w x y i ≡ left_own w x y (min i (n - 1))
  left-own i h = rw (left-count h) (left-some w x y n (top_count n w x y) i some)

  -- a row above and no block to the left
  pub left-top : (i : ℕ) → x ≤ 0 → 0 < y → left_source n w x y i ≡ sample (place w x (y - 1))
  left-top i h v = rw (left-none h, top-count v) (left_other w x y 0 (above_count n w x) i (omega arith) (omega (arith, above-some n w x some)))

  -- neither
  pub left-nowhere : (i : ℕ) → x ≤ 0 → y ≤ 0 → left_source n w x y i ≡ nowhere
  left-nowhere i h v = rw (left-none h, top-none v) (left-gone w x y 0 0 i (omega arith) (omega arith))

  -- a row above
  pub top-own : (i : ℕ) → 0 < y → top_source n w x y i ≡ top_own w x y (min i (above_count n w x - 1))
  top-own i v = rw (top-count v) (top-some w x y (left_count n x) (above_count n w x) i (omega (arith, above-some n w x some)))

  -- a block to the left and no row above
  pub top_left : (i : ℕ) → y ≤ 0 → 0 < x → top_source n w x y i ≡ sample (place w (x - 1) y)
  top_left i v h = rw (top-none v, left-count h) (top-other w x y n 0 i (omega arith) some)

  pub top-nowhere : (i : ℕ) → y ≤ 0 → x ≤ 0 → top_source n w x y i ≡ nowhere
  top-nowhere i v h = rw (top-none v, left-none h) (top-gone w x y 0 0 i (omega arith) (omega arith))
