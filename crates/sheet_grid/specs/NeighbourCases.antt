-- What is shown of a block's neighbours, as statements.
use Rattle.std.specs.Prelude.{ℕ, ◌+◌, ◌-◌, ◌*◌, ◌≤◌, ◌<◌, List, ◌≡◌, get_or}
use Rattle.arith.specs.Square.{place}
use Rattle.prediction.specs.Sides.{left_at, top_at}
use Rattle.sheet_grid.specs.Grid.{block_holding}
use Rattle.sheet_grid.specs.Neighbours.{neighbours_at}

-- Document 01's cases of the neighbours of the block at (x, y): L is the left run and T the top run.
pub record NeighbourCases (n w x y : ℕ) (s : List ℕ) : Type 0 where
  -- no block left or above: all 128
  pub none : x ≡ 0 → y ≡ 0 → (i : ℕ) → i < 4 * n → get_or (neighbours_at n w x y s) i 0 ≡ 128
  -- a block to the left: its samples
  pub left : 0 < x → (i : ℕ) → i < n → left_at (neighbours_at n w x y s) i ≡ get_or s (place w (x - 1) (y + i)) 0
  -- left only: T all L0
  pub left_only : 0 < x → y ≡ 0 → (i : ℕ) → i < 2 * n → top_at n (neighbours_at n w x y s) i ≡ left_at (neighbours_at n w x y s) 0
  -- a row above: its samples
  pub above : 0 < y → (i : ℕ) → i < n → top_at n (neighbours_at n w x y s) i ≡ get_or s (place w (x + i) (y - 1)) 0
  -- above only: L all T0
  pub above_only : x ≡ 0 → 0 < y → (i : ℕ) → i < 2 * n → left_at (neighbours_at n w x y s) i ≡ top_at n (neighbours_at n w x y s) 0
  -- below left: always L(n-1)
  pub below : (i : ℕ) → n ≤ i → i < 2 * n → left_at (neighbours_at n w x y s) i ≡ left_at (neighbours_at n w x y s) (n - 1)
  -- upper right, with a row above: its samples, or T(n-1) beyond the sheet's edge
  pub right :
      0 < y → x + 2 * n ≤ w → (i : ℕ) → n ≤ i → i < 2 * n → top_at n (neighbours_at n w x y s) i ≡ get_or s (place w (x + i) (y - 1)) 0
  pub beyond :
      0 < y → w < x + 2 * n → (i : ℕ) → n ≤ i → i < 2 * n
      → top_at n (neighbours_at n w x y s) i ≡ top_at n (neighbours_at n w x y s) (n - 1)

-- two lists of samples are the same in every block before block k
abbrev pub SameBefore : ℕ → ℕ → ℕ → ℕ → List ℕ → List ℕ → Type 0
SameBefore n w samples k s t = (j : ℕ) → j < samples → block_holding n w j < k → get_or s j 0 ≡ get_or t j 0

-- v is a sample of a block before block k
pub record SampleBefore (n w samples k : ℕ) (s : List ℕ) (v : ℕ) : Type 0 where
  pub index : ℕ
  pub inside : index < samples
  pub before : block_holding n w index < k
  pub there : v ≡ get_or s index 0
