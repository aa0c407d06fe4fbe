-- The neighbours of a block in document 01's cases.
use Prim.Native.Nat.{ℕ, ◌+◌, ◌-◌, ◌*◌, ◌≤◌, ◌<◌, min}
use mathlib.Core.Bool.{Bool, true, false, cond}
use mathlib.Core.List.{List}
use mathlib.Core.Path.{◌≡◌, sym, ap, ◌∙◌}
use native.Mathlib.Nat.{add-zero}
use native.Mathlib.Decide.{dec_lt}
use native.Mathlib.Omega.{arith}
use borrow.Author.Tests.{lt-ltb, le-ltb, le-leb, lt-leb}
use lib.Dec.{ltb}
use lib.ListN.{get_or}
use Rattle.arith.specs.Square.{place}
use Rattle.arith.proofs.ListLaws.{list_of-at}
use Rattle.prediction.specs.Sides.{left_at, top_at}
use Rattle.sheet_grid.specs.Neighbours.{read_from, neighbours_at}
use Rattle.sheet_grid.specs.Counts.{left_count, above_count, top_count, counted}
use Rattle.sheet_grid.specs.NeighbourCases.{NeighbourCases}
use Rattle.sheet_grid.specs.Grid.{block_x, block_y}
use Rattle.sheet_grid.proofs.PlacedLaws.{neighbours-counted}
use Rattle.sheet_grid.proofs.CountLaws.{above-some}
use Rattle.sheet_grid.proofs.SourceLaws.{left_source, top_source, source_at, left-own, left-top, left-nowhere, top-own, top_left, top-nowhere}

-- a block at (x, y) whose neighbours are those of its counts
module _ (n w x y : ℕ) (s : List ℕ) (some : 1 ≤ n) (by-counts : neighbours_at n w x y s ≡ counted n w x y (left_count n x) (top_count n w x y) s) where
  -- neighbour i
  neighbour-at : (i : ℕ) → i < 4 * n → get_or (neighbours_at n w x y s) i 0 ≡ read_from s (source_at n w x y i)
  unfolding counted
  neighbour-at i h = ap (λ (l : List ℕ). get_or l i 0) by-counts ∙ list_of-at _ 0 (4 * n) i h

  -- the two runs
  left_is : (i : ℕ) → i < 2 * n → left_at (neighbours_at n w x y s) i ≡ read_from s (left_source n w x y i)
  left_is i h = neighbour-at i (omega arith) ∙ rw (lt-ltb i (2 * n) h)

  top-is : (i : ℕ) → i < 2 * n → top_at n (neighbours_at n w x y s) i ≡ read_from s (top_source n w x y i)
  top-is i h =
      let e : 2 * n + i - 2 * n ≡ i = omega arith in
      neighbour-at (2 * n + i) (omega arith) ∙ rw (le-ltb (2 * n + i) (2 * n) (omega arith), e)

  min-low : (i m : ℕ) → i ≤ m → min i m ≡ i
  min-low i m h = omega arith

  min-high : (i m : ℕ) → m ≤ i → min i m ≡ m
  min-high i m h = omega arith

  left-sample : (i : ℕ) → 0 < x → i < n → read_from s (left_source n w x y i) ≡ get_or s (place w (x - 1) (y + i)) 0
  left-sample i h l = rw (left-own n w x y some i h, min-low i (n - 1) (omega arith))

  top-sample : (i : ℕ) → 0 < y → i < above_count n w x → read_from s (top_source n w x y i) ≡ get_or s (place w (x + i) (y - 1)) 0
  top-sample i h l = rw (top-own n w x y some i h, min-low i (above_count n w x - 1) (omega arith))

  -- below left is L(n-1) whatever is present
  below-same : (i : ℕ) → n ≤ i → left_source n w x y i ≡ left_source n w x y (n - 1)
  below-same i l = go (dec_lt 0 x) (dec_lt 0 y)
    where
      go : Dec (0 < x) → Dec (0 < y) → left_source n w x y i ≡ left_source n w x y (n - 1)
      go (yes h) v =
          rw (left-own n w x y some i h, left-own n w x y some (n - 1) h, min-high i (n - 1) (omega arith), min-low (n - 1) (n - 1) (omega arith))
      go (no h) (yes v) = left-top n w x y some i (omega arith) v ∙ sym (left-top n w x y some (n - 1) (omega arith) v)
      go (no h) (no v) = left-nowhere n w x y some i (omega arith) (omega arith) ∙ sym (left-nowhere n w x y some (n - 1) (omega arith) (omega arith))

  grey : x ≡ 0 → y ≡ 0 → (i : ℕ) → read_from s (source_at n w x y i) ≡ 128
  grey h v i = go (ltb i (2 * n))
    where
      go : (b : Bool) → read_from s (cond b (left_source n w x y i) (top_source n w x y (i - 2 * n))) ≡ 128
      go true = rw (left-nowhere n w x y some i (omega arith) (omega arith))
      go false = rw (top-nowhere n w x y some (i - 2 * n) (omega arith) (omega arith))

  -- the first of each run
  left-first : 0 < x → left_at (neighbours_at n w x y s) 0 ≡ get_or s (place w (x - 1) y) 0
  left-first h = left_is 0 (omega arith) ∙ left-sample 0 h (omega arith) ∙ ap (λ (r : ℕ). get_or s (place w (x - 1) r) 0) (add-zero y)

  top-first : 0 < y → top_at n (neighbours_at n w x y s) 0 ≡ get_or s (place w x (y - 1)) 0
  top-first v =
      top-is 0 (omega arith)
      ∙ top-sample 0 v (omega (arith, above-some n w x some))
      ∙ ap (λ (c : ℕ). get_or s (place w c (y - 1)) 0) (add-zero x)

  -- at the right edge the last of the samples above is repeated
  edge : w < x + 2 * n → above_count n w x ≡ n
  edge f = rw (lt-leb (x + 2 * n) w f)

  edge_same : (i : ℕ) → 0 < y → w < x + 2 * n → n ≤ i → top_source n w x y i ≡ top_source n w x y (n - 1)
  edge_same i v f l =
      rw (
        top-own n w x y some i v,
        top-own n w x y some (n - 1) v,
        edge f,
        min-high i (n - 1) (omega arith),
        min-low (n - 1) (n - 1) (omega arith),
      )

  -- document 01's cases
  cases : NeighbourCases n w x y s
  cases =
      record {
        none = λ h v i l. neighbour-at i l ∙ grey h v i;
        left = λ h i l. left_is i (omega arith) ∙ left-sample i h l;
        left_only = λ h v i l. top-is i l ∙ ap (read_from s) (top_left n w x y some i (omega arith) h) ∙ sym (left-first h);
        above = λ v i l. top-is i (omega arith) ∙ top-sample i v (omega (arith, above-some n w x some));
        above_only = λ h v i l. left_is i l ∙ ap (read_from s) (left-top n w x y some i (omega arith) v) ∙ sym (top-first v);
        below = λ i l m. left_is i m ∙ ap (read_from s) (below-same i l) ∙ sym (left_is (n - 1) (omega arith));
        right = λ v f i l m. top-is i m ∙ top-sample i v (rw (le-leb (x + 2 * n) w f) m);
        beyond = λ v f i l m. top-is i m ∙ ap (read_from s) (edge_same i v f l) ∙ sym (top-is (n - 1) (omega arith));
      }

-- the neighbours of every block of a sheet are document 01's cases
pub neighbour-cases :
    (n w k : ℕ) (s : List ℕ) → 1 ≤ n → n ≤ w → NeighbourCases n w (block_x n w k) (block_y n w k) s
neighbour-cases n w k s some wide = cases n w (block_x n w k) (block_y n w k) s some (neighbours-counted n w k s some wide)
