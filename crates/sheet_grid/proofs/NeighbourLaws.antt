-- The neighbours of a block are read only where a sample is present: from blocks that come before it.
use Prim.Native.Nat.{ℕ, zero, suc, ◌+◌, ◌-◌, ◌*◌, ◌/◌, ◌≤◌, ◌<◌}
use mathlib.Core.Bool.{Bool, true, false, cond}
use mathlib.Core.List.{List}
use mathlib.Core.Logic.{◌⊎◌, inl, inr}
use mathlib.Core.Path.{◌≡◌, refl}
use native.Mathlib.Nat.{mul_comm, div-lt_iff_lt-mul, div-mul-le_self, lt_of_mul-lt-mul_right}
use native.Mathlib.Omega.{arith}
use lib.Arith.{digits_div, digits_mod, digits_lt}
use lib.Dec.{eqb, ltb}
use lib.ListN.{length, get_or}
use Rattle.arith.specs.Square.{place}
use Rattle.arith.proofs.Bools.{both_of}
use Rattle.arith.proofs.ListLaws.{length-list_of, list_of-at, list_of-ext}
use Rattle.sheet_grid.specs.Grid.{blocks, block_x, block_y, block_holding}
use Rattle.sheet_grid.specs.Neighbours.{Source, sample, nowhere, read_from, or_else, first_present, substituted_by, left_present, corner_present, top_present, left_own, corner_own, top_own, walk, substituted, walked_at, walked, placed_before, neighbours}
use Rattle.sheet_grid.specs.NeighbourCases.{SameBefore, SampleBefore}
use Rattle.sheet_grid.proofs.HoldingLaws.{present-before}

-- ---- what holds of every place of a walk, and of nowhere, holds after substitution

module _ (P : Source → Type 0) (none : P nowhere) where
  -- the definitions of substitution, one by one
  or-all : (a b : Source) → P a → P b → P (or_else a b)
  or-all (sample j) b p q = p
  or-all nowhere b p q = q

  first-all : (f : ℕ → Source) (m : ℕ) → ((i : ℕ) → P (f i)) → P (first_present f m)
  unfolding first_present
  first-all f zero h = none
  first-all f (suc m) h = or-all (first_present f m) (f m) (first-all f m h) (h m)

  substituted-all : (z : Source) (f : ℕ → Source) (i : ℕ) → P z → ((j : ℕ) → P (f j)) → P (substituted_by z f i)
  unfolding substituted_by
  substituted-all z f zero p h = or-all (f 0) z (h 0) p
  substituted-all z f (suc i) p h = or-all (f (suc i)) (substituted_by z f i) (h (suc i)) (substituted-all z f i p h)

  module _ (n w : ℕ) (present : ℕ → ℕ → Bool) (x y : ℕ) (here : (c r : ℕ) → present c r ≡ true → P (sample (place w c r))) where
    -- the walk, where it holds of every sample that is present
    seen : (t : Bool) (own : Source) → (t ≡ true → P own) → P (cond t own nowhere)
    seen true own h = h refl
    seen false own h = none

    walk-all : (i : ℕ) → P (walk n w present x y i)
    walk-all i = go (ltb i (2 * n)) (eqb i (2 * n))
      where
        l : ℕ
        l = 2 * n - 1 - i

        t : ℕ
        t = i - (2 * n + 1)

        go :
            (a b : Bool)
            → P (cond a (cond (left_present present x y l) (left_own w x y l) nowhere)
            (cond b (cond (corner_present present x y) (corner_own w x y) nowhere) (cond (top_present present x y t) (top_own w x y t) nowhere)))
        go true b = seen (left_present present x y l) (left_own w x y l) (λ e. here (x - 1) (y + l) (both_of (ltb 0 x) _ e).1)
        go false true =
            seen (corner_present present x y) (corner_own w x y)
            (λ e. here (x - 1) (y - 1) (both_of (ltb 0 y) _ (both_of (ltb 0 x) _ e).1).1)
        go false false = seen (top_present present x y t) (top_own w x y t) (λ e. here (x + t) (y - 1) (both_of (ltb 0 y) _ e).1)

    -- a neighbour is read where a sample is present, or nowhere
    pub walked_all : (i : ℕ) → P (substituted n w present x y i)
    unfolding substituted
    walked_all i = substituted-all _ (walk n w present x y) i (first-all (walk n w present x y) (4 * n + 1) walk-all) walk-all

-- ---- the blocks of a sheet

-- a sample of a block before block k, in a sheet of w by h samples; what is read nowhere counts too
abbrev pub Earlier : ℕ → ℕ → ℕ → ℕ → Source → Type 0
Earlier n w h k (sample j) = (j < w * h) × (block_holding n w j < k)
Earlier n w h k nowhere = Unit {0}

module _ (n w h k : ℕ) (some : 1 ≤ n) (inner : k < blocks n w h) where
  -- a sample that is present for block k lies on the sheet, in a block before block k
  present-earlier : (c r : ℕ) → placed_before n w (block_x n w k) (block_y n w k) c r ≡ true → Earlier n w h k (sample (place w c r))
  present-earlier c r e =
      let p = present-before n w k c r some e in
      let column : c < w = omega (arith, (div-lt_iff_lt-mul {k = n} {x = c} {y = w / n} some).0 p.0, div-mul-le_self w n) in
      let above : r / n < h / n = lt_of_mul-lt-mul_right (w / n) (omega (arith, mul_comm (w / n) (h / n))) in
      let row : r < h = omega (arith, (div-lt_iff_lt-mul {k = n} {x = r} {y = h / n} some).0 above, div-mul-le_self h n) in
      (omega (arith, digits_lt {q = r} {m = h} {r = c} {c = w} row column, mul_comm w h), rw (digits_mod r column, digits_div r column) p.1)

  -- where neighbour i of block k is read
  source : ℕ → Source
  source = walked_at n w (placed_before n w (block_x n w k) (block_y n w k)) (block_x n w k) (block_y n w k)

  source-earlier : (i : ℕ) → Earlier n w h k (source i)
  unfolding source
  source-earlier i =
      walked_all (Earlier n w h k) tt n w (placed_before n w (block_x n w k) (block_y n w k)) (block_x n w k) (block_y n w k) present-earlier
      (cond (ltb i (2 * n)) (2 * n - 1 - i) (i + 1))

  -- ---- the laws

  -- samples that are the same in every block before k give the same neighbours
  pub neighbours-same : (s t : List ℕ) → SameBefore n w (w * h) k s t → neighbours n w k s ≡ neighbours n w k t
  unfolding walked source
  neighbours-same s t same = list_of-ext _ _ (4 * n) (λ i _. go (source i) (source-earlier i))
    where
      go : (c : Source) → Earlier n w h k c → read_from s c ≡ read_from t c
      go (sample j) e = same j e.0 e.1
      go nowhere e = refl

  -- every neighbour is 128 or a sample of a block before k
  pub neighbour-from :
      (s : List ℕ) (i : ℕ) → i < 4 * n
      → (get_or (neighbours n w k s) i 0 ≡ 128) ⊎ SampleBefore n w (w * h) k s (get_or (neighbours n w k s) i 0)
  unfolding walked source
  neighbour-from s i l = go (source i) (source-earlier i) (list_of-at _ 0 (4 * n) i l)
    where
      go : {v : ℕ} (c : Source) → Earlier n w h k c → v ≡ read_from s c → (v ≡ 128) ⊎ SampleBefore n w (w * h) k s v
      go (sample j) e q = inr (record { index = j; inside = e.0; before = e.1; there = q })
      go nowhere e q = inl q

-- a block of n by n samples has 4n neighbours
pub length-neighbours : (n w k : ℕ) (s : List ℕ) → length (neighbours n w k s) ≡ 4 * n
unfolding walked
length-neighbours n w k s = length-list_of _ (4 * n)
