-- Where a neighbour is read by two counts, and that it is one of the sheet's samples.
use Prim.Native.Nat.{ℕ, ◌+◌, ◌-◌, ◌*◌, ◌≤◌, ◌<◌, min}
use mathlib.Core.Bool.{Bool, true, false, cond}
use mathlib.Core.List.{List}
use mathlib.Core.Path.{◌≡◌, refl, sym, ap, ap₂}
use native.Mathlib.Nat.{mul-le-mul_right, add-mul}
use native.Mathlib.Decide.{dec_lt}
use native.Mathlib.Omega.{arith}
use borrow.Author.Tests.{lt-ltb, le-ltb, leb-true}
use lib.Arith.{digits_lt}
use lib.Dec.{leb, ltb}
use Rattle.arith.specs.Lists.{list_of}
use Rattle.arith.specs.Square.{place}
use Rattle.arith.proofs.ListLaws.{list_of-ext}
use Rattle.sheet_grid.specs.Grid.{Inside}
use Rattle.sheet_grid.specs.Neighbours.{Source, sample, nowhere, read_from, left_own, top_own}
use Rattle.sheet_grid.specs.Counts.{run, counted_left, counted_top, counted_at, counted, first_of, run_at, runs_at, RunIn, left_first, top_first, RunsInside, left_count, top_count, above_count}

-- the left run: it has a sample present; only the top run has; neither has
module _ (w x y l t i : ℕ) where
  pub left-some : 0 < l → counted_left w x y l t i ≡ left_own w x y (min i (l - 1))
  unfolding counted_left
  left-some h = rw (lt-ltb 0 l h)

  pub left_other : l ≤ 0 → 0 < t → counted_left w x y l t i ≡ sample (place w x (y - 1))
  unfolding counted_left
  left_other h v = let e : x + min 0 (t - 1) ≡ x = omega arith in rw (le-ltb 0 l h, lt-ltb 0 t v, e)

  pub left-gone : l ≤ 0 → t ≤ 0 → counted_left w x y l t i ≡ nowhere
  unfolding counted_left
  left-gone h v = rw (le-ltb 0 l h, le-ltb 0 t v)

  -- the top run likewise
  pub top-some : 0 < t → counted_top w x y l t i ≡ top_own w x y (min i (t - 1))
  unfolding counted_top
  top-some v = rw (lt-ltb 0 t v)

  pub top-other : t ≤ 0 → 0 < l → counted_top w x y l t i ≡ sample (place w (x - 1) y)
  unfolding counted_top
  top-other v h = let e : y + min 0 (l - 1) ≡ y = omega arith in rw (le-ltb 0 t v, lt-ltb 0 l h, e)

  pub top-gone : t ≤ 0 → l ≤ 0 → counted_top w x y l t i ≡ nowhere
  unfolding counted_top
  top-gone v h = rw (le-ltb 0 t v, le-ltb 0 l h)

-- a sample in a column of the sheet and in one of its first rows
in_rows : (w samples c r rows : ℕ) → c < w → r < rows → rows * w ≤ samples → place w c r < samples
in_rows w samples c r rows hc hr h = omega (arith, digits_lt {q = r} {m = rows} {r = c} {c = w} hr hc)

-- what the counts name can be read: place j of a run below its count, and the first place
module _ {w samples x y l t : ℕ} (p : RunsInside w samples x y l t) where
  pub left-read : (j : ℕ) → 0 < l → j < l → place w (x - 1) (y + j) < samples
  left-read j h b = let q = p.left h in in_rows w samples (x - 1) (y + j) (y + l) (omega arith) (omega arith) q.2

  pub left-first-read : 0 < l → place w (x - 1) y < samples
  left-first-read h = let q = p.left h in in_rows w samples (x - 1) y (y + l) (omega arith) (omega arith) q.2

  pub top_read : (j : ℕ) → 0 < t → j < t → place w (x + j) (y - 1) < samples
  top_read j h b = let q = p.top h in in_rows w samples (x + j) (y - 1) y (omega arith) (omega arith) q.2

  pub top-first-read : 0 < t → place w x (y - 1) < samples
  top-first-read h = let q = p.top h in in_rows w samples x (y - 1) y (omega arith) (omega arith) q.2

-- ---- the counts of a block of a sheet

-- with a row above, at least n are present
pub above-some : (n w x : ℕ) → 1 ≤ n → n ≤ above_count n w x
above-some n w x h = go (leb (x + 2 * n) w)
  where
    go : (b : Bool) → n ≤ cond b (2 * n) n
    go true = omega arith
    go false = omega arith

-- they lie inside the sheet's width
pub above-inside : {n w samples x y : ℕ} → Inside n w samples x y → x + above_count n w x ≤ w
above-inside {n} {w} {samples} {x} {y} p = go (leb (x + 2 * n) w) refl
  where
    go : (b : Bool) → leb (x + 2 * n) w ≡ b → x + cond b (2 * n) n ≤ w
    go true e = leb-true (x + 2 * n) w e
    go false e = p.across

-- where the block lies inside the samples, so do the samples that its counts name
pub runs-inside : {n w samples x y : ℕ} → Inside n w samples x y → RunsInside w samples x y (left_count n x) (top_count n w x y)
runs-inside {n} {w} {samples} {x} {y} p =
    record {
      left = elim (dec_lt 0 x) [
        | yes h ↦ λ a. (h, omega (arith, p.across), rw (lt-ltb 0 x h) p.down)
        | no h ↦ λ a. absurd (omega (arith, rw (le-ltb 0 x (omega arith)) at a))
      ];
      top = elim (dec_lt 0 y) [
        | yes h ↦ λ a. (h, rw (lt-ltb 0 y h) (above-inside p), omega (arith, p.down, mul-le-mul_right {m = y} {n = y + n} w (omega arith)))
        | no h ↦ λ a. absurd (omega (arith, rw (le-ltb 0 y (omega arith)) at a))
      ];
    }

-- ---- the same by places

-- sample j of the left run, and of the top run
left-place : (w x y j : ℕ) → place w (x - 1) y + j * w ≡ place w (x - 1) (y + j)
left-place w x y j = omega (arith, add-mul y j w)

top-place : (w x y j : ℕ) → place w x (y - 1) + j * 1 ≡ place w (x + j) (y - 1)
top-place w x y j = omega arith

module _ {n w samples x y : ℕ} (p : Inside n w samples x y) where
  -- a run has samples only where its first place is that of its first sample
  left-first : 0 < left_count n x → left_first w x y ≡ place w (x - 1) y
  left-first h = rw (lt-ltb 0 x ((runs-inside p).left h).0)

  top-first : 0 < top_count n w x y → top_first w x y ≡ place w x (y - 1)
  top-first h = rw (lt-ltb 0 y ((runs-inside p).top h).0)

  -- what is read stands among the samples
  pub left_in : RunIn samples (left_count n x) (left_first w x y) w (top_count n w x y) (top_first w x y)
  left_in =
      record {
        own = λ j l. rw (left-first (omega arith), left-place w x y j) (left-read (runs-inside p) j (omega arith) l);
        rest = λ h. rw (top-first h) (top-first-read (runs-inside p) h);
      }

  pub top_in : RunIn samples (top_count n w x y) (top_first w x y) 1 (left_count n x) (left_first w x y)
  top_in =
      record {
        own = λ j l. rw (top-first (omega arith), top-place w x y j) (top_read (runs-inside p) j (omega arith) l);
        rest = λ h. rw (left-first h) (left-first-read (runs-inside p) h);
      }

  -- the first samples of the two runs
  first-of : (count first : ℕ) (own : ℕ → Source) → (0 < count → own 0 ≡ sample first) → run count own nowhere 0 ≡ first_of count first
  first-of count first own h =
      elim (dec_lt 0 count) [
        | yes l ↦ let z : min 0 (count - 1) ≡ 0 = omega arith in rw (lt-ltb 0 count l, z) (h l)
        | no l ↦ rw (le-ltb 0 count (omega arith))
      ]

  -- and the runs themselves
  run-same :
      (count : ℕ) (f g : ℕ → Source) (a b : Source) (i : ℕ) → (0 < count → (j : ℕ) → f j ≡ g j) → a ≡ b → run count f a i ≡ run count g b i
  run-same count f g a b i h e =
      elim (dec_lt 0 count) [
        | yes l ↦ rw (lt-ltb 0 count l) (h l (min i (count - 1)))
        | no l ↦ rw (le-ltb 0 count (omega arith)) e
      ]

  pub runs_same :
      (i : ℕ)
      → counted_at n w x y (left_count n x) (top_count n w x y) i
      ≡ runs_at n w (left_count n x) (left_first w x y) (top_count n w x y) (top_first w x y) i
  unfolding counted_left counted_top
  runs_same i = ap₂ (λ (a b : Source). cond (ltb i (2 * n)) a b) left top
    where
      left : counted_left w x y (left_count n x) (top_count n w x y) i ≡ run_at (left_count n x) (left_first w x y) w (top_count n w x y) (top_first w x y) i
      left =
          run-same (left_count n x) (left_own w x y) (λ j. sample (left_first w x y + j * w)) _ _ i
          (λ h j. ap sample (sym (rw (left-first h) (left-place w x y j))))
          (first-of (top_count n w x y) (top_first w x y) (top_own w x y) (λ h. ap sample (omega (arith, top-first h))))

      top : counted_top w x y (left_count n x) (top_count n w x y) (i - 2 * n) ≡ run_at (top_count n w x y) (top_first w x y) 1 (left_count n x) (left_first w x y) (i - 2 * n)
      top =
          run-same (top_count n w x y) (top_own w x y) (λ j. sample (top_first w x y + j * 1)) _ _ (i - 2 * n)
          (λ h j. ap sample (sym (rw (top-first h) (top-place w x y j))))
          (first-of (left_count n x) (left_first w x y) (left_own w x y) (λ h. ap sample (omega (arith, left-first h))))

  -- so the neighbours are those that the places give
  pub counted-places :
      (s : List ℕ)
      → counted n w x y (left_count n x) (top_count n w x y) s
      ≡ list_of (λ i. read_from s (runs_at n w (left_count n x) (left_first w x y) (top_count n w x y) (top_first w x y) i)) (4 * n)
  unfolding counted
  counted-places s = list_of-ext _ _ (4 * n) (λ i l. ap (read_from s) (runs_same i))
