-- Of the neighbours of a block of a sheet the first ones of each run are present, as many as `left_count` and `top_count` say, so that its
-- neighbours are those of the counts.
use Prim.Native.Nat.{ℕ, suc, ◌+◌, ◌-◌, ◌*◌, ◌/◌, ◌%◌, ◌≤◌, ◌<◌}
use mathlib.Core.List.{List}
use mathlib.Core.Path.{◌≡◌, refl, sym, ap, ◌∙◌}
use native.Mathlib.Nat.{suc-mul, div-lt_iff_lt-mul, le-div_iff_mul-le, mod-lt}
use native.Mathlib.Decide.{dec_lt, dec_le}
use native.Mathlib.Omega.{arith}
use borrow.Author.Tests.{lt-ltb, le-ltb, le-leb, lt-leb}
use lib.Dec.{ltb}
use Rattle.arith.specs.Square.{place}
use Rattle.arith.proofs.Bools.{both_of}
use Rattle.sheet_grid.specs.Grid.{block_x, block_y}
use Rattle.sheet_grid.proofs.GridLaws.{per_pos}
use Rattle.sheet_grid.specs.Neighbours.{left_present, top_present, placed_before, neighbours}
use Rattle.sheet_grid.specs.Counts.{Counted, left_count, above_count, top_count, counted}
use Rattle.sheet_grid.proofs.HoldingLaws.{in_block, in-next, at_first, before-first, factor-pos}
use Rattle.sheet_grid.proofs.CountLaws.{above-some}
use Rattle.sheet_grid.proofs.WalkLaws.{walked-by-counts}

-- the block in column a and row b of the sheet's blocks
module _ (n w a b : ℕ) (some : 1 ≤ n) (column : a < w / n) where
  -- whether a sample of the sheet is present, by the column and the row of the block that holds it
  before : (c r u v : ℕ) → c / n ≡ u → r / n ≡ v → u < w / n → placed_before n w (a * n) (b * n) c r ≡ ltb (place (w / n) u v) (place (w / n) a b)
  before c r u v eu ev h = rw (eu, ev, at_first n a some, at_first n b some, lt-ltb u (w / n) h)

  -- where there is a block to the left, its n samples are present, and none below them
  left-counted : (i : ℕ) → i < 2 * n → left_present (placed_before n w (a * n) (b * n)) (a * n) (b * n) i ≡ ltb i (left_count n (a * n))
  left-counted i h =
      elim (dec_lt 0 (a * n)) [
        | no v ↦ rw (le-ltb 0 (a * n) (omega arith)) (sym (le-ltb i 0 (omega arith)))
        | yes v ↦
            let c = before-first n a some (factor-pos a n v) in
            rw (lt-ltb 0 (a * n) v)
            (elim (dec_lt i n) [
              | yes l ↦
                  before (a * n - 1) (b * n + i) (a - 1) b c (in_block n b i l) (omega arith)
                  ∙ lt-ltb (place (w / n) (a - 1) b) (place (w / n) a b) (omega (arith, factor-pos a n v))
                  ∙ sym (lt-ltb i n l)
              | no l ↦
                  before (a * n - 1) (b * n + i) (a - 1) (suc b) c (in-next n b i (omega arith) h) (omega arith)
                  ∙ le-ltb (place (w / n) (a - 1) (suc b)) (place (w / n) a b) (omega (arith, suc-mul b (w / n)))
                  ∙ sym (le-ltb i n (omega arith))
            ])
      ]

  -- in the row above, every sample of the sheet is present
  above-all : (c : ℕ) → 0 < b * n → placed_before n w (a * n) (b * n) c (b * n - 1) ≡ ltb (c / n) (w / n)
  above-all c v =
      let p = factor-pos b n v in
      let e : suc (b - 1) ≡ b = omega arith in
      elim (dec_lt (c / n) (w / n)) [
        | no l ↦ rw (le-ltb (c / n) (w / n) (omega arith))
        | yes l ↦
            before c (b * n - 1) (c / n) (b - 1) refl (before-first n b some p) l
            ∙ lt-ltb (place (w / n) (c / n) (b - 1)) (place (w / n) a b) (omega (arith, suc-mul (b - 1) (w / n), ap (λ (r : ℕ). r * (w / n)) e))
            ∙ sym (lt-ltb (c / n) (w / n) l)
      ]

  -- the upper right is in the sheet, or beyond its edge
  above-counted : (i : ℕ) → i < 2 * n → ltb ((a * n + i) / n) (w / n) ≡ ltb i (above_count n w (a * n))
  above-counted i h =
      elim (dec_lt i n) [
        | yes l ↦ rw (in_block n a i l) (lt-ltb a (w / n) column ∙ sym (lt-ltb i (above_count n w (a * n)) (omega (arith, above-some n w (a * n) some))))
        | no l ↦
            rw (in-next n a i (omega arith) h)
            (elim (dec_le (a * n + 2 * n) w) [
              | yes f ↦
                  let d : suc (suc a) ≤ w / n = (le-div_iff_mul-le some).1 (omega (arith, suc-mul (suc a) n, suc-mul a n)) in
                  rw (le-leb (a * n + 2 * n) w f) (lt-ltb (suc a) (w / n) (omega arith) ∙ sym (lt-ltb i (2 * n) h))
              | no f ↦
                  let d : w / n < suc (suc a) = (div-lt_iff_lt-mul some).1 (omega (arith, suc-mul (suc a) n, suc-mul a n)) in
                  rw (lt-leb (a * n + 2 * n) w (omega arith)) (le-ltb (suc a) (w / n) (omega arith) ∙ sym (le-ltb i n (omega arith)))
            ])
      ]

  -- where there is a row above, its samples are present up to the sheet's edge
  top-counted : (i : ℕ) → i < 2 * n → top_present (placed_before n w (a * n) (b * n)) (a * n) (b * n) i ≡ ltb i (top_count n w (a * n) (b * n))
  top-counted i h =
      elim (dec_lt 0 (b * n)) [
        | no v ↦ rw (le-ltb 0 (b * n) (omega arith)) (sym (le-ltb i 0 (omega arith)))
        | yes v ↦ rw (lt-ltb 0 (b * n) v) (above-all (a * n + i) v ∙ above-counted i h)
      ]

  -- what is placed before the block has the two counts
  pub placed-counted : Counted n (placed_before n w (a * n) (b * n)) (a * n) (b * n) (left_count n (a * n)) (top_count n w (a * n) (b * n))
  placed-counted =
      record {
        left = left-counted;
        top = top-counted;
        corner = λ h.
            let p = both_of (ltb 0 (a * n)) _ h in
            let q = both_of (ltb 0 (b * n)) _ p.1 in
            (rw p.0 some, rw q.0 (omega (arith, above-some n w (a * n) some)));
      }

-- the neighbours of every block of a sheet are those of the two counts
pub neighbours-counted :
    (n w k : ℕ) (s : List ℕ) → 1 ≤ n → n ≤ w
    → neighbours n w k s ≡ counted n w (block_x n w k) (block_y n w k) (left_count n (block_x n w k)) (top_count n w (block_x n w k) (block_y n w k)) s
neighbours-counted n w k s some wide =
    let x = block_x n w k in
    let y = block_y n w k in
    walked-by-counts n w (placed_before n w x y) x y (left_count n x) (top_count n w x y)
    (placed-counted n w (k % (w / n)) (k / (w / n)) some (mod-lt k (per_pos n w some wide)))
    s
