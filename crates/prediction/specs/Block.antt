-- Document 01, "Predicted block".
use Rattle.std.specs.Prelude.{ℕ, ◌*◌, Bool, cond, List, ℤ}
use Rattle.arith.specs.Bits.{test_bit}
use Rattle.arith.specs.Lists.{list_of}
use Rattle.depth_table.specs.Offset.{level_of}
use Rattle.prediction.specs.Sides.{side_depth}

-- the predicted value of the samples whose mark is m: off1 goes to marked samples, off0 to unmarked ones
unfoldable pub sample_of : ℕ → ℕ → List ℕ → List ℕ → ℤ → ℤ → Bool → ℕ
sample_of n w s t off0 off1 m = level_of t (side_depth n w s m) (cond m off1 off0)

-- the predicted block of pattern w, neighbours s and table t: n * n samples, row by row
unfoldable pub predicted : ℕ → ℕ → List ℕ → List ℕ → ℤ → ℤ → List ℕ
predicted n w s t off0 off1 = list_of (λ k. sample_of n w s t off0 off1 (test_bit w k)) (n * n)
