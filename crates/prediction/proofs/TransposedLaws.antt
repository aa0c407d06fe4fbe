-- Transposing (document 01: turning) a pattern and its neighbours transposes the predicted block, where the runs differ from end to end
-- by unequal amounts or end on equal samples. For every n.
use Prim.Native.Nat.{ℕ, ◌*◌, ◌<◌}
use mathlib.Core.Path.{◌≡◌, sym, ap, ◌∙◌}
use mathlib.Core.Bool.{Bool, cond}
use mathlib.Core.List.{List}
use lib.IntN.{ℤ}
use lib.ListN.{length}
use Rattle.arith.specs.Bits.{test_bit}
use Rattle.arith.specs.Square.{across, transposed_list}
use Rattle.arith.proofs.ListLaws.{list_of-ext}
use Rattle.arith.proofs.SquareLaws.{positive, across_lt}
use Rattle.pattern.specs.Pattern.{transposed}
use Rattle.pattern.proofs.PatternLaws.{transposed-bit}
use Rattle.prediction.specs.Transposed.{transposed_neighbours, EndsDecide}
use Rattle.prediction.proofs.SideTransposedLaws.{side-depth-transposed}
use Rattle.depth_table.specs.Offset.{level_of}
use Rattle.prediction.specs.Block.{sample_of, predicted}
use Rattle.prediction.proofs.BlockLaws.{predicted-at}

module _ (n w : ℕ) (s : List ℕ) (long : length s ≡ 4 * n) (d : EndsDecide n s) where
  sample-transposed :
      (t : List ℕ) (off0 off1 : ℤ) (m : Bool) → 0 < n
      → sample_of n (transposed n w) (transposed_neighbours n s) t off0 off1 m ≡ sample_of n w s t off0 off1 m
  unfolding sample_of
  sample-transposed t off0 off1 m some = ap (λ (x : ℕ). level_of t x (cond m off1 off0)) (side-depth-transposed n w s long d some m)

  -- the predicted block is the transposed predicted block
  pub prediction-transposed :
      (t : List ℕ) (off0 off1 : ℤ)
      → predicted n (transposed n w) (transposed_neighbours n s) t off0 off1 ≡ transposed_list n (predicted n w s t off0 off1)
  unfolding transposed_list predicted
  prediction-transposed t off0 off1 =
      list_of-ext _ _ (n * n) (λ k h.
      ap (sample_of n (transposed n w) (transposed_neighbours n s) t off0 off1) (transposed-bit n w k h)
      ∙ sample-transposed t off0 off1 (test_bit w (across n k)) (positive n k h)
      ∙ sym (predicted-at n w s t off0 off1 (across n k) (across_lt n k h)))
