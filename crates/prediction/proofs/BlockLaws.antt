-- Laws of the predicted block: its length, its range, and the form in which the code writes it.
use Prim.Native.Nat.{ℕ, ◌*◌, ◌<◌}
use mathlib.Core.Path.{◌≡◌, sym, ap, ap₂, ◌∙◌}
use mathlib.Core.Bool.{Bool, true, false, cond}
use mathlib.Core.List.{List}
use native.Mathlib.Omega.{arith}
use lib.IntN.{ℤ}
use lib.ListN.{length, get_or}
use Rattle.arith.specs.Bits.{test_bit}
use Rattle.arith.specs.Lists.{list_of}
use Rattle.arith.proofs.ListLaws.{length-list_of, list_of-at, list_of-below, list_of-ext}
use Rattle.prediction.specs.Sides.{differ, lt, br, side_depth}
use Rattle.depth_table.specs.Table.{table_ok}
use Rattle.depth_table.specs.Offset.{level_of}
use Rattle.depth_table.proofs.LevelLaws.{level-byte}
use Rattle.prediction.specs.Block.{sample_of, predicted}
use Rattle.prediction.proofs.SideLaws.{side-depth-bits}

module _ (n w : ℕ) (s t : List ℕ) (off0 off1 : ℤ) where
  pub length-predicted : length (predicted n w s t off0 off1) ≡ n * n
  unfolding predicted
  length-predicted = length-list_of _ (n * n)

  pub predicted-at : (k : ℕ) → k < n * n → get_or (predicted n w s t off0 off1) k 0 ≡ sample_of n w s t off0 off1 (test_bit w k)
  unfolding predicted
  predicted-at k h = list_of-at _ 0 (n * n) k h

  -- every sample is a value of the table, and so a byte where the table is sound
  pub predicted-bytes : table_ok t ≡ true → (i : ℕ) → get_or (predicted n w s t off0 off1) i 0 < 256
  unfolding predicted sample_of
  predicted-bytes ok =
      list_of-below _ 256 (n * n) (omega arith) (λ k. level-byte t (side_depth n w s (test_bit w k)) (cond (test_bit w k) off1 off0) ok)

  -- v0 and v1 are the values of unmarked and marked samples
  module _ {v0 v1 : ℕ} (e0 : v0 ≡ sample_of n w s t off0 off1 false) (e1 : v1 ≡ sample_of n w s t off0 off1 true) where
    sample-is : (m : Bool) → cond m v1 v0 ≡ sample_of n w s t off0 off1 m
    sample-is true = e1
    sample-is false = e0

    pub painted-is : {samples : ℕ} → samples ≡ n * n → list_of (λ k. cond (test_bit w k) v1 v0) samples ≡ predicted n w s t off0 off1
    unfolding predicted
    painted-is e = rw e (list_of-ext _ _ (n * n) (λ k _. sample-is (test_bit w k)))

  -- the value of the samples with the mark m, by the level that their depth d and offset z give; o is the mark of (0,0)
  pub value-is :
      (m : Bool) {v d : ℕ} {z : ℤ} {o : Bool} → v ≡ level_of t d z → d ≡ cond (differ m o) (br n w s) (lt n w s) → o ≡ test_bit w 0
      → z ≡ cond m off1 off0 → v ≡ sample_of n w s t off0 off1 m
  unfolding sample_of
  value-is m e p q f =
      e ∙ ap₂ (level_of t) (p ∙ ap (λ (b : Bool). cond (differ m b) (br n w s) (lt n w s)) q ∙ sym (side-depth-bits n w s m)) f
