-- The cost of a prediction splits by partition.
use Prim.Native.Nat.{ℕ, ◌+◌, ◌*◌}
use mathlib.Core.Path.{◌≡◌, sym, ap, ◌∙◌}
use mathlib.Core.Bool.{Bool, true, false, cond, not}
use native.Mathlib.Omega.{arith}
use lib.IntN.{ℤ}
use lib.ListN.{get_or}
use Rattle.arith.specs.Bits.{test_bit}
use Rattle.arith.specs.Distance.{dist}
use Rattle.arith.proofs.Sums.{sum-ext, sum-add}
use Rattle.arith.proofs.ListLaws.{list_of-at}
use Rattle.prediction.specs.Sides.{side_depth}
use Rattle.depth_table.specs.Offset.{level_of}
use Rattle.prediction.specs.Block.{sample_of, predicted}
use Rattle.choice.specs.Offset.{trial}
use Rattle.choice.specs.Cost.{side_cost}
use Rattle.choice.proofs.OffsetLaws.{offset-trial}
use Rattle.choice.specs.Case.{Case}
use Rattle.choice.specs.Record.{prediction_by, difference}
use Rattle.choice.specs.Search.{trial_cost}

-- one sample: its own partition pays, the other does not
one-sample : (m : Bool) (f : Bool → ℕ) (x : ℕ) → dist (f m) x ≡ cond (not m) (dist (f false) x) 0 + cond m (dist (f true) x) 0
one-sample true f x = omega arith
one-sample false f x = omega arith

-- what partition m costs at an offset
abbrev pub part_cost : Case → ℕ → Bool → ℤ → ℕ
part_cost C w m off = side_cost (C.n * C.n) C.original w m (level_of C.table (side_depth C.n w C.neighbours m) off)

-- the cost of a prediction is that of its partitions, each with its own offset
pub cost-split : (C : Case) (w : ℕ) (a b : ℤ) → difference C (prediction_by C w a b) ≡ part_cost C w false a + part_cost C w true b
unfolding difference predicted sample_of side_cost
cost-split C w a b =
    let m = C.n * C.n in
    let level = sample_of C.n w C.neighbours C.table a b in
    sum-ext _ _ m
    (λ k l.
    ap (λ (x : ℕ). dist x (get_or C.original k 0)) (list_of-at (λ i. level (test_bit w i)) 0 m k l)
    ∙ one-sample (test_bit w k) level (get_or C.original k 0))
    ∙ sum-add _ _ m

-- the same by the numbers of the offsets
pub cost-trials :
    (C : Case) (w : ℕ) (a b : ℤ)
    → difference C (prediction_by C w a b) ≡ trial_cost C w false (trial a) + trial_cost C w true (trial b)
cost-trials C w a b = cost-split C w a b ∙ sym (rw (offset-trial a, offset-trial b))
