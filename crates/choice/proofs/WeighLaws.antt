-- What follows for a pattern that is weighed: the index of each partition's depth, and its best offset from that of its
-- samples as a pattern.
use Prim.Native.Nat.{ℕ, ◌*◌, ◌^◌, ◌≤◌, ◌<◌}
use mathlib.Core.Path.{◌≡◌, sym, ap, subst, ◌∙◌}
use mathlib.Core.Bool.{Bool, true, cond}
use mathlib.Core.List.{List}
use native.Mathlib.Omega.{arith}
use lib.Bits.{bit_xor}
use lib.ListN.{length, get_or}
use Rattle.arith.specs.Distance.{clamped}
use Rattle.depth_table.specs.Table.{index_of}
use Rattle.depth_table.specs.declared.DepthIndex.{DepthIndex}
use Rattle.depth_table.proofs.TableLaws.{table-counts}
use Rattle.prediction.specs.Sides.{side_depth}
use Rattle.prediction.proofs.SideCallLaws.{sides-accepted}
use Rattle.depth_table.specs.Offset.{level_of}
use Rattle.choice.specs.Offset.{offset}
use Rattle.choice.specs.Case.{reach_in_use}
use Rattle.choice.specs.Cost.{side_cost}
use Rattle.choice.specs.Layers.{layer_at, below_word}
use Rattle.choice.specs.Trial.{TrialOf}
use Rattle.choice.specs.Turn.{offset_cost}
use Rattle.choice.proofs.FindLaws.{part-cost}
use Rattle.choice.proofs.TrialLaws.{trial-of-same}
use Rattle.choice.specs.Cases.{side_case, depth_in}
use Rattle.choice.specs.Search.{trial_cost}
use Rattle.choice.specs.Picked.{block_case, Weighable, index_at, Prepared}
use Rattle.choice.proofs.OffsetLaws.{reach-same}
use Rattle.choice.proofs.CaseLaws.{depth-case}

module _ (n w : ℕ) (s o t : List ℕ) (R : ℕ) (h : Weighable n w s o t R) where
  -- the reach is at most 255, and in use
  pub reach_few : R ≤ 255
  reach_few = omega (arith, h.near, table-counts t h.sound)

  pub reach-used : R ≡ reach_in_use (block_case n s o t R)
  reach-used = reach-same R (length t) h.near

  module _ (below sums : List (List ℕ)) (indices : List DepthIndex) (q : Prepared n s o t below sums indices) (bytes : (k : ℕ) → get_or o k 0 < 256) where
    -- the word marks samples of the block only
    pub word_small : w < 2 ^ length o
    word_small = rw h.square (sides-accepted n w s h.sides).inside

    module _ (m : Bool) {j part : ℕ} (ej : j ≡ side_case n w m) (hj : j < 8) (ep : part ≡ cond m w (bit_xor (layer_at below 256) w)) where
      abbrev i : ℕ
      i = index_at indices j

      index_is : i ≡ index_of t (side_depth n w s m)
      index_is = q.index_at j hj ∙ ap (λ (x : ℕ). index_of t (depth_in n s x)) ej ∙ ap (index_of t) (sym (depth-case n w s m (sides-accepted n w s h.sides).size))

      part-is : part ≡ cond m w (bit_xor (below_word (length o) o 256) w)
      part-is = ep ∙ ap (λ (x : ℕ). cond m w (bit_xor x w)) (q.layers.below_at 256 (omega arith))

      -- the cost of the part at the offset is the cost of the partition
      cost-there : (k : ℕ) → offset_cost o part true t i k ≡ trial_cost (block_case n s o t R) w m k
      unfolding level_of
      cost-there k =
          ap (λ (p : ℕ). side_cost (length o) o p true (get_or t (clamped (length t) i (offset k)) 0)) part-is
          ∙ part-cost (length o) o w word_small bytes m (get_or t (clamped (length t) i (offset k)) 0)
          ∙ ap (λ (c : ℕ). side_cost c o w m (get_or t (clamped (length t) i (offset k)) 0)) h.square
          ∙ ap (λ (x : ℕ). side_cost (n * n) o w m (get_or t (clamped (length t) x (offset k)) 0)) index_is

      pub trial-weighed :
          {number cost : ℕ} → TrialOf (offset_cost o part true t i) (2 * R) number cost
          → TrialOf (trial_cost (block_case n s o t R) w m) (2 * reach_in_use (block_case n s o t R)) number cost
      trial-weighed {number} {cost} p =
          subst (λ (x : ℕ). TrialOf (trial_cost (block_case n s o t R) w m) (2 * x) number cost) reach-used (trial-of-same cost-there p)
