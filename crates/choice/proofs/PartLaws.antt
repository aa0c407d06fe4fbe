-- What a part costs at a value, from its sum and from the count and the sum of its samples below the value.
use Prim.Native.Nat.{ℕ, zero, suc, ◌+◌, ◌*◌, ◌^◌, ◌≤◌, ◌<◌}
use mathlib.Core.Path.{◌≡◌, refl, ap, ◌∙◌}
use mathlib.Core.Bool.{Bool, true, false, cond, ◌&&◌}
use mathlib.Core.List.{List}
use native.Mathlib.Nat.{mul-add, mul-zero, lt_of_le_of_lt, mul-le-mul}
use native.Mathlib.Omega.{arith}
use lib.Bits.{bit_and, and_le_l}
use lib.Count.{ones}
use lib.Dec.{ltb}
use lib.ListN.{length, get_or}
use borrow.Author.Tests.{ltb-true, ltb-false}
use Rattle.arith.specs.Bits.{bit, test_bit}
use Rattle.arith.specs.Distance.{dist}
use Rattle.arith.specs.Sum.{sum_to}
use Rattle.choice.specs.Cost.{side_cost}
use Rattle.choice.specs.Tally.{side_count, side_size, side_below}
use Rattle.choice.specs.Layers.{below_word, layer_at, Fits, Parted}
use Rattle.choice.specs.Sums.{marked_sum}
use Rattle.choice.proofs.LayerLaws.{common-bit, below-count}
use Rattle.choice.proofs.TallyLaws.{count-le}
use Rattle.choice.proofs.CostLaws.{side_cost-le}
use Rattle.choice.proofs.SumLaws.{marked-le}

-- ---- the cost from sums, sample by sample

five-sums :
    (v : ℕ) (A B C D E : ℕ → ℕ) (c : ℕ) → ((k : ℕ) → k < c → A k + (2 * B k + v * C k) ≡ E k + 2 * (v * D k))
    → sum_to A c + (2 * sum_to B c + v * sum_to C c) ≡ sum_to E c + 2 * (v * sum_to D c)
unfolding sum_to
five-sums v A B C D E zero h = omega (arith, mul-zero v)
five-sums v A B C D E (suc c) h =
    omega (arith, five-sums v A B C D E c (λ k l. h k (omega arith)), h c (omega arith), mul-add v (sum_to C c) (C c), mul-add v (sum_to D c) (D c))

-- one sample below v or not
cost-part : (v x : ℕ) (l : Bool) → ltb x v ≡ l → dist v x + (2 * cond l x 0 + v * 1) ≡ x + 2 * (v * bit l)
cost-part v x true h = omega (arith, ltb-true x v h)
cost-part v x false h = omega (arith, ltb-false x v h, mul-zero v)

cost-sample :
    (v x : ℕ) (b t : Bool) → t ≡ (b && ltb x v)
    → cond b (dist v x) 0 + (2 * cond t x 0 + v * bit (b && true)) ≡ cond b x 0 + 2 * (v * bit (b && ltb x v))
cost-sample v x true t e = rw e (cost-part v x (ltb x v) refl)
cost-sample v x false t e = rw e (omega (arith, mul-zero v))

-- the cost at v of a part, by its size and sum and by the count and sum of its samples below v; all are small
pub record Sums (v count size lower sum cost : ℕ) : Type 0 where
  pub balance : cost + (2 * lower + v * size) ≡ sum + 2 * (v * count)
  pub count_small : v * count ≤ 65280
  pub size_small : v * size ≤ 65280
  pub lower_small : lower ≤ 65280
  pub sum_small : sum ≤ 65280
  pub cost_small : cost ≤ 65280

module _ (samples : List ℕ) (below sums : List (List ℕ)) (word size sum : ℕ) (q : Parted samples below sums word size sum) (v : ℕ) (hv : v < 256) where
  abbrev c : ℕ
  c = length samples

  abbrev s : ℕ → ℕ
  s k = get_or samples k 0

  -- the part's samples below v
  abbrev low : ℕ
  low = bit_and word (layer_at below v)

  low-is : low ≡ bit_and word (below_word c samples v)
  low-is = ap (bit_and word) (q.layers.below_at v (omega arith))

  pub low-lt : low < 2 ^ c
  low-lt = lt_of_le_of_lt (and_le_l word (layer_at below v)) q.small

  pub low_fits : (wide : Bool) → Fits wide word → Fits wide low
  low_fits wide h = lt_of_le_of_lt (and_le_l word (layer_at below v)) h

  low_count : ones low ≡ side_below c samples word true v
  low_count = ap ones low-is ∙ below-count c samples word q.small v

  cost-by-sums :
      side_cost c samples word true v + (2 * marked_sum s (bit_and word (below_word c samples v)) c + v * side_size c samples word true)
      ≡ marked_sum s word c + 2 * (v * side_below c samples word true v)
  unfolding side_cost side_count marked_sum
  cost-by-sums =
      five-sums v _ _ _ _ _ c (λ k l. cost-sample v (s k) (test_bit word k) _ (common-bit c word (λ i. ltb (get_or samples i 0) v) q.small k l))

  -- the sums and counts at v, and the cost that follows from them
  pub cost-sums : ((k : ℕ) → get_or samples k 0 < 256) → Sums v (ones low) size (marked_sum s low c) sum (side_cost c samples word true v)
  cost-sums bytes =
      let few = q.layers.few in
      let byte : (k : ℕ) → s k ≤ 255 = λ k. let b = bytes k in omega (arith, b) in
      record {
        balance = rw (low_count, low-is, q.its_size, q.its_sum) cost-by-sums;
        count_small = omega (arith, mul-le-mul {n₁ = v} {m₁ = ones low} {n₂ = 255} {m₂ = 256} (omega arith) (omega (arith, low_count, count-le samples word true c (λ x. ltb x v))));
        size_small = omega (arith, mul-le-mul {n₁ = v} {m₁ = size} {n₂ = 255} {m₂ = 256} (omega arith) (omega (arith, q.its_size, count-le samples word true c (λ x. true))));
        lower_small = omega (arith, marked-le s low 255 c byte);
        sum_small = omega (arith, q.its_sum, marked-le s word 255 c byte);
        cost_small = omega (arith, side_cost-le c samples word true v hv bytes);
      }
