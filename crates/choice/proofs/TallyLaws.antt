-- The counts of a partition's samples, and its cost from one depth value to the next: the cost at v + 1 and the number of samples are
-- together the cost at v and twice the samples up to v.
use Prim.Native.Nat.{ℕ, ◌+◌, ◌*◌, ◌≤◌}
use mathlib.Core.Path.{◌≡◌, refl, sym, ap, ◌∙◌}
use mathlib.Core.Bool.{Bool, true, false, cond, ◌&&◌}
use mathlib.Core.List.{List}
use native.Mathlib.Nat.{mul-one}
use native.Mathlib.Omega.{arith}
use lib.Dec.{eqb, ltb}
use lib.ListN.{get_or}
use borrow.Author.Tests.{eqb-true, eqb-false, ltb-true, ltb-false}
use Rattle.arith.specs.Bits.{bit}
use Rattle.arith.specs.Distance.{dist}
use Rattle.arith.specs.Sum.{sum_to}
use Rattle.arith.proofs.Sums.{sum-ext, sum-add, sum-le}
use Rattle.choice.specs.Cost.{belongs, side_cost}
use Rattle.choice.specs.Tally.{side_count, side_size, side_equal, side_below}

bit_le : (b : Bool) → bit b ≤ 1
bit_le true = omega arith
bit_le false = omega arith

-- a count is at most the number of samples
pub count-le : (samples : List ℕ) (w : ℕ) (m : Bool) (c : ℕ) (test : ℕ → Bool) → side_count c samples w m test ≤ c
unfolding side_count
count-le samples w m c test = rw mul-one at (sum-le (λ k. bit (belongs w m k && test (get_or samples k 0))) 1 c (λ k l. bit_le (belongs w m k && test (get_or samples k 0))))

-- ---- from one value to the next

-- one sample: from v to v + 1 it costs one more if it is at most v, and else one less
one-step : (v x : ℕ) (b : Bool) → ltb x (v + 1) ≡ b → dist (v + 1) x + 1 ≡ dist v x + 2 * bit b
one-step v x true e = omega (arith, ltb-true x (v + 1) e)
one-step v x false e = omega (arith, ltb-false x (v + 1) e)

sample-step : (v x : ℕ) (b : Bool) → cond b (dist (v + 1) x) 0 + bit (b && true) ≡ cond b (dist v x) 0 + 2 * bit (b && ltb x (v + 1))
sample-step v x true = one-step v x (ltb x (v + 1)) refl
sample-step v x false = refl

-- below v + 1: below v, or equal to v
pub one_more : (x v : ℕ) (a b c : Bool) → ltb x (v + 1) ≡ a → ltb x v ≡ b → eqb x v ≡ c → bit a ≡ bit b + bit c
one_more x v true true true p q r = absurd (omega (arith, ltb-true x v q, eqb-true x v r))
one_more x v true true false p q r = refl
one_more x v true false true p q r = refl
one_more x v true false false p q r = absurd (omega (arith, ltb-true x (v + 1) p, ltb-false x v q, eqb-false x v r))
one_more x v false true c p q r = absurd (omega (arith, ltb-false x (v + 1) p, ltb-true x v q))
one_more x v false false true p q r = absurd (omega (arith, ltb-false x (v + 1) p, eqb-true x v r))
one_more x v false false false p q r = refl

sample-more : (x v : ℕ) (b : Bool) → bit (b && ltb x (v + 1)) ≡ bit (b && ltb x v) + bit (b && eqb x v)
sample-more x v true = one_more x v (ltb x (v + 1)) (ltb x v) (eqb x v) refl refl refl
sample-more x v false = refl

module _ (c : ℕ) (samples : List ℕ) (w : ℕ) (m : Bool) where
  pub below_step : (v : ℕ) → side_below c samples w m (v + 1) ≡ side_below c samples w m v + side_equal c samples w m v
  unfolding side_count
  below_step v = sum-ext _ _ c (λ k l. sample-more (get_or samples k 0) v (belongs w m k)) ∙ sum-add _ _ c

  twice : (f : ℕ → ℕ) → sum_to (λ k. 2 * f k) c ≡ 2 * sum_to f c
  twice f = sum-ext _ _ c (λ k l. let e : 2 * f k ≡ f k + f k = omega arith in e) ∙ sum-add f f c ∙ omega arith

  pub cost_step : (v : ℕ) → side_cost c samples w m (v + 1) + side_size c samples w m ≡ side_cost c samples w m v + 2 * side_below c samples w m (v + 1)
  unfolding side_cost side_count
  cost_step v =
      sym (sum-add _ _ c)
      ∙ sum-ext _ _ c (λ k l. sample-step v (get_or samples k 0) (belongs w m k))
      ∙ sum-add _ _ c
      ∙ ap (λ (x : ℕ). side_cost c samples w m v + x) (twice (λ k. bit (belongs w m k && ltb (get_or samples k 0) (v + 1))))
