-- `cost_at` meets its contract: the sums and the counts give the cost.
use native.Mathlib.Omega.{arith}
use Prim.Native.Nat.{ℕ, ◌<◌, ◌^◌}
use mathlib.Core.Bool.{true}
use mathlib.Core.Path.{◌≡◌, ap, ◌∙◌}
use lib.Bits.{bit_and}
use lib.Count.{ones}
use lib.ListN.{length, get_or}
use Rattle.pattern.specs.Words.{pattern_number}
use Rattle.choice.specs.Cost.{side_cost}
use Rattle.choice.specs.Layers.{layer_at}
use Rattle.choice.specs.Sums.{marked_sum}
use Rattle.choice.proofs.PartLaws.{Sums, cost-sums, low-lt}
use Rattle.choice.proofs.parts.Part.cost_at.Goals.{After-lower-lower, After-sum-lower_sum}
use Rattle.choice.proofs.parts.Part.cost_at.Goals as goal

-- the part's samples below v are samples of the block
lower :
    (c : goal.After-lower-lower) → let p = c.args.self.now in
    pattern_number c.lower-lower.result ≡ bit_and (pattern_number p.marks) (layer_at p.layers.below.now c.args.v)
lower c = let p = c.args.self.now in c.lower-lower.ensures ∙ ap (λ (v : ℕ). bit_and (pattern_number p.marks) (layer_at p.layers.below.now v)) c.from.ensures

inside : (c : goal.After-lower-lower) → pattern_number c.lower-lower.result < 2 ^ length c.args.self.now.layers.samples.now
inside c = rw (lower c) (low-lt _ _ _ _ _ _ c.args.self.now.parted c.args.v (omega (arith, c.ranges.v)))

pub count-count-requires : goal.count-count-requires
count-count-requires c = inside (goal.at.count-count-requires c).After-lower-lower

pub sum-lower_sum-requires : goal.sum-lower_sum-requires
sum-lower_sum-requires c = inside (goal.at.sum-lower_sum-requires c).After-lower-lower

-- the sums at v
facts : (c : goal.After-sum-lower_sum) →
    let p = c.args.self.now in
    let s = p.layers.samples.now in
    Sums c.from-value.result c.count-count.result p.size c.sum-lower_sum.result p.sum (side_cost (length s) s (pattern_number p.marks) true c.args.v)
facts c =
    let s = c.args.self.now.layers.samples.now in
    let e = lower (goal.at.After-sum-lower_sum c).After-lower-lower in
    rw
    (c.from-value.ensures, c.count-count.ensures.0 ∙ ap ones e, c.sum-lower_sum.ensures ∙ ap (λ (w : ℕ). marked_sum (λ k. get_or s k 0) w (length s)) e)
    (cost-sums _ _ _ _ _ _ c.args.self.now.parted c.args.v (omega (arith, c.ranges.v)) c.args.self.now.layers.bytes)

pub overflow_add-result : goal.overflow_add-result
overflow_add-result c = omega (arith, facts (goal.at.overflow_add-result c).After-sum-lower_sum)

pub overflow_mul-result-3 : goal.overflow_mul-result-3
overflow_mul-result-3 c = omega (arith, facts (goal.at.overflow_mul-result-3 c).After-sum-lower_sum)

pub overflow_mul-result-4 : goal.overflow_mul-result-4
overflow_mul-result-4 c = omega (arith, facts (goal.at.overflow_mul-result-4 c).After-sum-lower_sum)

pub overflow_add-result-2 : goal.overflow_add-result-2
overflow_add-result-2 c = omega (arith, facts (goal.at.overflow_add-result-2 c).After-sum-lower_sum)

pub overflow_sub-result : goal.overflow_sub-result
overflow_sub-result c = omega (arith, facts (goal.at.overflow_sub-result c).After-sum-lower_sum)

pub returns : goal.returns
returns c = let s = facts (goal.at.returns c).After-sum-lower_sum in (omega arith, omega arith)
