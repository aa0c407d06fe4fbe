-- `parts` meets its contract: the marked samples and the others have together as many samples, and the sum, that the block has.
use native.Mathlib.Omega.{arith}
use Rattle.choice.proofs.FindLaws.{size-le, sum_inside, marked_part, others_part}
use Rattle.choice.proofs.parts.Layers.parts.Goals as goal

pub overflow_sub-unmarked : goal.overflow_sub-unmarked
overflow_sub-unmarked c =
    let L = c.args.self.now in
    size-le _ _ _ L.layered L.bytes _ c.requires c.count-size.ensures.0 c.sum-sum.ensures

pub overflow_sub-unmarked-2 : goal.overflow_sub-unmarked-2
overflow_sub-unmarked-2 c =
    let L = c.args.self.now in
    omega (arith, L.whole, sum_inside _ _ _ L.layered L.bytes _ c.requires c.count-size.ensures.0 c.sum-sum.ensures)

pub invariant_of-unmarked : goal.invariant_of-unmarked
invariant_of-unmarked c =
    let L = c.args.self.now in
    record { parted = others_part _ _ _ L.layered L.bytes _ c.requires c.count-size.ensures.0 c.sum-sum.ensures c.others.ensures L.whole }

pub invariant_of-marked : goal.invariant_of-marked
invariant_of-marked c =
    let L = c.args.self.now in
    record { parted = marked_part _ _ _ L.layered L.bytes _ c.requires c.count-size.ensures.0 c.sum-sum.ensures }
