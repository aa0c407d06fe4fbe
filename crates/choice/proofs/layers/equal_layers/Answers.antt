-- `equal_layers` meets its contract: after k samples the layers hold the first k.
use native.Mathlib.Omega.{arith}
use mathlib.Core.Path.{refl}
use Rattle.choice.proofs.BuildLaws.{equal-none, wide-none, equal-room, wide-more, equal-more}
use Rattle.choice.proofs.layers.equal_layers.Goals as goal

pub loop-k-init : goal.loop-k-init
loop-k-init c = (omega arith, equal-none c.args.samples.now, wide-none c.args.samples.now)

pub overflow_add-layers : goal.overflow_add-layers
overflow_add-layers c =
    let a = c.args in
    let l = c.loop-k in
    let byte = (c.type_inv.samples l.k).fits in
    record { fits = equal-room a.samples.now l.k l.layers (omega arith) l.invariant.1 c.from.result (omega arith) }

pub loop-k-preserved : goal.loop-k-preserved
loop-k-preserved c =
    let s = c.args.samples.now in
    let l = c.loop-k in
    let byte = (c.type_inv.samples l.k).fits in (
      omega arith,
      equal-more s l.k l.layers (omega arith) l.invariant.1 c.from.result (omega arith) _ c.from.ensures refl l.invariant.2,
      wide-more s l.k l.layers (omega arith) l.invariant.1 c.from.result (omega arith) l.invariant.2 _ _,
    )
