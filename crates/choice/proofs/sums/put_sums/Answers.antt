-- `put_sums` meets its contract: after k samples the sums of the first k are there.
use native.Mathlib.Omega.{arith}
use Prim.Native.Nat.{◌<◌}
use Rattle.choice.proofs.SumLaws.{width_is, eight-none, eight-room, eight-small, eight-more}
use Rattle.choice.proofs.sums.put_sums.Goals as goal

pub loop-k-init : goal.loop-k-init
loop-k-init c = (omega arith, rw c.requires.1 (eight-none c.args.samples.now))

pub take_sample-requires : goal.take_sample-requires
take_sample-requires c =
    let l = c.loop-k in
    let small : l.k < 256 = omega (arith, c.requires.0) in
    let s = c.args.samples.now in (
      eight-room s l.k l.sums small l.invariant.1 (width_is l.k),
      eight-small s l.k l.sums small l.invariant.1 (width_is l.k) (λ i. (c.type_inv.samples i).fits),
    )

pub loop-k-preserved : goal.loop-k-preserved
loop-k-preserved c =
    let l = c.loop-k in
    (omega arith, eight-more c.args.samples.now l.k l.sums (omega (arith, c.requires.0)) l.invariant.1 (width_is l.k) _ c.take_sample.ensures)
