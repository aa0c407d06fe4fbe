-- `put_below` meets its contract: after v values the layers from 0 to v are there.
use native.Mathlib.Omega.{arith}
use borrow.Author.Rules.{rules}
use lib.ListN.{length-set}
use Rattle.choice.proofs.BuildLaws.{below-first, below_more, below-joined}
use Rattle.choice.proofs.layers.put_below.Goals as goal

pub loop-v-init : goal.loop-v-init
loop-v-init c = (search rules, c.equal_layers.ensures, below-first c.args.samples.now c.args.layers.now (search rules))

pub loop-v-preserved : goal.loop-v-preserved
loop-v-preserved c =
    let l = c.loop-v in (
      simp length-set l.invariant.0,
      l.invariant.1,
      below_more c.args.samples.now l.v-counter l.layers c.equal_layers.result _ l.invariant.2 l.invariant.1 (omega arith) (omega arith) (λ i h. search rules),
    )

pub returns : goal.returns
returns c =
    let l = c.loop-v in
    below-joined c.args.samples.now c.requires l.layers (λ v i h. l.invariant.2 v i (omega arith))
