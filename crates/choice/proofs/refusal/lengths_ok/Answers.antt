-- `lengths_ok` meets its contract: the patterns of the list are the whole ones lent.
use native.Mathlib.Omega.{arith}
use Rattle.std.proofs.lemmas.Bool.Decides.{nat_tests}
use Rattle.pattern.proofs.WordLaws.{length-patterns}
use Rattle.choice.specs.Refusal.{lengths_ok}
use Rattle.choice.proofs.refusal.lengths_ok.Goals.{then-input-n-2, else-input-n-2, then-input-n, else-input-n}
use Rattle.choice.proofs.refusal.lengths_ok.Goals as goal

pub returns-then-texture_ok : goal.returns-then-texture_ok
unfolding lengths_ok
returns-then-texture_ok c =
    let l = length-patterns c.args.input.n c.args.input.list.words.now in
    elim c.if-input-n-2.branch [
      | then-input-n-2 v ↦ elim c.if-input-n.branch [ then-input-n w ↦ grind (arith, nat_tests) | else-input-n w ↦ grind (arith, nat_tests) ]
      | else-input-n-2 v ↦ grind (arith, nat_tests)
    ]

pub returns-else-texture_ok : goal.returns-else-texture_ok
unfolding lengths_ok
returns-else-texture_ok c =
    elim c.if-input-n-2.branch [
      | then-input-n-2 v ↦ elim c.if-input-n.branch [ then-input-n w ↦ grind (arith, nat_tests) | else-input-n w ↦ grind (arith, nat_tests) ]
      | else-input-n-2 v ↦ elim c.if-input-n.branch [ then-input-n w ↦ grind (arith, nat_tests) | else-input-n w ↦ grind (arith, nat_tests) ]
    ]
