-- `marks` meets its contract: the ones of a pattern are those of its words, at most 64 each.
use Prim.Native.Nat.{◌≤◌, ◌<◌, ◌^◌}
use mathlib.Core.Path.{◌≡◌, ◌∙◌}
use native.Mathlib.Omega.{arith}
use lib.Count.{ones}
use Rattle.std.specs.List.{sum_by}
use Rattle.std.proofs.Common.{rules}
use Rattle.std.proofs.lemmas.Grind.{common_steps}
use Rattle.pattern.specs.Size.{greatest_samples}
use Rattle.pattern.specs.Words.{four_at}
use Rattle.pattern.proofs.WordLaws.{sum_of_ones, ones_few}
use Rattle.pattern.proofs.words.Pattern.marks.Goals as goal

pub sum-requires-clause-fits : goal.sum-requires-clause-fits
sum-requires-clause-fits c =
    let l = c.args.self.words in
    let e : sum_by ones l ≡ ones (four_at l 0) = sum_of_ones l (search rules) (search rules) (search rules) (search rules) in
    let few : ones (four_at l 0) ≤ greatest_samples = ones_few l (search rules) (search rules) (search rules) (search rules) (search rules) in
    let small : sum_by ones l < 2 ^ 32 = omega (arith, e, few) in
    grind (arith, common_steps)

pub returns : goal.returns
returns c =
    let l = c.args.self.words in
    let e : sum_by ones l ≡ ones (four_at l 0) = sum_of_ones l (search rules) (search rules) (search rules) (search rules) in
    let few : ones (four_at l 0) ≤ greatest_samples = ones_few l (search rules) (search rules) (search rules) (search rules) (search rules) in
    let r : c.sum.result ≡ sum_by ones l = search rules in
    (r ∙ e, omega (arith, r, e, few))
