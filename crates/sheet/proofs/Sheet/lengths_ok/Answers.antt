-- `lengths_ok` meets its contract: the list has as many patterns as its words hold.
use Rattle.std.proofs.lemmas.Grind.{common_steps}
use native.Mathlib.Omega.{arith}
use Rattle.pattern.proofs.WordLaws.{length-patterns}
use Rattle.sheet.specs.Checks.{lengths_ok_by}
use Rattle.sheet.proofs.Sheet.lengths_ok.Goals as goal

pub returns-then-texture_ok : goal.returns-then-texture_ok
unfolding lengths_ok_by
returns-then-texture_ok c = rw length-patterns (grind (arith, common_steps))
