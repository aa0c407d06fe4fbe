-- The record that four lent numbers are, each read back by its bits.
use native.Mathlib.Omega.{arith}
use mir.ValLaws.{to_z-of_z}
use Rattle.record.specs.Lent.{record_in}
use Rattle.record.proofs.lent.RecordFromArrayI324.from.Goals as goal

pub returns : goal.returns
unfolding record_in
returns c = grind (arith, to_z-of_z)
