-- The four numbers that a record is lent as, each read back by its bits.
use native.Mathlib.Omega.{arith}
use mir.ValLaws.{to_z-of_z}
use Rattle.record.specs.Lent.{fields_of}
use Rattle.record.proofs.lent.ArrayI324FromRecord.from.Goals as goal

pub returns : goal.returns
unfolding fields_of
returns c = grind (arith, to_z-of_z)
