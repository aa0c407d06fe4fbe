-- `level` meets its contract: a sound table has at most 256 values.
use native.Mathlib.Omega.{arith}
use Rattle.depth_table.proofs.TableLaws.{table-counts}
use Rattle.choice.proofs.offsets.Search.level.Goals as goal

pub number_to-requires : goal.number_to-requires
number_to-requires c =
    let f = c.args.self.now.findable in
    let few = (table-counts _ f.sound).1 in
    (omega (arith, f.inside, few), omega (arith, c.requires, few))
