-- `search` meets its contract: the index of a depth is one of the table's, and the reach in use is at most 255.
use native.Mathlib.Omega.{arith}
use Rattle.depth_table.proofs.TableLaws.{table-counts}
use Rattle.depth_table.proofs.IndexLaws.{index_below}
use Rattle.choice.specs.Case.{case_in}
use Rattle.choice.proofs.AcceptLaws.{accepted}
use Rattle.choice.proofs.search.Block.search.Goals as goal

pub invariant_of-result : goal.invariant_of-result
invariant_of-result c =
    let b = c.args.self.now in
    let k = accepted (case_in b.input) b.passes in
    let few = table-counts _ k.sound in
    record {
      findable = record {
        sound = k.sound;
        inside = rw (b.index_at c.args.case c.requires) (index_below _ _ few.0);
        near = omega (arith, b.used, few);
      };
    }
