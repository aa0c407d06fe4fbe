-- `cut` meets its contract: after r rows the first r are filled.
use Prim.Native.Nat.{◌≤◌}
use mathlib.Core.Path.{◌≡◌}
use lib.ListN.{replicate}
use Rattle.arith.specs.Lists.{upto}
use Rattle.block.specs.Block.{capacity}
use Rattle.sheet.proofs.RowLaws.{cut_row}
use Rattle.sheet.proofs.spot.View.cut.Given as goal

abbrev pub invariant-loop-r : goal.invariant-loop-r
invariant-loop-r l =
    let S = l.self.spot in
    (l.r ≤ S.n) × (l.row-items ≡ upto S.n l.r (cut_row S.n S.width S.x S.y l.self.samples.now) (replicate capacity 0))
