-- `row` meets its contract: the samples are copied to the front of the row.
use Prim.Native.Nat.{◌+◌, ◌*◌, ◌≤◌}
use native.Mathlib.Omega.{arith}
use borrow.Author.Rules.{rules}
use lib.ListN.{length}
use Rattle.sheet.proofs.RowLaws.{row-copied, spot-high}
use Rattle.sheet.proofs.spot.View.row.Goals as goal

pub returns : goal.returns
returns c =
    let S = c.args.self.spot in
    let s = c.args.self.samples.now in
    let at = (S.y + c.args.r) * S.width + S.x in
    let room : at + S.n ≤ length s = search rules in
    row-copied S.n at s _ (omega arith) c.copy_from_slice.ensures.after (spot-high S.sized) room
