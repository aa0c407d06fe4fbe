-- `neighbours` meets its contract: the runs are those of the block, and after i neighbours the first i places hold them.
use borrow.Author.Rules.{rules}
use Prim.Native.Nat.{◌*◌, ◌≤◌}
use mathlib.Core.Path.{◌≡◌, ◌∙◌}
use native.Mathlib.Omega.{arith}
use lib.ListN.{length, length-set}
use Rattle.pattern.specs.Size.{greatest_neighbours}
use Rattle.arith.proofs.ListLaws.{stored, stored-all}
use Rattle.sheet_grid.proofs.CountLaws.{counted-places}
use Rattle.sheet.proofs.RowLaws.{near_at, neighbour-near, spot-high, spot-inside}
use Rattle.sheet.proofs.spot.View.neighbours.Goals.{Start}
use Rattle.sheet.proofs.spot.View.neighbours.Goals as goal

-- it has no more neighbours than the array has places
few : (d : goal.Start) → 4 * d.args.self.spot.n ≤ length d.args.near.now
few d =
    let room : length d.args.near.now ≡ greatest_neighbours = search rules in
    omega (arith, room, spot-high {n = d.args.self.spot.n} d.args.self.spot.sized)

pub loop-i-preserved : goal.loop-i-preserved
loop-i-preserved c =
    let V = c.args.self in
    let S = V.spot in
    let i = c.loop-i.invariant in
    let read =
    c.neighbour.ensures
    ∙ neighbour-near S.n S.width S.x S.y V.samples.now _ _ c.loop-i.i c.left_run-left.ensures c.top_run-top.ensures
    in (
      length-set _ _ _ ∙ i.0,
      stored (near_at S.n S.width S.x S.y V.samples.now) 0 c.loop-i.near c.loop-i.i _ (omega (arith, c.loop-i-test.true, i.0)) read i.1,
    )

pub returns : goal.returns
returns c =
    let V = c.args.self in
    let S = V.spot in
    let i = c.loop-i.invariant in
    rw (counted-places (spot-inside S.sized S.across V.down) V.samples.now)
    (stored-all (near_at S.n S.width S.x S.y V.samples.now) 0 _ (4 * S.n) i.0 (λ k h. i.1 k (omega (arith, c.loop-i-test.false, i.0))))
