-- `cut_samples` meets its contract: the samples of the block stand in as many places.
use borrow.Author.Rules.{rules}
use Prim.Native.Nat.{◌*◌}
use mathlib.Core.Path.{◌≡◌}
use native.Mathlib.Omega.{arith}
use lib.ListN.{length, take}
use lib.Seq.{length-take-le}
use Rattle.pattern.specs.Size.{greatest_samples}
use Rattle.pattern.proofs.SizeLaws.{square-256}
use Rattle.sheet.proofs.DrawLaws.{whole-ok, cut-whole}
use Rattle.sheet.proofs.RowLaws.{spot-high}
use Rattle.sheet.proofs.spot.View.cut_samples.Goals.{Start}
use Rattle.sheet.proofs.spot.View.cut_samples.Goals as goal

-- the block fits the array
full : (d : goal.Start) → let n = d.args.self.spot.n in length (take (n * n) d.args.own.now) ≡ n * n
full d =
    let n = d.args.self.spot.n in
    let room : length d.args.own.now ≡ greatest_samples = search rules in
    length-take-le (n * n) d.args.own.now (omega (arith, room, square-256 {n = n} (spot-high d.args.self.spot.sized)))

pub unwrap-requires : goal.unwrap-requires
unwrap-requires c =
    let S = c.args.self.spot in
    whole-ok S.n (take (S.n * S.n) c.args.own.now) c.write_block.result S.sized (full (goal.at.unwrap-requires c).Start) c.write_block.ensures.0

pub returns : goal.returns
returns c =
    let S = c.args.self.spot in
    cut-whole S.n S.width S.x S.y c.args.self.samples.now (take (S.n * S.n) c.args.own.now) S.sized c.cut.ensures
    (full (goal.at.returns c).Start) c.write_block.ensures.1
