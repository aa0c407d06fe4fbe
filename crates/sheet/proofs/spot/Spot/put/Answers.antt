-- `put` meets its contract: after r rows the sheet is that of `after_rows`.
use borrow.Author.Rules.{rules}
use Prim.Native.Nat.{ℕ, ◌<◌}
use mathlib.Core.List.{List, []}
use mathlib.Core.Path.{◌≡◌, ap, ◌∙◌}
use native.Mathlib.Omega.{arith}
use lib.ListN.{length, get_or, take}
use lib.Seq.{length-take-le}
use Rattle.std.proofs.lemmas.List.{get_or-take}
use Rattle.block.specs.Block.{capacity}
use Rattle.sheet_grid.proofs.SampleLaws.{after-all}
use Rattle.sheet.proofs.RowLaws.{put_more, row-room, spot-high}
use Rattle.sheet.proofs.spot.Spot.put.Goals.{Start}
use Rattle.sheet.proofs.spot.Spot.put.Goals as goal

-- the block has n rows
rows : (d : goal.Start) → length (take d.args.self.n d.args.b) ≡ d.args.self.n
rows d =
    let b : length d.args.b ≡ capacity = search rules in
    length-take-le d.args.self.n d.args.b (omega (arith, spot-high {n = d.args.self.n} d.args.self.sized))

pub loop-r-preserved : goal.loop-r-preserved
loop-r-preserved c =
    let a = c.args in
    let i = c.loop-r.invariant in
    let S = a.self in
    let r = c.loop-r.r in
    let more : r < S.n = omega (arith, rows (goal.at.loop-r-preserved c).Start, c.loop-r-test.true) in
    record {
      few = omega arith;
      kept = search rules;
      rows = put_more S.n S.width S.x S.y r a.b a.samples.now c.loop-r.samples _
          S.across more (omega arith) (search rules)
          (λ j h.
          ap (λ (u : List ℕ). get_or u j 0) c.copy_from_slice.ensures.after
          ∙ get_or-take S.n (get_or (take S.n a.b) r []) j 0 h
          ∙ ap (λ (u : List ℕ). get_or u j 0) (get_or-take S.n a.b r [] more))
          (omega (arith, row-room S.n S.width S.x S.y r more S.across c.requires, i.kept)) i.kept i.rows;
    }

pub returns : goal.returns
returns c =
    let a = c.args in
    let i = c.loop-r.invariant in
    let S = a.self in
    after-all S.n S.width S.x S.y a.b a.samples.now c.loop-r.samples i.kept
    (omega (arith, rows (goal.at.returns c).Start, i.few, c.loop-r-test.false)) i.rows
