-- `predicted_block` meets its contract: prediction refuses nothing.
use borrow.Author.Rules.{rules}
use Prim.Native.Nat.{ℕ, ◌*◌}
use mathlib.Core.Bool.{true}
use borrow.Author.Tests.{ltb-true}
use mathlib.Core.List.{List}
use mathlib.Core.Path.{◌≡◌, sym, ap, ◌∙◌}
use mir.Syntax.{w32}
use mir.Val.{of_z, to_z}
use mir.ValLaws.{to_z-of_z}
use lib.IntN.{ℤ}
use lib.ListN.{length, replicate, take}
use lib.Seq.{length-take-le}
use Rattle.pattern.specs.Size.{greatest_samples, size_ok}
use Rattle.pattern.specs.Words.{pattern_number, used_number}
use Rattle.pattern.proofs.WordLaws.{used-is}
use Rattle.pattern.proofs.SizeLaws.{square-256, size-bounds}
use Rattle.prediction.specs.Answer.{predict_values_block}
use Rattle.prediction.specs.Block.{predicted}
use Rattle.sheet.specs.Place.{Drawable}
use Rattle.prediction.proofs.BlockLaws.{length-predicted}
use Rattle.sheet.proofs.DrawLaws.{drawable-whole, drawable-as, drawable-ok, drawable-block, whole-ok}
use Rattle.sheet.proofs.spot.Drawing.predicted_block.Goals.{Start}
use Rattle.sheet.proofs.spot.Drawing.predicted_block.Goals as goal

sized : (d : goal.Start) → size_ok d.args.self.case.n ≡ true
sized d = rw d.args.self.here d.args.self.spot.sized

-- the array that prediction fills has a place for each sample
full : (d : goal.Start) → let n = d.args.self.case.n in length {A = ℕ} (take (n * n) (replicate greatest_samples 0)) ≡ n * n
full d = let n = d.args.self.case.n in length-take-le _ _ (square-256 {n = n} (size-bounds n (sized d)).1)

-- the words that the size uses are the whole pattern
used : (d : goal.Start) → used_number d.args.self.case.n d.args.pattern ≡ pattern_number d.args.pattern
used d = used-is d.args.self.case.n d.args.pattern (search rules) (ltb-true _ _ d.requires.inside)

-- the offsets as prediction is lent them
abbrev off0 : goal.Start → ℤ
off0 d = to_z w32 (of_z w32 d.args.r.off0)

abbrev off1 : goal.Start → ℤ
off1 d = to_z w32 (of_z w32 d.args.r.off1)

same0 : (d : goal.Start) → off0 d ≡ d.args.r.off0
same0 d = to_z-of_z w32 d.args.r.off0 (search rules)

same1 : (d : goal.Start) → off1 d ≡ d.args.r.off1
same1 d = to_z-of_z w32 d.args.r.off1 (search rules)

able : (d : goal.Start) → let a = d.args.self.case in Drawable a.n (pattern_number d.args.pattern) a.table.now (off0 d) (off1 d)
able d = drawable-as (sym (same0 d)) (sym (same1 d)) d.requires

-- the samples are the predicted ones
filled :
    (d : goal.Start) {new : List ℕ}
    → let a = d.args.self.case in let n = a.n in
    new
    ≡ predict_values_block n (used_number n d.args.pattern) a.border.now a.table.now (off0 d) (off1 d) (take (n * n) (replicate greatest_samples 0))
    → new ≡ predicted n (pattern_number d.args.pattern) a.border.now a.table.now (off0 d) (off1 d)
filled d e =
    let a = d.args.self.case in
    drawable-whole a.n (pattern_number d.args.pattern) a.border.now a.table.now (off0 d) (off1 d) (sized d) d.args.self.bordered (able d)
    (take (a.n * a.n) (replicate greatest_samples 0)) (full d) (used d) e

pub unwrap-requires : goal.unwrap-requires
unwrap-requires c =
    let d = (goal.at.unwrap-requires c).Start in
    let a = c.args.self.case in
    drawable-ok a.n (pattern_number c.args.pattern) a.border.now a.table.now (off0 d) (off1 d) (sized d) c.args.self.bordered (able d)
    c.predict_from_values.result (full d) (used d) c.predict_from_values.ensures.answered

pub unwrap-requires-2 : goal.unwrap-requires-2
unwrap-requires-2 c =
    let d = (goal.at.unwrap-requires-2 c).Start in
    let a = c.args.self.case in
    whole-ok a.n _ c.block_of.result (sized d)
    (ap length (filled d c.predict_from_values.ensures.written)
    ∙ length-predicted a.n (pattern_number c.args.pattern) a.border.now a.table.now (off0 d) (off1 d))
    c.block_of.ensures.0

pub returns : goal.returns
returns c =
    let d = (goal.at.returns c).Start in
    let a = c.args.self.case in
    rw (sym (same0 d), sym (same1 d))
    (drawable-block a.n (pattern_number c.args.pattern) a.border.now a.table.now (off0 d) (off1 d) (sized d) c.args.self.bordered (able d)
    _ _ (filled d c.predict_from_values.ensures.written) c.block_of.ensures.1)
