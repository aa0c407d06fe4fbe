-- `value_at` meets its contract: the value at the clamped place.
use Rattle.std.proofs.Common.{◌≡◌, ◌<◌, sym, ap, ◌∙◌, ltb, w32, arith}
use mathlib.Core.Bool.{true}
use lib.ListN.{length, get_or}
use Rattle.std.proofs.lemmas.Int.{to_z-of_z}
use Rattle.std.proofs.lemmas.Grind.{common_steps}
use Rattle.arith.specs.Checks.{given}
use Rattle.arith.specs.Distance.{clamped}
use Rattle.depth_table.specs.Offset.{offset_ok}
use Rattle.depth_table.proofs.LevelLaws.{clamped-lt, value-given}
use Rattle.depth_table.proofs.offset.value_at.Goals as goal

pub bounds-table-clamped_place : goal.bounds-table-clamped_place
bounds-table-clamped_place c =
    let t = c.args.table.now in
    let some : 0 < length t = grind (arith, common_steps) in
    rw c.clamped_place.ensures (clamped-lt (length t) c.args.index.0 _ some)

pub returns : goal.returns
returns c =
    let a = c.args in
    let t = a.table.now in
    let some : ltb 0 (length t) ≡ true = grind (arith, common_steps) in
    let ok : offset_ok a.off ≡ true = grind (arith, common_steps) in
    let off = to_z-of_z w32 a.off c.ranges.off in
    let place = c.clamped_place.ensures ∙ ap (clamped (length t) a.index.0) off in
    ap given (ap (λ k. get_or t k 0) place) ∙ sym (value-given t a.index.0 a.off some ok)
