-- `clamped_place` meets its contract: the saturating sum, held to the last place.
use Rattle.std.proofs.Common.{arith}
use Rattle.std.proofs.lemmas.Int.{to_z-of_z}
use Rattle.depth_table.proofs.LevelLaws.{place_held}
use Rattle.depth_table.proofs.offset.clamped_place.Goals as goal

pub returns : goal.returns
returns c =
    let a = c.args in
    place_held a.count a.index.0 a.off (omega (arith, c.ranges.count.fits)) (grind (arith, to_z-of_z)) c.saturating_add_signed.ensures c.min.ensures
