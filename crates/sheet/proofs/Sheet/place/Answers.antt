-- `place` meets its contract: a sound table has a value.
use mathlib.Core.Path.{sym, ◌∙◌}
use Rattle.depth_table.proofs.LevelLaws.{table-some}
use Rattle.sheet.proofs.Sheet.place.Goals as goal

pub place_where-requires : goal.place_where-requires
place_where-requires c = λ e. table-some _ (sym c.is_table-sound.ensures ∙ e)
