-- `predict` meets its contract: a sound table has a value.
use mathlib.Core.Path.{sym, ◌∙◌}
use Rattle.depth_table.proofs.LevelLaws.{table-some}
use Rattle.prediction.proofs.block.predict.Goals as goal

pub predict_where-requires : goal.predict_where-requires
predict_where-requires c = λ e. table-some _ (sym c.is_table-sound.ensures ∙ e)
