-- `index` meets its contract: a sound table has a value.
use mathlib.Core.Path.{◌∙◌}
use Rattle.depth_table.specs.Answer.{place}
use Rattle.depth_table.proofs.LevelLaws.{table-some, nearest-given}
use Rattle.choice.proofs.ToldLaws.{told-ok, told-value}
use Rattle.choice.proofs.cases.Depths.index.Goals as goal

pub unwrap-requires : goal.unwrap-requires
unwrap-requires c =
    told-ok place c.nearest_index.result (c.nearest_index.ensures ∙ nearest-given c.args.self.now.table.now c.args.d.0 (table-some _ c.args.self.now.sound))

pub returns : goal.returns
returns c =
    told-value place c.nearest_index.result
    (c.nearest_index.ensures ∙ nearest-given c.args.self.now.table.now c.args.d.0 (table-some _ c.args.self.now.sound)) c.unwrap.ensures
