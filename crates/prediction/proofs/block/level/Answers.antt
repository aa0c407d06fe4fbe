-- `level` meets its contract: the index of the depth, and the value there.
use Rattle.std.proofs.Common.{arith}
use Rattle.std.proofs.lemmas.Grind.{common_steps}
use mir.ValLaws.{to_z-of_z}
use Rattle.depth_table.specs.Answer.{nearest_answer, value_answer}
use Rattle.depth_table.specs.Offset.{level_of}
use Rattle.prediction.proofs.block.level.Goals as goal

pub returns : goal.returns
unfolding nearest_answer value_answer level_of
returns c = grind (arith, common_steps, to_z-of_z)
