-- `is_rising` meets its contract: each value is below the next exactly where the values rise.
use Rattle.std.proofs.Common.{ltb, rules}
use Rattle.std.proofs.lemmas.Fn.{always_returns_same}
use Rattle.depth_table.proofs.TableLaws.{rising_answered}
use Rattle.depth_table.proofs.is_rising.Goals as goal

pub returns : goal.returns
returns c =
    rising_answered _ _ (c.is_sorted_by.ensures.cases ltb (always_returns_same _ _ _ (λ x r f' k. search rules)))
