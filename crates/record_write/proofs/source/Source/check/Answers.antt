-- `check` meets its contract: the records judged are those of the blocks.
use Rattle.record_write.proofs.CallLaws.{records-refused}
use Rattle.record_write.proofs.source.Source.check.Goals as goal

pub returns : goal.returns
returns c = records-refused _ _ _ _ _ _ c.in_ok-check_sheet.ensures c.placed.ensures c.check_records.ensures
