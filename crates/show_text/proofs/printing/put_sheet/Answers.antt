-- `put_sheet` meets its contract: the sample rows after the lines before them.
use Rattle.show_text.proofs.PrintLaws.{sheet-written}
use Rattle.show_text.proofs.printing.put_sheet.Goals as goal

pub returns : goal.returns
returns c = sheet-written _ _ _ c.put_sides-sides.ensures c.put_rows.ensures
