-- `put_text` meets its contract: where there is room, the text is copied to its place.
use mathlib.Core.Path.{sym, ◌∙◌}
use borrow.Author.Tests.{leb-true}
use Rattle.record_print.proofs.WriteSteps.{written_copied}
use Rattle.record_print.proofs.PutLaws.{put-room}
use Rattle.record_print.proofs.put.put_text.Goals as goal

pub returns : goal.returns
returns c =
    let room = leb-true _ _ (sym c.has_room.ensures ∙ c.if-not-has_room.false) in
    put-room _ _ _ _ _ room (written_copied _ _ _ _ c.copy_from_slice.ensures.after room)
