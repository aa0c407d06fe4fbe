-- `put_number` meets its contract: where there is room, the number's text is written from its end, its numeral and the byte after it.
use Rattle.std.specs.Prelude.{◌+◌, ◌≤◌, length}
use mathlib.Core.Path.{sym, ◌∙◌}
use native.Mathlib.Omega.{arith}
use borrow.Author.Tests.{lt-ltb, leb-true}
use Rattle.record_text.specs.Numeral.{numeral_end}
use Rattle.record_text.specs.Field.{number_text}
use Rattle.record_print.proofs.LineSteps.{number_long, number_placed}
use Rattle.record_print.proofs.PutLaws.{put-none, put-printable, put-room}
use Rattle.record_print.proofs.put.put_number.Goals as goal

pub returns-then-not-has_room : goal.returns-then-not-has_room
returns-then-not-has_room c =
    let a = c.args in
    let small = c.if-x-ge-NUMERAL_END.false in
    put-none (number_text a.end a.x) c.field_length-length.result (lt-ltb a.x numeral_end small)
    (number_long a.x small c.from-z.ensures a.end (c.field_length-length.ensures.is a.end))
    (sym c.has_room.ensures ∙ c.if-not-has_room.true)

pub returns : goal.returns
returns c =
    let a = c.args in
    let small = c.if-x-ge-NUMERAL_END.false in
    let n = c.field_length-length.result in
    let is = c.field_length-length.ensures.is a.end in
    let room : a.from.at + n ≤ length a.out.now = leb-true _ _ (sym c.has_room.ensures ∙ c.if-not-has_room.false) in
    let long = number_long a.x small c.from-z.ensures a.end is in
    let w = c.write_field.ensures in
    put-printable (lt-ltb a.x numeral_end small)
    (put-room _ _ (number_text a.end a.x) _ _ (omega (arith, long, room))
    (number_placed a.x small c.from-z.ensures a.end a.from.at n _ _ _ is room w.start w.written w.before))
