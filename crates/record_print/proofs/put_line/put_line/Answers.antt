-- `put_line` meets its contract: where there is room, the line is written from its last field to its first.
use Rattle.std.specs.Prelude.{◌+◌, ◌-◌, ◌<◌, ◌≤◌, length}
use mathlib.Core.Path.{◌≡◌, sym, ◌∙◌}
use native.Mathlib.Omega.{arith}
use borrow.Author.Tests.{leb-true}
use Rattle.record_text.specs.Line.{line_text}
use Rattle.record_print.proofs.LineSteps.{ended-before, ended-room, ended-more, ended-all}
use Rattle.record_print.proofs.PutLaws.{put-printable, put-room}
use Rattle.record_print.proofs.put_line.put_line.Goals as goal

pub write_field-at-requires : goal.write_field-at-requires
write_field-at-requires c =
    let a = c.args in
    let i = c.loop-i.i in
    let printable = sym c.all_printable.ensures ∙ c.if-not-all_printable.false in
    let here : i - 1 < 4 = omega (arith, c.loop-i.auto.i, c.loop-i-test.true) in
    let before = ended-before i c.loop-i-test.true c.loop-i.invariant in
    let end = a.from.at + c.line_length-length.result in
    let room : end ≤ length a.out.now = leb-true _ _ (sym c.has_room.ensures ∙ c.if-not-has_room.false) in
    let enough : length (line_text a.numbers) ≤ end = omega (arith, c.line_length-length.ensures) in
    ended-room a.out.now end a.numbers c.requires printable (i - 1) c.end_byte.result _ _ before here c.end_byte.ensures enough room

pub loop-i-preserved : goal.loop-i-preserved
loop-i-preserved c =
    let a = c.args in
    let i = c.loop-i.i in
    let printable = sym c.all_printable.ensures ∙ c.if-not-all_printable.false in
    let here : i - 1 < 4 = omega (arith, c.loop-i.auto.i, c.loop-i-test.true) in
    let before = ended-before i c.loop-i-test.true c.loop-i.invariant in
    let end = a.from.at + c.line_length-length.result in
    let w = c.write_field-at.ensures in
    ended-more a.out.now end a.numbers c.requires printable (i - 1) c.end_byte.result _ _ before here c.end_byte.ensures _ _
    c.write_field-at.auto.out w.start w.written w.before

pub returns : goal.returns
returns c =
    let a = c.args in
    let printable = sym c.all_printable.ensures ∙ c.if-not-all_printable.false in
    let end = a.from.at + c.line_length-length.result in
    let room : end ≤ length a.out.now = leb-true _ _ (sym c.has_room.ensures ∙ c.if-not-has_room.false) in
    let place : a.from.at + length (line_text a.numbers) ≡ end = omega (arith, c.line_length-length.ensures) in
    put-printable printable
    (put-room _ _ _ _ _ (omega (arith, place, room)) (ended-all a.out.now a.from.at end a.numbers c.loop-i.i _ _ c.loop-i-test.false place room c.loop-i.invariant))
