-- `put` meets its contract: the parts one after the other, with room for each.
use Rattle.std.proofs.Common.{arith}
use Rattle.record_text.specs.Line.{record_title}
use Rattle.record_print.specs.Put.{Written}
use Rattle.record_print.proofs.PutLaws.{put_written}
use Rattle.arith.specs.Lists.{list_of}
use Rattle.record.specs.Lent.{record_at}
use Rattle.sheet.specs.State.{blocks_of}
use Rattle.record_write.proofs.CallLaws.{placed-number, placed-list}
use Rattle.record_write.proofs.WriteLaws.{room-values, room-title, room-records, file-written}
use Rattle.record_write.proofs.source.Source.put.Goals.{After-put_title-title}
use Rattle.record_write.proofs.source.Source.put.Goals as goal

-- the title's line is written, past those of the values
title :
    (c : After-put_title-title)
    → let v = c.put_values-values in
    let t = c.put_title-title in
    Written v.new.out t.new.out v.result.at record_title t.result.at
title c =
    let W = c.args.self in
    let r = c.requires in
    let v = c.put_values-values in
    put_written {from = v.result} {next = c.put_title-title.result}
    (room-title W.sheet W.table.now (blocks_of W.sheet) r.head_fits r.has_room c.put_head-head.ensures v.ensures.written v.ensures.short)
    c.put_title-title.ensures

pub put_values-values-requires : goal.put_values-values-requires
put_values-values-requires c =
    let W = c.args.self in
    let r = c.requires in
    room-values W.sheet W.table.now (blocks_of W.sheet) r.head_fits r.has_room c.put_head-head.ensures

pub put_records-requires-clause-has_room : goal.put_records-requires-clause-has_room
put_records-requires-clause-has_room c =
    let W = c.args.self in
    let r = c.requires in
    let v = c.put_values-values.ensures in
    let t = title (goal.at.put_records-requires-clause-has_room c).After-put_title-title in
    let room = room-records W.sheet W.table.now (blocks_of W.sheet) r.head_fits r.has_room c.put_head-head.ensures v.written v.short t in
    omega (arith, room, placed-number W.records.now (blocks_of W.sheet) c.placed.ensures r.enough)

pub returns : goal.returns
returns c =
    let W = c.args.self in
    let r = c.requires in
    let v = c.put_values-values.ensures in
    let t = title (goal.at.returns c).After-put_title-title in
    let m = blocks_of W.sheet in
    file-written W.sheet W.table.now m r.head_fits r.has_room c.put_head-head.ensures v.written v.short t (list_of (record_at W.records.now) m)
    (rw (placed-list W.records.now m c.placed.ensures r.enough) at c.put_records.ensures)
