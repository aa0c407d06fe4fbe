-- `read_with` meets its contract: the records are placed on the first samples, and copied once all are read.
use Rattle.std.proofs.Common.{refl, rules, ap, ◌∙◌}
use Rattle.std.proofs.lemmas.Result.{err_from_is_err_and}
use Rattle.record_file.specs.Reading.{aids_in}
use Rattle.sheet.specs.State.{area, blocks_of}
use Rattle.record_read.specs.Back.{lent_of, before_zeros}
use Rattle.record_read.proofs.BackLaws.{begun_line, lends_in, begun, rest-refused, rest-read, all-refused, places-in}
use Rattle.record_read.proofs.reading.read_with.Goals as goal

pub read_blocks-requires : goal.read_blocks-requires
read_blocks-requires g c =
    let a = c.args in
    begun (aids_in a.input) a.front c.requires.sound _
    (lends_in a.input a.front _ c.list_for.ensures.words c.list_for.ensures.count c.as_slice.ensures.value refl)
    (begun_line a.front c.len.result c.len.ensures.value) c.requires.counted
    (places-in 0 c.area-area.result (area a.front.sheet) g.row.SAMPLES c.area-area.ensures c.requires.has_room.samples_inside)
    (places-in _ c.blocks-blocks.result (blocks_of a.front.sheet) g.row.BLOCKS c.blocks-blocks.ensures c.requires.has_room.records_in)

pub returns-in_err-sheet : goal.returns-in_err-sheet
returns-in_err-sheet g c =
    let a = c.args in
    let q = err_from_is_err_and c.from_residual.result c.from_residual.ensures.1 in
    rw (q.1, q.2)
    (all-refused (aids_in a.input) (lent_of a.samples.now a.records.now)
    (rest-refused (aids_in a.input) a.front c.requires.sound _
    (lends_in a.input a.front _ c.list_for.ensures.words c.list_for.ensures.count c.as_slice.ensures.value refl)
    (begun_line a.front c.len.result c.len.ensures.value) c.in_err-sheet.ensures))

pub returns : goal.returns
returns g c =
    let a = c.args in
    let drawn = places-in 0 c.area-area.result (area a.front.sheet) g.row.SAMPLES c.area-area.ensures c.requires.has_room.samples_inside in
    rest-read (aids_in a.input) a.front c.requires.sound _
    (lends_in a.input a.front _ c.list_for.ensures.words c.list_for.ensures.count c.as_slice.ensures.value refl)
    _ _ (lent_of a.samples.now a.records.now) (begun_line a.front c.len.result c.len.ensures.value) c.in_ok-sheet.ensures drawn
    (search rules) (search rules)
    c.area-area.ensures c.blocks-blocks.ensures c.copy_from_slice.ensures.after c.copy_from_slice-2.ensures.after
    c.len-2.ensures.value (c.filled.ensures ∙ ap before_zeros c.as_slice-2.ensures.value)
