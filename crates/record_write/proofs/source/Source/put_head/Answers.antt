-- `put_head` meets its contract: three lines one after the other, with room for each.
use mathlib.Core.Path.{refl}
use lib.ListN.{length}
use Rattle.record_write.proofs.WriteLaws.{head-written}
use Rattle.record_write.proofs.source.Source.put_head.Goals as goal

pub returns : goal.returns
returns c =
    let S = c.args.self in
    let t = c.put_title-title in
    let z = c.put_size_line-line in
    let d = c.put_title in
    head-written S.sheet (length S.table.now) c.requires.0 (record { at = 0 }) t.result z.result d.result refl c.requires.1 t.ensures z.ensures
    d.ensures
