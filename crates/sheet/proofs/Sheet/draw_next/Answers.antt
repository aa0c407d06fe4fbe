-- `draw_next` meets its contract: the record is drawn for the next place.
use Rattle.sheet.specs.Told.{material_in}
use Rattle.sheet.proofs.StateLaws.{down-at}
use Rattle.sheet.proofs.DrawLaws.{draw-next}
use Rattle.sheet.proofs.Sheet.draw_next.Goals as goal

pub draw-requires : goal.draw-requires
draw-requires c = down-at c.args.self c.next_drawing.ensures.place c.requires.lengths.whole

pub returns : goal.returns
returns c =
    let a = c.args in
    let q =
    draw-next a.self c.next_drawing.ensures.place (material_in a.self.n a.input) a.samples.now a.r c.next_drawing.ensures.case
    c.draw.ensures.number c.draw.ensures.left
    in
    record { number = q.0; left = q.1 }
