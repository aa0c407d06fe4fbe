-- `compose_next` meets its contract: the choice is made for the next place.
use Rattle.sheet.specs.Told.{task_in}
use Rattle.sheet.proofs.StateLaws.{down-at}
use Rattle.sheet.proofs.ComposeLaws.{choose-next}
use Rattle.sheet.proofs.Sheet.compose_next.Goals as goal

pub choose-requires : goal.choose-requires
choose-requires c = down-at c.args.self c.next_drawing.ensures.place c.requires.fits.lengths.whole

pub returns : goal.returns
returns c =
    let a = c.args in
    let q =
    choose-next a.self (task_in a.self.n a.input) a.samples.now c.next_drawing.ensures.place c.requires.whole c.next_drawing.ensures.case
    c.choose.ensures.answered c.choose.ensures.left
    in
    record { answered = q.0; left = q.1 }
