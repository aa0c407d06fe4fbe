-- `next_drawing` meets its contract: neighbours and parts are those of the next place.
use Prim.Native.Nat.{ℕ}
use mathlib.Core.Path.{refl, ap}
use Rattle.pattern.specs.Words.{patterns_of}
use Rattle.sheet.specs.Next.{Next}
use Rattle.sheet.proofs.StateLaws.{down-at}
use Rattle.sheet.proofs.DrawLaws.{near-next, near-full, part-next, part-full}
use Rattle.sheet.proofs.Sheet.next_drawing.Goals.{After-next_spot-spot}
use Rattle.sheet.proofs.Sheet.next_drawing.Goals as goal

-- where the next block lies
at : (c : goal.After-next_spot-spot) → let p = c.next_spot-spot.result in Next c.args.self p.n p.width p.x p.y
at c =
    let e = c.next_spot-spot.ensures in
    record { is_open = c.requires.fits.is_open; size = e.size; wide = e.wide; column = e.column; row = e.row }

pub invariant_of-neighbours : goal.invariant_of-neighbours
invariant_of-neighbours c =
    record { down = down-at c.args.self (at (goal.at.invariant_of-neighbours c).After-next_spot-spot) c.requires.fits.lengths.whole }

pub invariant_of-result : goal.invariant_of-result
invariant_of-result c =
    let a = c.args in
    let p = at (goal.at.invariant_of-result c).After-next_spot-spot in
    record {
      here = refl;
      bordered = near-full a.self p a.samples.now c.neighbours.ensures;
      lit = part-full a.self p a.input.place.texture.now c.part-2.ensures;
      valued = c.requires.fits.valued;
    }

pub returns-clause-case : goal.returns-clause-case
returns-clause-case c =
    let a = c.args in
    let p = at (goal.at.returns-clause-case c).After-next_spot-spot in
    let listed = ap (λ (n : ℕ). patterns_of n a.input.place.list.words.now) p.size in
    rw (
      listed,
      p.size,
      near-next a.self p a.samples.now c.neighbours.ensures,
      part-next a.self p a.input.original.now c.part.ensures,
      part-next a.self p a.input.place.texture.now c.part-2.ensures,
    )
