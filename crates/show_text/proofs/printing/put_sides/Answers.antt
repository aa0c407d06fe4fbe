-- `put_sides` meets its contract: three lines one after the other, with room for each.
use native.Mathlib.Omega.{arith}
use Rattle.show_text.specs.Printed.{sides_title}
use Rattle.show_text.proofs.PrintLaws.{title-written, sides-written}
use Rattle.show_text.proofs.printing.put_sides.Goals as goal

pub returns : goal.returns
unfolding sides_title
returns c =
    let d = c.put_title in
    let q = c.put_pair-sides in
    let t = c.put_text-title in
    let a = c.args in
    sides-written a.width a.height c.requires.0 c.requires.1 t.result q.result d.result c.requires.2
    (title-written sides_title a.out.now (omega (arith, c.requires)) t.ensures) q.ensures d.ensures
