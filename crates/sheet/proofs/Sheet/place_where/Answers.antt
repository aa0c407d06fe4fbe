-- `place_where` meets its contract, exit by exit.
use borrow.Author.Rules.{rules}
use mathlib.Core.Path.{refl}
use native.Mathlib.Omega.{arith}
use Rattle.sheet.specs.Told.{material_in}
use Rattle.sheet.proofs.StateLaws.{placed-few}
use Rattle.sheet.proofs.PlaceLaws.{open-refused, asked-refused, drawing-fits, drawing-refused, drawing-done}
use Rattle.sheet.proofs.Sheet.place_where.Goals as goal

pub returns-in_err-check_open : goal.returns-in_err-check_open
returns-in_err-check_open c =
    let a = c.args in
    let M = material_in a.self.n a.input in
    let q = open-refused a.asked a.self a.samples.now M a.r c.lengths_ok.ensures c.in_err-check_open.field-0.0 c.in_err-check_open.ensures in
    record { answered = search rules; left = q.1 }

pub returns-in_err-check : goal.returns-in_err-check
returns-in_err-check c =
    let a = c.args in
    let M = material_in a.self.n a.input in
    let e = c.in_err-check.ensures in
    let q = asked-refused a.asked a.self a.samples.now M a.r c.lengths_ok.ensures c.in_ok-check_open.ensures e in
    record { answered = search rules; left = q.1 }

pub draw_next-requires : goal.draw_next-requires
draw_next-requires c =
    let a = c.args in
    let M = material_in a.self.n a.input in
    drawing-fits a.asked a.self a.samples.now M a.r c.lengths_ok.ensures c.in_ok-check_open.ensures c.in_ok-check.ensures c.requires

pub returns-in_err-draw_next : goal.returns-in_err-draw_next
returns-in_err-draw_next c =
    let a = c.args in
    let M = material_in a.self.n a.input in
    let drawn = c.draw_next.ensures in
    let q = drawing-refused a.asked a.self a.samples.now M a.r c.lengths_ok.ensures c.in_ok-check_open.ensures c.in_ok-check.ensures
    drawn.left c.in_err-draw_next.field-0.0 c.in_err-draw_next.ensures.number in
    record { answered = search rules; left = q.1 }

pub overflow_add-self : goal.overflow_add-self
overflow_add-self c =
    let a = c.args in
    let M = material_in a.self.n a.input in
    let fit = drawing-fits a.asked a.self a.samples.now M a.r c.lengths_ok.ensures c.in_ok-check_open.ensures c.in_ok-check.ensures
    c.requires in
    omega (arith, placed-few a.self fit.is_open)

pub returns : goal.returns
returns c =
    let a = c.args in
    let M = material_in a.self.n a.input in
    let drawn = c.draw_next.ensures in
    let q = drawing-done a.asked a.self a.samples.now M a.r c.lengths_ok.ensures c.in_ok-check_open.ensures c.in_ok-check.ensures
    drawn.left c.in_ok-draw_next.ensures.number refl in
    record { answered = q.0; left = q.1 }
