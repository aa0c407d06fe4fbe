-- `row` meets its contract: the marks run up to the column where one sum catches the other up, or from there on.
use Prim.Native.Nat.{◌≤◌}
use mathlib.Core.Path.{◌∙◌}
use native.Mathlib.Omega.{arith}
use lib.Pow.{pow_mono}
use Rattle.wedgelet.proofs.HalfLaws.{row_of, row-none, row-all, row-past, row-front}
use Rattle.wedgelet.proofs.half.Half.row.Goals as goal

pub returns-then-self : goal.returns-then-self
returns-then-self c =
    row_of c.args.self _ c.args.y c.at_row-low.ensures.0 c.at_row-high.ensures.0 (row-none _ _ _ _ _ c.if-high-low.true c.if-self.true)

pub overflow_sub-result : goal.overflow_sub-result
overflow_sub-result c =
    let within : c.min.result ≤ c.args.size.n = omega arith in
    omega (arith, c.first.ensures, c.first-then-high-low.ensures, pow_mono within)

pub returns-then-high-low : goal.returns-then-high-low
returns-then-high-low c =
    row_of c.args.self _ c.args.y c.at_row-low.ensures.0 c.at_row-high.ensures.0
    (row-past _ _ _ _ _ c.if-high-low.true c.if-self.false c.quotient-from.ensures c.first.ensures c.min.ensures c.first-then-high-low.ensures)

pub returns-then-self-2 : goal.returns-then-self-2
returns-then-self-2 c =
    row_of c.args.self _ c.args.y c.at_row-low.ensures.0 c.at_row-high.ensures.0
    (c.first-then-self-2.ensures ∙ row-all _ _ _ _ _ c.if-high-low.false c.if-self-2.true)

pub returns : goal.returns
returns c =
    row_of c.args.self _ c.args.y c.at_row-low.ensures.0 c.at_row-high.ensures.0
    (row-front _ _ _ _ _ c.if-high-low.false c.if-self-2.false c.quotient-to.ensures c.min-2.ensures c.first-2.ensures)
