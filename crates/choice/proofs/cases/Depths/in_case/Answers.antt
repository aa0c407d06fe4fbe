-- `in_case` meets its contract: the depths of the case's pattern are not refused.
use borrow.Author.Rules.{rules}
use Prim.Native.Nat.{ℕ}
use mathlib.Core.Path.{◌≡◌, ap, ◌∙◌}
use Rattle.arith.specs.Checks.{given}
use Rattle.pattern.specs.Refusal.{told}
use Rattle.prediction.specs.Sides.{lt, br}
use Rattle.prediction.specs.SideAnswer.{both_depths}
use Rattle.choice.specs.Cases.{corner_word}
use Rattle.choice.proofs.CaseLaws.{corner-depths, depth-far, depth-near}
use Rattle.choice.proofs.ToldLaws.{told-ok, told-value}
use Rattle.choice.proofs.cases.Depths.in_case.Goals.{After-side_depths, After-unwrap-depths}
use Rattle.choice.proofs.cases.Depths.in_case.Goals as goal

-- what is told is both depths of the case's pattern
both :
    (c : goal.After-side_depths)
    → let a = c.args in
    let b = a.self.now in
    told both_depths c.side_depths.result ≡ given (lt b.size.n (corner_word b.size.n a.k) b.border.now, br b.size.n (corner_word b.size.n a.k) b.border.now)
both c =
    let b = c.args.self.now in
    corner-depths b.size.n b.border.now c.args.k c.of_word-p.result b.size.allowed b.bordered (search rules)
    (c.of_word-p.ensures ∙ c.first_row.ensures) c.side_depths.ensures

pub unwrap-depths-requires : goal.unwrap-depths-requires
unwrap-depths-requires c = told-ok both_depths c.side_depths.result (both (goal.at.unwrap-depths-requires c).After-side_depths)

value :
    (c : goal.After-unwrap-depths)
    → let a = c.args in
    let b = a.self.now in
    both_depths c.unwrap-depths.result ≡ (lt b.size.n (corner_word b.size.n a.k) b.border.now, br b.size.n (corner_word b.size.n a.k) b.border.now)
value c = told-value both_depths c.side_depths.result (both (goal.at.After-unwrap-depths c).After-side_depths) c.unwrap-depths.ensures

pub returns-then-k-ge4 : goal.returns-then-k-ge4
returns-then-k-ge4 c =
    let a = c.args in
    let b = a.self.now in
    depth-far b.size.n b.border.now a.k c.if-k-ge4.true (ap (λ (p : ℕ × ℕ). p.1) (value (goal.at.returns-then-k-ge4 c).After-unwrap-depths))

pub returns-else-k-ge4 : goal.returns-else-k-ge4
returns-else-k-ge4 c =
    let a = c.args in
    let b = a.self.now in
    depth-near b.size.n b.border.now a.k c.if-k-ge4.false (ap (λ (p : ℕ × ℕ). p.0) (value (goal.at.returns-else-k-ge4 c).After-unwrap-depths))
