-- `is_at` meets its contract: one word is compared, or four.
use Prim.Native.Nat.{ℕ, ◌+◌, ◌-◌, ◌*◌}
use mathlib.Core.Path.{◌≡◌, sym, ap, ap₂, ◌∙◌}
use native.Mathlib.Omega.{arith}
use borrow.Author.Rules.{rules}
use lib.Dec.{eqb}
use lib.ListN.{length, take, drop}
use lib.Pointwise.{pointwise}
use Rattle.pattern.specs.Words.{pattern_number}
use Rattle.pattern.proofs.WordLaws.{number-narrow, at-narrow, at_wide, room-wide}
use Rattle.wedgelet.proofs.EntryLaws.{four_compared}
use Rattle.wedgelet.proofs.entries.is_at.Goals as goal

pub returns-then-size-le8 : goal.returns-then-size-le8
returns-then-size-le8 c =
    let a = c.args in
    let t = c.if-size-le8.true in
    sym (ap₂ eqb (at-narrow a.size.n a.list.now a.entry t) (number-narrow a.size.n _ _ _ _ t (search rules) c.requires.1))

pub returns : goal.returns
returns c =
    let a = c.args in
    let l = a.list.now in
    let at = 4 * a.entry in
    let wide = c.if-size-le8.false in
    let width : at + 4 - at ≡ 4 = omega arith in
    c.eq.ensures
    ∙ ap (λ (m : ℕ). pointwise eqb (take m (drop at l)) a.p.words) width
    ∙ four_compared l a.p.words at (room-wide a.size.n a.entry (length l) wide c.requires.0) (search rules) (λ i. omega (arith, c.type_inv.list i)) (λ i. search rules)
    ∙ ap (λ (x : ℕ). eqb x (pattern_number a.p)) (sym (at_wide a.size.n l a.entry wide))
