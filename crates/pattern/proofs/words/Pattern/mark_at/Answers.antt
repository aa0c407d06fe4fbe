-- `mark_at` meets its contract: each bit of a pattern stands in one of its words.
use Prim.Native.Nat.{◌/◌, ◌%◌}
use mathlib.Core.Path.{◌≡◌, sym, ap, ◌∙◌}
use native.Mathlib.Omega.{arith}
use borrow.Author.Rules.{rules}
use lib.ListN.{get_or}
use Rattle.arith.specs.Bits.{test_bit}
use Rattle.pattern.proofs.WordLaws.{four_bit, four_past}
use Rattle.pattern.proofs.words.Pattern.mark_at.Goals as goal

pub returns-then-k-lt-WORDS : goal.returns-then-k-lt-WORDS
returns-then-k-lt-WORDS c =
    let w = c.args.self.now.words in
    let k = c.args.k in
    let e : k / 64 % 4 ≡ k / 64 = omega (arith, c.if-k-lt-WORDS.true) in
    ap (λ i. test_bit (get_or w i 0) (k % 64)) e
    ∙ sym (four_bit w k (search rules) (search rules) (search rules) c.if-k-lt-WORDS.true)

pub returns-else-k-lt-WORDS : goal.returns-else-k-lt-WORDS
returns-else-k-lt-WORDS c =
    four_past c.args.self.now.words c.args.k (search rules) (search rules) (search rules) (search rules) c.if-k-lt-WORDS.false
