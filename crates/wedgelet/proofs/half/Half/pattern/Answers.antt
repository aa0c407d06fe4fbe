-- `pattern` meets its contract: all rows in one word, or four rows to a word.
use borrow.Author.Rules.{rules}
use Rattle.arith.specs.Bits.{bits}
use Rattle.wedgelet.proofs.HalfLaws.{half-wide}
use Rattle.wedgelet.proofs.half.Half.pattern.Goals as goal

pub returns : goal.returns
unfolding bits
returns c =
    half-wide c.args.self c.args.size.n (c.args.size.wide c.if-size-le8.false) (search rules) (search rules) (search rules) (search rules)
