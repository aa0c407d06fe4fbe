-- `&` of two patterns meets its contract, word by word.
use borrow.Author.Rules.{rules}
use Rattle.pattern.proofs.WordLaws.{common_words}
use Rattle.pattern.proofs.words.PatternBitAnd.bitand.Goals as goal

pub returns : goal.returns
returns c =
    common_words c.from_fn.result c.args.self.words c.args.other.words
    (search rules) (search rules) (search rules) (search rules) (search rules) (search rules) (search rules) (search rules) (search rules) (search rules)
