-- `^` of two patterns meets its contract, word by word.
use borrow.Author.Rules.{rules}
use Rattle.pattern.proofs.WordLaws.{different_words}
use Rattle.pattern.proofs.words.PatternBitXor.bitxor.Goals as goal

pub returns : goal.returns
returns c =
    different_words c.from_fn.result c.args.self.words c.args.other.words
    (search rules) (search rules) (search rules) (search rules) (search rules) (search rules) (search rules) (search rules) (search rules) (search rules)
