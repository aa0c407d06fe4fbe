-- `of_word` meets its contract.
use Rattle.pattern.proofs.WordLaws.{one-word-number}
use Rattle.pattern.proofs.words.Pattern.of_word.Goals as goal

pub returns : goal.returns
returns c = one-word-number c.args.word
