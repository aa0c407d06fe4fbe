-- `word_below` meets its contract: the shift leaves nothing just where no bit stands from k up.
use mathlib.Core.Path.{sym, ◌∙◌}
use native.Mathlib.Nat.{lt_of_lt_of_le}
use borrow.Author.Rules.{rules}
use borrow.Author.Tests.{le-leb, lt-ltb}
use lib.Pow.{pow_mono}
use Rattle.pattern.proofs.SizeLaws.{shifted_none}
use Rattle.pattern.proofs.words.word_below.Goals as goal

pub returns-then-k-ge64 : goal.returns-then-k-ge64
returns-then-k-ge64 c =
    le-leb 64 c.args.k c.if-k-ge64.true
    ∙ sym (lt-ltb _ _ (lt_of_lt_of_le (search rules) (pow_mono {i = 64} c.if-k-ge64.true)))

pub returns-else-k-ge64 : goal.returns-else-k-ge64
returns-else-k-ge64 c = shifted_none c.args.word c.args.k
