-- `count` meets its contract: the marks of all words, or of the one word.
use native.Mathlib.Omega.{arith}
use borrow.Author.Rules.{rules}
use mathlib.Core.Path.{sym, ap}
use lib.Count.{ones, ones-le}
use lib.ListN.{length, get_or}
use Rattle.choice.proofs.LayerLaws.{one-word}
use Rattle.pattern.proofs.WordLaws.{first_word}
use Rattle.choice.proofs.parts.Layers.count.Goals as goal

pub returns-else-self-gt64 : goal.returns-else-self-gt64
returns-else-self-gt64 c =
    let p = c.args.p in
    let one = one-word (length c.args.self.now.samples.now) _ c.if-self-gt64.false c.requires in
    (ap ones (sym (first_word (get_or p.words 0 0) (get_or p.words 1 0) (get_or p.words 2 0) (get_or p.words 3 0) (search rules) one)), omega (arith, ones-le 64 (get_or p.words 0 0) (search rules)))
