-- `pattern_at` meets its contract: the words of the entry, where they are lent.
use Prim.Native.Nat.{◌<◌}
use mathlib.Core.Path.{sym, ◌∙◌}
use lib.ListN.{length}
use Rattle.pattern.specs.Words.{whole_patterns}
use Rattle.pattern.proofs.WordLaws.{at-narrow, at_wide, patterns-at, patterns-past}
use Rattle.pattern.proofs.words.PatternList.pattern_at.Goals.{Else-whole_patterns-entry}
use Rattle.pattern.proofs.words.PatternList.pattern_at.Goals as goal

pub returns-then-whole_patterns-entry : goal.returns-then-whole_patterns-entry
returns-then-whole_patterns-entry c =
    let a = c.args in
    c.of_word.ensures ∙ sym (patterns-past a.n a.self.words.now a.entry (rw (← c.whole_patterns.ensures) c.if-whole_patterns-entry.true))

-- the entry is a whole pattern
inside : (c : goal.Else-whole_patterns-entry) → let a = c.args in a.entry < whole_patterns a.n (length a.self.words.now)
inside c = rw (← c.whole_patterns.ensures) c.if-whole_patterns-entry.false

pub returns-then-n-le8 : goal.returns-then-n-le8
returns-then-n-le8 c =
    let a = c.args in
    c.of_word-then-n-le8.ensures
    ∙ sym
    (patterns-at a.n a.self.words.now a.entry (inside (goal.at.returns-then-n-le8 c).Else-whole_patterns-entry)
    ∙ at-narrow a.n a.self.words.now a.entry c.if-n-le8.true)

pub returns : goal.returns
returns c =
    let a = c.args in
    c.four_at.ensures
    ∙ sym
    (patterns-at a.n a.self.words.now a.entry (inside (goal.at.returns c).Else-whole_patterns-entry)
    ∙ at_wide a.n a.self.words.now a.entry c.if-n-le8.false)
