-- The four words of a pattern's number are those of the pattern.
use mathlib.Core.Path.{sym, ap}
use Rattle.pattern.proofs.WordLaws.{four-own}
use Rattle.depth_bench.specs.Structs.{words_struct}
use borrow.Author.Rules.{rules}
use Rattle.depth_bench.proofs.PatternFromPatternPattern.from.Goals as goal

pub returns : goal.returns
returns c = ap words_struct (sym (four-own c.args.p.words (search rules) (λ i. search rules)))
