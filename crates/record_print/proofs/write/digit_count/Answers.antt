-- `digit_count` meets its contract: the powers of ten part the numbers by how many digits they have.
use Prim.Native.Nat.{suc}
use mathlib.Core.Path.{sym, ap}
use native.Mathlib.Omega.{arith}
use borrow.Author.Tests.{le-ltb}
use Rattle.record_text.specs.Numeral.{further_digits}
use Rattle.record_text.proofs.NumeralLaws.{further-is, further-none}
use Rattle.record_print.proofs.write.digit_count.Goals as goal

pub returns-then-x-lt10 : goal.returns-then-x-lt10
returns-then-x-lt10 c = ap suc (sym (further-none 4 _ (omega arith)))

pub returns-then-x-lt100 : goal.returns-then-x-lt100
returns-then-x-lt100 c = ap suc (sym (further-is 4 1 _ (omega arith) (omega arith) (omega arith)))

pub returns-then-x-lt1000 : goal.returns-then-x-lt1000
returns-then-x-lt1000 c = ap suc (sym (further-is 4 2 _ (omega arith) (omega arith) (omega arith)))

pub returns-then-x-lt10000 : goal.returns-then-x-lt10000
returns-then-x-lt10000 c = ap suc (sym (further-is 4 3 _ (omega arith) (omega arith) (omega arith)))

-- past the last power the count stays: a numeral has at most five digits
pub returns : goal.returns
unfolding further_digits
returns c = simp (le-ltb _ _ c.if-x-lt10000.false)
