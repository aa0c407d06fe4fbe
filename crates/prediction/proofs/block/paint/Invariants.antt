-- `paint` meets its contract. The invariant: the samples before place k have their values, and the word has the marks of those that
-- stand before the next place whose word is read.
use Rattle.std.proofs.Common.{◌≡◌, ℕ, ◌<◌, ◌+◌, ◌%◌, cond, get_or}
use Rattle.arith.specs.Bits.{test_bit}
use Rattle.pattern.specs.Words.{pattern_number}
use Rattle.prediction.proofs.block.paint.Given as goal

abbrev pub invariant-loop-k : goal.invariant-loop-k
invariant-loop-k l =
    ((j : ℕ) → j < l.k → get_or l.block j 0 ≡ cond (test_bit (pattern_number l.p) j) l.v1 l.v0)
    × ((j : ℕ) → 0 < l.k % 64 → l.k % 64 + j < 64 → test_bit l.word j ≡ test_bit (pattern_number l.p) (l.k + j))
