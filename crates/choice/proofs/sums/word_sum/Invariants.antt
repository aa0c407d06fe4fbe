-- `word_sum` meets its contract: after k bytes the sum is theirs.
use Prim.Native.Nat.{◌-◌, ◌*◌, ◌≤◌}
use mathlib.Core.Path.{◌≡◌}
use Rattle.choice.specs.Sums.{bytes_sum}
use Rattle.choice.proofs.sums.word_sum.Given as goal

abbrev pub invariant-loop-k : goal.invariant-loop-k
invariant-loop-k l = (l.k ≤ 8) × (l.sum ≡ bytes_sum l.sums l.i l.w l.k) × (l.sum ≤ 65535 * l.k)

abbrev pub decreases-loop-k : goal.decreases-loop-k
decreases-loop-k l = 8 - l.k
