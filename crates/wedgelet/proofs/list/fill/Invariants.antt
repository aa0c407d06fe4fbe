-- `fill` meets its contract: after each candidate the front of the slice holds the words of the list so far, the rest its old content, and
-- the entries are chained by their number of marks.
use Prim.Native.Nat.{◌-◌, ◌≤◌}
use Rattle.pattern.specs.Words.{pattern_number, pattern_at}
use Rattle.wedgelet.specs.Wedgelet.{ends, starts}
use Rattle.wedgelet.proofs.Chain.{Passed, past}
use Rattle.wedgelet.proofs.Front.{Grown}
use Rattle.wedgelet.proofs.list.fill.Given as goal

abbrev pub invariant-loop-place : goal.invariant-loop-place
invariant-loop-place l = Passed (pattern_at l.size.n l.list) l.count (pattern_number l.p) (past l.place)

abbrev pub decreases-loop-place : goal.decreases-loop-place
decreases-loop-place l = past l.place

abbrev pub invariant-next : goal.invariant-next
invariant-next l = (l.e ≤ l.last) × Grown l.size.n (ends l.size.n (starts l.size.n l.s) l.s l.e) l.initial.list l.list l.latest l.earlier l.count

abbrev pub decreases-next : goal.decreases-next
decreases-next l = l.last - l.e

abbrev pub invariant-loop-s : goal.invariant-loop-s
invariant-loop-s l = (l.s ≤ l.last) × Grown l.size.n (starts l.size.n l.s) l.initial.list l.list l.latest l.earlier l.count

abbrev pub decreases-loop-s : goal.decreases-loop-s
decreases-loop-s l = l.last - l.s
