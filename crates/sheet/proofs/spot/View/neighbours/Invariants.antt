-- `neighbours` meets its contract: after i neighbours the first i places hold them.
use Prim.Native.Nat.{ℕ, ◌*◌, ◌<◌}
use mathlib.Core.Path.{◌≡◌}
use lib.ListN.{length, get_or}
use Rattle.sheet.proofs.RowLaws.{near_at}
use Rattle.sheet.proofs.spot.View.neighbours.Given as goal

abbrev pub invariant-loop-i : goal.invariant-loop-i
invariant-loop-i l =
    let S = l.self.spot in
    (length l.near ≡ 4 * S.n) × ((j : ℕ) → j < l.i → get_or l.near j 0 ≡ near_at S.n S.width S.x S.y l.self.samples.now j)
