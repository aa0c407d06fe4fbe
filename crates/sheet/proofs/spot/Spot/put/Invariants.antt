-- `put` meets its contract: after r rows the sheet is that of `after_rows`.
use Prim.Native.Nat.{ℕ, ◌≤◌, ◌<◌}
use mathlib.Core.Path.{◌≡◌}
use lib.ListN.{length, get_or}
use Rattle.sheet_grid.proofs.SampleLaws.{after_rows}
use Rattle.sheet.proofs.spot.Spot.put.Given as goal

abbrev pub invariant-loop-r : goal.invariant-loop-r
invariant-loop-r l =
    let s = l.initial.samples in
    record {
      few : l.r ≤ l.self.n;
      kept : length l.samples ≡ length s;
      rows : (j : ℕ) → j < length s → get_or l.samples j 0 ≡ after_rows l.self.n l.self.width l.self.x l.self.y l.fn.b s l.r j;
    }
