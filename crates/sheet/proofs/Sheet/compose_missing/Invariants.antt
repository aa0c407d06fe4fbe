-- `compose_missing` meets its contract: the loop keeps `Going`.
use Prim.Native.Nat.{◌-◌}
use mathlib.Core.List.{◌++◌}
use mathlib.Core.Path.{◌≡◌}
use lib.ListN.{length, drop}
use Rattle.sheet.specs.Told.{task_in}
use Rattle.sheet.proofs.TurnLaws.{Going}
use Rattle.sheet.proofs.Sheet.compose_missing.Given as goal

abbrev pub invariant-loop-record : goal.invariant-loop-record
invariant-loop-record l =
    let S = l.initial.self in
    record {
      whole : length l.samples ≡ length l.initial.samples;
      going : Going S (task_in S.n l.input) l.initial.samples l.fn.records l.record-index l.self l.samples
          (l.record-items ++ drop (l.last - l.first) l.fn.records);
      room : length l.record-items ≡ l.last - l.first;
    }
