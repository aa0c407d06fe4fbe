-- Document 02, Ask 4: only offsets that would pass are tried, and the reach in use is enough.
use Rattle.std.specs.Prelude.{ℕ, ◌≡◌, length}
use Rattle.arith.specs.Checks.{Hold}
use Rattle.depth_table.specs.Offset.{offset_checks}
use Rattle.record.specs.declared.Record.{Record}
use Rattle.choice.specs.Case.{Case}
use Rattle.choice.specs.Record.{Within, LeastWithin, LeastRecord}
use Rattle.choice.specs.Refusal.{choose_refusal}
use Rattle.choice.specs.Search.{chosen}

-- the least cost, and the first record at that cost, are the same within the reach in use and within the reach as given
pub record ReachEnough (C : Case) : Type 0 where
  -- in a case that is not refused the offsets of every record within the reach in use pass their checks, 4 and 24
  pub passes : choose_refusal C ≡ 0 → (r : Record) → Within C r → Hold (offset_checks (length C.table) r.off0 r.off1)
  -- the first record of least cost within the reach in use is the first of least cost within the reach as given, at the same cost
  pub enough : (r : Record) (cost : ℕ) → LeastRecord C r cost → LeastWithin C.reach C r cost
  -- and no other record is
  pub only : (r : Record) (cost : ℕ) → LeastWithin C.reach C r cost → LeastRecord C r cost
  -- so what is chosen in a case that is not refused is the first of least cost within the reach as given
  pub answered : choose_refusal C ≡ 0 → LeastWithin C.reach C (chosen C).0 (chosen C).1
