-- Document 01, "Choice": the records within the reach, what each predicts and costs, and the record of least cost.
use Rattle.std.specs.Prelude.{ℕ, ◌*◌, ◌≤◌, ◌<◌, ◌≡◌, List, ◌⊎◌, ℤ, length, get_or}
use Rattle.arith.specs.Distance.{dist}
use Rattle.arith.specs.Sum.{sum_to}
use Rattle.pattern.specs.Answer.{textured}
use Rattle.pattern.specs.Contour.{contour_of}
use Rattle.record.specs.declared.Record.{Record}
use Rattle.record.specs.Meaning.{kind_meaning, pattern_named}
use Rattle.prediction.specs.Block.{predicted}
use Rattle.choice.specs.Offset.{InReach, Sooner}
use Rattle.choice.specs.Case.{Case, reach_in_use}

-- kind 0 with an entry below the count; kind 1, the contour (document 01: the outline), entry 0, if texture is lent
abbrev pub PatternIn : Case → ℕ → ℕ → Type 0
PatternIn C kind entry = ((kind ≡ 0) × (entry < C.count)) ⊎ ((kind ≡ 1) × (entry ≡ 0) × (0 < length C.texture))

-- the records within the reach R, tried or not
pub record WithinReach (R : ℕ) (C : Case) (r : Record) : Type 0 where
  pub pattern_in : PatternIn C r.kind r.entry
  pub off0_in : InReach R r.off0
  pub off1_in : InReach R r.off1

-- those within the reach in use
abbrev pub Within : Case → Record → Type 0
Within C r = WithinReach (reach_in_use C) C r

-- a record's pattern: the one that its kind and entry name, an entry of the list or the contour of the texture
abbrev pub pattern_by : Case → ℕ → ℕ → ℕ
pattern_by C kind entry =
    pattern_named (contour_of C.n C.texture) (kind_meaning C.n C.list C.count (textured C.texture) kind entry).1

abbrev pub pattern_of : Case → Record → ℕ
pattern_of C r = pattern_by C r.kind r.entry

-- the predicted block of a pattern and two offsets
abbrev pub prediction_by : Case → ℕ → ℤ → ℤ → List ℕ
prediction_by C w off0 off1 = predicted C.n w C.neighbours C.table off0 off1

abbrev pub prediction_of : Case → Record → List ℕ
prediction_of C r = prediction_by C (pattern_of C r) r.off0 r.off1

-- the sum of absolute differences between a prediction and the original
unfoldable pub difference : Case → List ℕ → ℕ
difference C p = sum_to (λ k. dist (get_or p k 0) (get_or C.original k 0)) (C.n * C.n)

-- the cost of a record
abbrev pub cost_of : Case → Record → ℕ
cost_of C r = difference C (prediction_of C r)

-- the order between equals: wedgelets in list order, then the contour; then off0, then off1, each in the order of offsets
abbrev pub Before : Record → Record → Type 0
Before r s =
    (r.kind < s.kind)
    ⊎ ((r.kind ≡ s.kind)
    × ((r.entry < s.entry)
    ⊎ ((r.entry ≡ s.entry) × (Sooner r.off0 s.off0 ⊎ ((r.off0 ≡ s.off0) × Sooner r.off1 s.off1)))))

-- the record is the first of least cost within the reach R, and the cost is its own: no record within R costs less, and each one before it
-- costs more
pub record LeastWithin (R : ℕ) (C : Case) (r : Record) (cost : ℕ) : Type 0 where
  pub within : WithinReach R C r
  pub its_cost : cost ≡ cost_of C r
  pub least : (s : Record) → WithinReach R C s → cost ≤ cost_of C s
  pub first : (s : Record) → WithinReach R C s → Before s r → cost < cost_of C s

-- the record is the chosen one: that within the reach in use
abbrev pub LeastRecord : Case → Record → ℕ → Type 0
LeastRecord C r cost = LeastWithin (reach_in_use C) C r cost

-- exactly one record is the chosen one, at one cost
pub record OneLeast (C : Case) : Type 0 where
  pub chosen : Record
  pub cost : ℕ
  pub is_least : LeastRecord C chosen cost
  pub only : (r : Record) (c : ℕ) → LeastRecord C r c → (r ≡ chosen) × (c ≡ cost)
