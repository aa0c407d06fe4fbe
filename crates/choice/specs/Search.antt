-- Document 01, "Choice", as a function: the cost of a record is what partition 0 costs at off0 and what partition 1 costs at off1, so
-- each offset is chosen for itself, and then the pattern. Document 02, Asks 3 and 4: how many offsets are tried, of those in the reach in
-- use.
use Rattle.std.specs.Prelude.{ℕ, ◌+◌, ◌-◌, ◌*◌, ◌≡◌, Bool, true, false, cond, List, Option, Some, None, ltb, get_or}
use Rattle.arith.specs.Least.{least_to}
use Rattle.arith.specs.Sum.{sum_to}
use Rattle.pattern.specs.Contour.{contour_of}
use Rattle.prediction.specs.Sides.{side_depth}
use Rattle.depth_table.specs.Offset.{level_of}
use Rattle.choice.specs.Offset.{offset}
use Rattle.choice.specs.Cost.{side_cost}
use Rattle.choice.specs.Trial.{trial_over, Tried}
use Rattle.choice.specs.Case.{Case, reach_in_use}
use Rattle.pattern.specs.Answer.{textured}
use Rattle.record.specs.declared.Record.{Record}

-- what partition m costs at the offset with the number t
abbrev pub trial_cost : Case → ℕ → Bool → ℕ → ℕ
trial_cost C w m t =
    side_cost (C.n * C.n) C.original w m (level_of C.table (side_depth C.n w C.neighbours m) (offset t))

-- the number of its offset: the first of least cost, which a trial finds that ends where an offset costs 0
abbrev pub best_trial : Case → ℕ → Bool → ℕ
best_trial C w m = (trial_over (trial_cost C w m) (2 * reach_in_use C)).0

-- how many offsets that trial tries
abbrev pub tried_for : Case → ℕ → Bool → ℕ
tried_for C w m = (trial_over (trial_cost C w m) (2 * reach_in_use C)).1

-- the least cost of a pattern
unfoldable pub best_cost : Case → ℕ → ℕ
best_cost C w = trial_cost C w false (best_trial C w false) + trial_cost C w true (best_trial C w true)

-- how many offsets are tried for both partitions of a pattern
unfoldable pub tried_at : Case → ℕ → ℕ
tried_at C w = tried_for C w false + tried_for C w true

-- the contour of the texture, where texture is lent
abbrev pub contour_lent : ℕ → List ℕ → Option ℕ
contour_lent n texture = cond (textured texture) (Some (contour_of n texture)) None

-- the patterns in order: the entries below the count, and past them the contour, which has the number of the count
abbrev pub pattern_at : Case → ℕ → ℕ
pattern_at C p = cond (ltb p C.count) (get_or C.list p 0) (contour_of C.n C.texture)

abbrev pub last_pattern : Case → ℕ
last_pattern C = cond (textured C.texture) C.count (C.count - 1)

-- the number of the first pattern of least cost
unfoldable pub best_pattern : Case → ℕ
best_pattern C = least_to (λ p. best_cost C (pattern_at C p)) (last_pattern C)

-- the record of the pattern p and of two offsets, by their numbers
abbrev pub record_by : ℕ → ℕ → ℕ → ℕ → Record
record_by count p t0 t1 =
    record { kind = cond (ltb p count) 0 1; entry = cond (ltb p count) p 0; off0 = offset t0; off1 = offset t1 }

-- the record of pattern p with the best offsets
abbrev pub record_at : Case → ℕ → Record
record_at C p = record_by C.count p (best_trial C (pattern_at C p) false) (best_trial C (pattern_at C p) true)

-- the chosen record and its cost
unfoldable pub chosen : Case → Record × ℕ
chosen C = (record_at C (best_pattern C), best_cost C (pattern_at C (best_pattern C)))

-- how many offsets are tried for the first k patterns, and in all
abbrev pub tried_to : Case → ℕ → ℕ
tried_to C k = sum_to (λ p. tried_at C (pattern_at C p)) k

unfoldable pub tried : Case → ℕ
tried C = tried_to C (last_pattern C + 1)

-- the same by places: `places p m` is the one at which the trial of partition m of pattern p ends, and all are added
pub record TriedInAll (C : Case) (count : ℕ) : Type 0 where
  pub places : ℕ → Bool → ℕ
  pub each : (p : ℕ) (m : Bool) → Tried (trial_cost C (pattern_at C p) m) (2 * reach_in_use C) (places p m)
  pub added : count ≡ sum_to (λ p. places p false + places p true) (last_pattern C + 1)
