-- What one partition of a pattern costs where all of its samples are predicted as one value.
use Rattle.std.specs.Prelude.{ℕ, Bool, cond, not, List, get_or}
use Rattle.arith.specs.Bits.{test_bit}
use Rattle.arith.specs.Distance.{dist}
use Rattle.arith.specs.Sum.{sum_to}

-- whether sample k belongs to partition m of the pattern w: partition 1 has the marked samples, partition 0 the others
abbrev pub belongs : ℕ → Bool → ℕ → Bool
belongs w m k = cond m (test_bit w k) (not (test_bit w k))

-- what the samples of partition m, of the first c, cost where all of them are predicted as v
unfoldable pub side_cost : ℕ → List ℕ → ℕ → Bool → ℕ → ℕ
side_cost c samples w m v = sum_to (λ k. cond (belongs w m k) (dist v (get_or samples k 0)) 0) c
