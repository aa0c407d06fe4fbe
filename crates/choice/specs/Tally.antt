-- The counts of a partition's samples.
use Rattle.std.specs.Prelude.{ℕ, Bool, true, ◌&&◌, List, eqb, ltb, get_or}
use Rattle.arith.specs.Bits.{bit}
use Rattle.arith.specs.Sum.{sum_to}
use Rattle.choice.specs.Cost.{belongs}

-- how many samples of partition m, of the first c, pass a test
unfoldable pub side_count : ℕ → List ℕ → ℕ → Bool → (ℕ → Bool) → ℕ
side_count c samples w m test = sum_to (λ k. bit (belongs w m k && test (get_or samples k 0))) c

-- all of them; those with the value v; those below v
abbrev pub side_size : ℕ → List ℕ → ℕ → Bool → ℕ
side_size c samples w m = side_count c samples w m (λ x. true)

abbrev pub side_equal : ℕ → List ℕ → ℕ → Bool → ℕ → ℕ
side_equal c samples w m v = side_count c samples w m (λ x. eqb x v)

abbrev pub side_below : ℕ → List ℕ → ℕ → Bool → ℕ → ℕ
side_below c samples w m v = side_count c samples w m (λ x. ltb x v)
