-- Transposed neighbours (document 01: the turned border), and the condition under which transposing keeps the side depths.
use Rattle.std.specs.Prelude.{ℕ, ◌-◌, ◌*◌, ◌≡◌, Bool, true, not, ◌||◌, List, ◌++◌, eqb, take, drop}
use Rattle.prediction.specs.Sides.{left_at, top_at, left_change, top_change}

-- the left run is the old top run, T0 first, and the top run the old left run
unfoldable pub transposed_neighbours : ℕ → List ℕ → List ℕ
transposed_neighbours n s = drop (2 * n) s ++ take (2 * n) s

-- the runs differ from end to end by unequal amounts, or end on equal samples
unfoldable pub ends_decide : ℕ → List ℕ → Bool
ends_decide n s = not (eqb (left_change n s) (top_change n s)) || eqb (left_at s (2 * n - 1)) (top_at n s (2 * n - 1))

abbrev pub EndsDecide : ℕ → List ℕ → Type 0
EndsDecide n s = ends_decide n s ≡ true
