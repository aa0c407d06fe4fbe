-- What document 01 says of the index of a depth, as a statement.
use Rattle.std.specs.Prelude.{ℕ, ◌≤◌, ◌<◌, ◌≡◌, List, length, get_or}
use Rattle.arith.specs.Distance.{dist}

-- the value at k is the nearest to d, and of two equally near it is the greater
pub record Nearest (t : List ℕ) (d k : ℕ) : Type 0 where
  pub within : k < length t
  pub nearest : (j : ℕ) → j < length t → dist d (get_or t k 0) ≤ dist d (get_or t j 0)
  pub greater : (j : ℕ) → j < length t → dist d (get_or t k 0) ≡ dist d (get_or t j 0) → get_or t j 0 ≤ get_or t k 0
