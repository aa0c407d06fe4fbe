-- The first least of a function over 0 .. n: as a statement and as a function.
use Rattle.std.specs.Prelude.{ℕ, zero, suc, ◌≤◌, ◌<◌, cond, ltb}

-- r is the first of 0 .. n - 1 at which f is least
pub record First (f : ℕ → ℕ) (n r : ℕ) : Type 0 where
  pub within : r < n
  pub least : (k : ℕ) → k < n → f r ≤ f k
  pub first : (k : ℕ) → k < r → f r < f k

-- the first of 0 .. n at which f is least
unfoldable pub least_to : (ℕ → ℕ) → ℕ → ℕ
least_to f zero = zero
least_to f (suc n) = let r = least_to f n in cond (ltb (f (suc n)) (f r)) (suc n) r
