-- The trial of a partition's offsets, and its best offset.
use Rattle.std.specs.Prelude.{ℕ, zero, suc, ◌+◌, ◌≤◌, ◌<◌, ◌≡◌, cond, ◌⊎◌, eqb, ltb}
use Rattle.arith.specs.Least.{least_to}

-- Document 02, Ask 3: offsets are tried in the order between equals, f t being what the one with the number t costs. The trial keeps the
-- first of least cost so far, and ends where that is 0; `tried` is how many it has tried, and so the number of the next, and `left` how
-- many are still to come.
unfoldable pub trial_from : (ℕ → ℕ) → ℕ → ℕ → ℕ → ℕ × ℕ
trial_from f best tried zero = (best, tried)
trial_from f best tried (suc left) =
    cond (eqb (f best) 0) (best, tried) (trial_from f (cond (ltb (f tried) (f best)) tried best) (suc tried) left)

-- the trial of the numbers 0 .. N: the number of the best one, and how many were tried
abbrev pub trial_over : (ℕ → ℕ) → ℕ → ℕ × ℕ
trial_over f N = trial_from f 0 1 N

-- how many are tried, as a place: the first offset that costs 0 has the number `last`, and places count from 1
pub record EndsSooner (f : ℕ → ℕ) (N tried : ℕ) : Type 0 where
  pub last : ℕ
  pub place : tried ≡ last + 1
  pub inside : last ≤ N
  pub free : f last ≡ 0
  pub none_before : (t : ℕ) → t < last → 0 < f t

-- or all of them, where none costs 0
pub record EndsLast (f : ℕ → ℕ) (N tried : ℕ) : Type 0 where
  pub place : tried ≡ N + 1
  pub none : (t : ℕ) → t ≤ N → 0 < f t

-- so many of the numbers 0 .. N are tried
abbrev pub Tried : (ℕ → ℕ) → ℕ → ℕ → Type 0
Tried f N tried = EndsSooner f N tried ⊎ EndsLast f N tried

-- the same from the first number of least cost
abbrev pub tried_by : ℕ → ℕ → ℕ → ℕ
tried_by number cost N = cond (eqb cost 0) (number + 1) (N + 1)

-- the better of a trial and a later one, the number next at the cost x: the later only where it costs less
abbrev pub Better : ℕ → ℕ → ℕ → ℕ → ℕ → ℕ → Type 0
Better number cost next x number' cost' =
    ((x < cost) × (number' ≡ next) × (cost' ≡ x)) ⊎ ((cost ≤ x) × (number' ≡ number) × (cost' ≡ cost))

-- number and cost of the first least of f over 0 .. N
pub record TrialOf (f : ℕ → ℕ) (N number cost : ℕ) : Type 0 where
  pub at_least : number ≡ least_to f N
  pub its_cost : cost ≡ f number
