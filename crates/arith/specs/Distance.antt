-- The distance of two numbers, and a number clamped to a range.
use Rattle.std.specs.Prelude.{ℕ, suc, ◌+◌, ◌-◌, min, ℤ, pos, negsuc}

-- |a - b|; a difference of natural numbers is 0 where it would be negative
abbrev pub dist : ℕ → ℕ → ℕ
dist a b = (a - b) + (b - a)

-- i + z clamped to 0 .. count - 1, for a whole number z (negsuc k is -(k + 1))
unfoldable pub clamped : ℕ → ℕ → ℤ → ℕ
clamped count i (pos k) = min (i + k) (count - 1)
clamped count i (negsuc k) = min (i - suc k) (count - 1)
