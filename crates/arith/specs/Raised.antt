-- One whole number added to natural numbers. `pos a` is the natural number a as a whole number, `negsuc b` is -(b + 1), and `◌+ℤ◌` is the
-- sum of two whole numbers.
use Rattle.std.specs.Prelude.{ℕ, Bool, true, false, ◌&&◌, List, [], ◌∷◌, map, leb, ℤ, pos, negsuc, nat_abs, ◌+ℤ◌}

-- a whole number is within 0 to most
abbrev pub in_range : ℕ → ℤ → Bool
in_range most (pos b) = leb b most
in_range most (negsuc b) = false

-- a + k as a natural number: |a + k|, which is a + k where that is not negative
abbrev pub raised : ℤ → ℕ → ℕ
raised k a = nat_abs (pos a +ℤ k)

-- k is added to each value of a list
abbrev pub raised_list : ℤ → List ℕ → List ℕ
raised_list k t = map (raised k) t

-- each of these sums is within 0 to most
unfoldable pub raised_in_range : ℕ → ℤ → List ℕ → Bool
raised_in_range most k [] = true
raised_in_range most k (a ∷ t) = in_range most (pos a +ℤ k) && raised_in_range most k t
