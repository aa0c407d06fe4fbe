-- Document 01, "Choice": the offsets in reach, and their order between equals.
use Rattle.std.specs.Prelude.{ℕ, ◌+◌, ◌*◌, ◌/◌, ◌%◌, ◌≤◌, ◌<◌, ◌≡◌, cond, ◌⊎◌, eqb, ℤ, pos, negsuc, nat_abs}

-- an offset lies in -R .. R
abbrev pub InReach : ℕ → ℤ → Type 0
InReach R off = nat_abs off ≤ R

abbrev pub Negative : ℤ → Type 0
Negative (pos k) = ⊥
Negative (negsuc k) = Unit {0}

-- of two offsets the one with the smaller absolute value comes first, then the negative one
abbrev pub Sooner : ℤ → ℤ → Type 0
Sooner a b = (nat_abs a < nat_abs b) ⊎ ((nat_abs a ≡ nat_abs b) × Negative a × (Negative b → ⊥))

-- the offsets in that order, 0, -1, 1, -2, 2, ..: the number of an offset, and the offset of a number
abbrev pub trial : ℤ → ℕ
trial (pos k) = 2 * k
trial (negsuc k) = 2 * k + 1

abbrev pub offset : ℕ → ℤ
offset t = cond (eqb (t % 2) 0) (pos (t / 2)) (negsuc (t / 2))
