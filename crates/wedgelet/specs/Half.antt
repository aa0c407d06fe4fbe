-- One side of a line, as the code steps through it.
use Rattle.std.specs.Prelude.{ℕ, ◌+◌, ◌*◌, Bool, true, false, not, ltb}
use Rattle.wedgelet.specs.declared.half.Sum.{Sum}
use Rattle.wedgelet.specs.declared.half.Half.{Half}

-- the sum at a sample: it grows by a fixed amount with each column and each row
abbrev pub sum_at : Sum → ℕ → ℕ → ℕ
sum_at s x y = s.base + s.row * y + s.column * x

-- the samples of a side: those at which the low sum is below the high one
abbrev pub in_half : Half → ℕ → ℕ → Bool
in_half h x y = ltb (sum_at h.low x y) (sum_at h.high x y)

-- a pattern's mark, inverted where (0,0) is marked
unfoldable pub flip : Bool → Bool → Bool
flip true b = not b
flip false b = b
