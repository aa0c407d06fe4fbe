-- The contour (document 01: the outline) of n * n texture samples.
use Rattle.std.specs.Prelude.{ℕ, ◌+◌, ◌-◌, ◌*◌, ◌/◌, List, ltb, get_or}
use Rattle.arith.specs.Bits.{bits}
use Rattle.arith.specs.Square.{place}

-- the texture sample in column x and row y
abbrev pub texture_at : ℕ → List ℕ → ℕ → ℕ → ℕ
texture_at n t x y = get_or t (place n x y) 0

-- the sum of the four corner samples divided by 4, rounded down
unfoldable pub threshold : ℕ → List ℕ → ℕ
threshold n t =
    (texture_at n t 0 0 + texture_at n t (n - 1) 0 + texture_at n t 0 (n - 1) + texture_at n t (n - 1) (n - 1)) / 4

-- a sample greater than the threshold is marked
unfoldable pub contour_of : ℕ → List ℕ → ℕ
contour_of n t = bits (λ i. ltb (threshold n t) (get_or t i 0)) (n * n)
