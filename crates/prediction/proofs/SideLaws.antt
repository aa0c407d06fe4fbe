-- Laws of the side depths as the code reads them, and their range.
use Prim.Native.Nat.{ℕ, ◌+◌, ◌-◌, ◌*◌, ◌/◌, ◌<◌}
use mathlib.Core.Path.{◌≡◌, ap}
use mathlib.Core.Bool.{Bool, true, false, cond}
use mathlib.Core.List.{List}
use native.Mathlib.Nat.{zero-mul, zero-add, add-zero}
use native.Mathlib.Omega.{arith}
use lib.Dec.{ltb}
use lib.ListN.{get_or}
use Rattle.arith.specs.Bits.{test_bit}
use Rattle.pattern.specs.Pattern.{mark}
use Rattle.prediction.specs.Sides.{left_change, top_change, differ, vert_edge, hor_edge, lt_by, br_by, lt, br, side_depth}

-- ---- the corners

-- the mark of (0,0) is bit 0
pub origin-bit : (n w : ℕ) → mark n w 0 0 ≡ test_bit w 0
origin-bit n w = simp zero-mul

pub vert-edge-bits : (n w : ℕ) → vert_edge n w ≡ differ (test_bit w 0) (test_bit w (n - 1))
unfolding vert_edge
vert-edge-bits n w = simp (zero-mul, zero-add)

pub hor-edge-bits : (n w : ℕ) → hor_edge n w ≡ differ (test_bit w 0) (test_bit w ((n - 1) * n))
unfolding hor_edge
hor-edge-bits n w = simp (zero-mul, add-zero)

pub side-depth-bits : (n w : ℕ) (s : List ℕ) (m : Bool) → side_depth n w s m ≡ cond (differ m (test_bit w 0)) (br n w s) (lt n w s)
unfolding side_depth
side-depth-bits n w s m = ap (λ (b : Bool). cond (differ m b) (br n w s) (lt n w s)) (origin-bit n w)

-- ---- the range: side depths are below 256 where all neighbours are

mean-byte : (a b : ℕ) → a < 256 → b < 256 → (a + b) / 2 < 256
mean-byte a b ha hb = omega arith

-- the one of two bytes that a test picks is a byte
pub pick-byte : (c : Bool) (a b : ℕ) → a < 256 → b < 256 → cond c a b < 256
pick-byte true a b ha hb = ha
pick-byte false a b ha hb = hb

module _ (n : ℕ) (s : List ℕ) (small : (i : ℕ) → get_or s i 0 < 256) where
  lt_by-byte : (v h : Bool) → lt_by n s v h < 256
  unfolding lt_by
  lt_by-byte true true = mean-byte _ _ (small 0) (small (2 * n + 0))
  lt_by-byte false false = mean-byte _ _ (small 0) (small (2 * n + 0))
  lt_by-byte false true = small (2 * n + (n - 1) / 2)
  lt_by-byte true false = small ((n - 1) / 2)

  br_by-byte : (v h : Bool) → br_by n s v h < 256
  unfolding br_by
  br_by-byte true true = mean-byte _ _ (small (n - 1)) (small (2 * n + (n - 1)))
  br_by-byte false false = pick-byte (ltb (top_change n s) (left_change n s)) _ _ (small (2 * n - 1)) (small (2 * n + (2 * n - 1)))
  br_by-byte false true = small (n - 1)
  br_by-byte true false = small (2 * n + (n - 1))

  pub sides-bytes : (w : ℕ) → (lt n w s < 256) × (br n w s < 256)
  unfolding lt br
  sides-bytes w = (lt_by-byte (vert_edge n w) (hor_edge n w), br_by-byte (vert_edge n w) (hor_edge n w))
