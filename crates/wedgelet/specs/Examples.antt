-- Worked examples of the wedgelet list.
use Rattle.std.specs.Prelude.{◌-◌, ◌^◌, ◌≡◌, refl, [], ◌∷◌, length, take}
use Rattle.arith.specs.Bits.{bits}
use Rattle.arith.specs.Lists.{list_of}
use Rattle.wedgelet.specs.Wedgelet.{points, point_x, point_y, candidate, wedgelet, holds, keep, ends, starts, wedgelet_list}

-- the border points for n = 4, clockwise from (0,0)
points_x : list_of (point_x 4) (points 4) ≡ 0 ∷ 1 ∷ 2 ∷ 3 ∷ 3 ∷ 3 ∷ 3 ∷ 2 ∷ 1 ∷ 0 ∷ 0 ∷ 0 ∷ []
unfolding list_of
points_x = refl

points_y : list_of (point_y 4) (points 4) ≡ 0 ∷ 0 ∷ 0 ∷ 0 ∷ 1 ∷ 2 ∷ 3 ∷ 3 ∷ 3 ∷ 3 ∷ 2 ∷ 1 ∷ []
unfolding list_of
points_y = refl

pub first_seven : take 7 (wedgelet_list 4) ≡ 0xFFF0 ∷ 0xFF70 ∷ 0xF730 ∷ 0x7310 ∷ 0x3310 ∷ 0x1110 ∷ 0x008E ∷ []
unfolding bits candidate wedgelet holds keep ends starts wedgelet_list
first_seven = refl

count_4 : length (wedgelet_list 4) ≡ 74
unfolding bits candidate wedgelet holds keep ends starts wedgelet_list
count_4 = refl

-- 16 by 16 samples: from (0,0) to (1,0), all rows but the first
first_16 : wedgelet 16 0 1 ≡ 2 ^ 256 - 2 ^ 16
unfolding bits candidate wedgelet
first_16 = refl
