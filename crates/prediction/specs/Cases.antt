-- The marked cases of document 01, as one table, and a case where transposing changes the depths.
use Rattle.std.specs.Prelude.{ℕ, ◌≡◌, refl, List, [], ◌∷◌, ◌++◌, map, pos, negsuc, replicate, take}
use Rattle.arith.specs.Bits.{bits}
use Rattle.arith.specs.Distance.{clamped}
use Rattle.arith.specs.Lists.{list_of}
use Rattle.depth_table.specs.Table.{nearest_to, index_of}
use Rattle.depth_table.specs.Examples.{sample_table}
use Rattle.pattern.specs.Pattern.{transposed}
use Rattle.wedgelet.specs.Wedgelet.{candidate, wedgelet, holds, keep, ends, starts, wedgelet_list}
use Rattle.prediction.specs.Sides.{vert_edge, hor_edge, lt_by, br_by, lt, br, side_depth}
use Rattle.depth_table.specs.Offset.{level_of}
use Rattle.prediction.specs.Block.{sample_of, predicted}
use Rattle.prediction.specs.Transposed.{transposed_neighbours}

-- L = 10, 20 .. 70 and the given L7; T = 100, 110 .. 170
abbrev pub sample_neighbours : ℕ → List ℕ
sample_neighbours l7 =
    (10 ∷ 20 ∷ 30 ∷ 40 ∷ 50 ∷ 60 ∷ 70 ∷ l7 ∷ []) ++ (100 ∷ 110 ∷ 120 ∷ 130 ∷ 140 ∷ 150 ∷ 160 ∷ 170 ∷ [])

-- (lt, br) for n = 4
abbrev pub sample_sides : ℕ → ℕ → ℕ × ℕ
sample_sides l7 w = (lt 4 w (sample_neighbours l7), br 4 w (sample_neighbours l7))

pub record MarkedCases : Type 0 where
  -- entries 0 to 6 of the wedgelet list for n = 4
  pub entries : take 7 (wedgelet_list 4) ≡ 0xFFF0 ∷ 0xFF70 ∷ 0xF730 ∷ 0x7310 ∷ 0x3310 ∷ 0x1110 ∷ 0x008E ∷ []
  -- the indices of depths in the table 100, 128, 140
  pub indices : map (index_of sample_table) (113 ∷ 114 ∷ 134 ∷ 255 ∷ []) ≡ 0 ∷ 1 ∷ 2 ∷ 2 ∷ []
  -- the side depths, with L7 = 80
  pub depths :
      map (sample_sides 80) (0xFFF0 ∷ 0xEEEE ∷ 0xFFFE ∷ 0x8000 ∷ []) ≡ (110, 40) ∷ (20, 130) ∷ (55, 85) ∷ (55, 170) ∷ []
  -- and with L7 = 81, where the left run changes more
  pub left_end : sample_sides 81 0x8000 ≡ (55, 81)
  -- the block that `show` prints of document 01's file: entry 0, offsets -1 and 1, all neighbours 128
  pub shown : predicted 4 0xFFF0 (replicate 16 128) sample_table (negsuc 0) (pos 1) ≡ replicate 4 100 ++ replicate 12 140

pub marked_cases : MarkedCases
unfolding bits clamped list_of nearest_to index_of candidate wedgelet holds keep ends starts wedgelet_list
    vert_edge hor_edge lt_by br_by lt br side_depth level_of sample_of predicted
marked_cases = record { entries = refl; indices = refl; depths = refl; left_end = refl; shown = refl }

-- br of a pattern, and of the transposed pattern with the transposed neighbours
abbrev pub br_across : ℕ → List ℕ → ℕ × ℕ
br_across w s = (br 4 w s, br 4 (transposed 4 w) (transposed_neighbours 4 s))

-- Where the runs change by equal amounts and end on unequal samples, transposing does not keep br: here |L0 - L7| = |T0 - T7| = 70.
pub br_not_kept : br_across 0x8000 (sample_neighbours 80) ≡ (170, 80)
unfolding bits transposed_neighbours vert_edge hor_edge br_by br
br_not_kept = refl
