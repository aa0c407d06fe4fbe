-- Worked examples of the definitions.
use Rattle.std.specs.Prelude.{ℕ, ◌+◌, ◌≡◌, refl, true, false, List, [], ◌∷◌, ◌++◌, map, replicate}
use Rattle.arith.specs.Lists.{list_of}
use Rattle.sheet_grid.specs.Grid.{side_ok, block_x, block_y, block_holding}
use Rattle.sheet_grid.specs.Samples.{written, cut}

-- 4, 128, 6, 0 and 132 for n = 4
pub sides : map (side_ok 4) (4 ∷ 128 ∷ 6 ∷ 0 ∷ 132 ∷ []) ≡ true ∷ true ∷ false ∷ false ∷ false ∷ []
sides = refl

-- a sheet of 6 by 4 samples in blocks of 2: sample (c, r) is 10r + c
abbrev pub numbered : List ℕ
numbered =
    list_of (λ c. c) 6 ++ list_of (λ c. 10 + c) 6 ++ list_of (λ c. 20 + c) 6 ++ list_of (λ c. 30 + c) 6

-- the first samples of its six blocks
abbrev pub first_sample : ℕ → ℕ × ℕ
first_sample k = (block_x 2 6 k, block_y 2 6 k)

pub places : map first_sample (0 ∷ 1 ∷ 2 ∷ 3 ∷ 4 ∷ 5 ∷ []) ≡ (0, 0) ∷ (2, 0) ∷ (4, 0) ∷ (0, 2) ∷ (2, 2) ∷ (4, 2) ∷ []
places = refl

-- block 4 read, and written to a sheet of zeros
pub block_read : cut 2 6 2 2 numbered ≡ 22 ∷ 23 ∷ 32 ∷ 33 ∷ []
unfolding list_of cut
block_read = refl

pub block_written :
    written 2 6 2 2 (1 ∷ 2 ∷ 3 ∷ 4 ∷ []) (replicate 24 0)
    ≡ replicate 12 0 ++ (0 ∷ 0 ∷ 1 ∷ 2 ∷ 0 ∷ 0 ∷ []) ++ (0 ∷ 0 ∷ 3 ∷ 4 ∷ 0 ∷ 0 ∷ [])
unfolding list_of written
block_written = refl

-- the block that holds each sample of the third row
pub holders : map (block_holding 2 6) (12 ∷ 13 ∷ 14 ∷ 15 ∷ 16 ∷ 17 ∷ []) ≡ 3 ∷ 3 ∷ 4 ∷ 4 ∷ 5 ∷ 5 ∷ []
holders = refl
