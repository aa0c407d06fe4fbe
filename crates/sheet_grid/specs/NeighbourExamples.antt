-- Worked examples of the definitions.
use Rattle.std.specs.Prelude.{◌≡◌, refl, [], ◌∷◌, map}
use Rattle.arith.specs.Lists.{list_of}
use Rattle.sheet_grid.specs.Examples.{numbered}
use Rattle.sheet_grid.specs.Neighbours.{first_present, substituted_by, substituted, walked, neighbours}

-- the neighbours of the six blocks of a sheet of 6 by 4 samples in blocks of 2: none present; left only; left only; above only; both;
-- both, at the right edge
pub borders :
    map (λ k. neighbours 2 6 k numbered) (0 ∷ 1 ∷ 2 ∷ 3 ∷ 4 ∷ 5 ∷ [])
    ≡ (128 ∷ 128 ∷ 128 ∷ 128 ∷ 128 ∷ 128 ∷ 128 ∷ 128 ∷ [])
    ∷ (1 ∷ 11 ∷ 11 ∷ 11 ∷ 1 ∷ 1 ∷ 1 ∷ 1 ∷ [])
    ∷ (3 ∷ 13 ∷ 13 ∷ 13 ∷ 3 ∷ 3 ∷ 3 ∷ 3 ∷ [])
    ∷ (10 ∷ 10 ∷ 10 ∷ 10 ∷ 10 ∷ 11 ∷ 12 ∷ 13 ∷ [])
    ∷ (21 ∷ 31 ∷ 31 ∷ 31 ∷ 12 ∷ 13 ∷ 14 ∷ 15 ∷ [])
    ∷ (23 ∷ 33 ∷ 33 ∷ 33 ∷ 14 ∷ 15 ∷ 15 ∷ 15 ∷ [])
    ∷ []
unfolding list_of first_present substituted_by substituted walked
borders = refl
