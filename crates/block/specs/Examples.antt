-- A worked example of transposing.
use Rattle.std.specs.Prelude.{◌≡◌, refl, [], ◌∷◌}
use Rattle.arith.specs.Lists.{upto}
use Rattle.block.specs.Block.{block_by, block_of, transposed_block}

block_transposed :
    transposed_block 3 2 (block_of 3 2 (1 ∷ 2 ∷ 3 ∷ 4 ∷ []))
    ≡ (1 ∷ 3 ∷ 0 ∷ []) ∷ (2 ∷ 4 ∷ 0 ∷ []) ∷ (0 ∷ 0 ∷ 0 ∷ []) ∷ []
unfolding block_by upto
block_transposed = refl
