-- Worked examples of the definitions.
use Rattle.std.specs.Prelude.{◌+◌, ◌*◌, ◌^◌, ◌≡◌, refl, [], ◌∷◌}
use Rattle.arith.specs.Bits.{bits}
use Rattle.arith.specs.Lists.{list_of}
use Rattle.pattern.specs.Pattern.{transposed}
use Rattle.pattern.specs.Words.{four_words, pattern_at, patterns_of, in_words, word_list}
use Rattle.pattern.specs.Contour.{threshold, contour_of}

-- the horizontal and the vertical edge are transposed to each other
edge_transposed : transposed 4 0xFFF0 ≡ 0xEEEE
unfolding bits
edge_transposed = refl

-- corners 100 and all other samples 90: no sample is above 100, the threshold
corners_high :
    contour_of 4 (100 ∷ 90 ∷ 90 ∷ 100 ∷ 90 ∷ 90 ∷ 90 ∷ 90 ∷ 90 ∷ 90 ∷ 90 ∷ 90 ∷ 100 ∷ 90 ∷ 90 ∷ 100 ∷ []) ≡ 0
unfolding bits threshold contour_of
corners_high = refl

-- corners 90 and all other samples 100, but for one of 92: it is above the threshold of 90, and below the mean of all samples, 97
corners_low :
    contour_of 4 (90 ∷ 100 ∷ 100 ∷ 90 ∷ 100 ∷ 92 ∷ 100 ∷ 100 ∷ 100 ∷ 100 ∷ 100 ∷ 100 ∷ 90 ∷ 100 ∷ 100 ∷ 90 ∷ []) ≡ 0x6FF6
unfolding bits threshold contour_of
corners_low = refl

-- corners 10, 7, 7 and 7: their sum is 31 and the threshold 7; (0, 0) is marked as any other sample above it is
corners_rounded :
    contour_of 4 (10 ∷ 8 ∷ 7 ∷ 7 ∷ 7 ∷ 6 ∷ 8 ∷ 7 ∷ 7 ∷ 7 ∷ 7 ∷ 7 ∷ 7 ∷ 7 ∷ 7 ∷ 7 ∷ []) ≡ 0x0043
unfolding bits threshold contour_of
corners_rounded = refl

-- five words are one pattern of 16 by 16 samples, and five of 8 by 8
one_whole : patterns_of 16 (1 ∷ 0 ∷ 0 ∷ 3 ∷ 7 ∷ []) ≡ (3 * 2 ^ 192 + 1) ∷ []
unfolding list_of four_words pattern_at patterns_of
one_whole = refl

five_whole : patterns_of 8 (1 ∷ 0 ∷ 0 ∷ 3 ∷ 7 ∷ []) ≡ 1 ∷ 0 ∷ 0 ∷ 3 ∷ 7 ∷ []
unfolding list_of pattern_at patterns_of
five_whole = refl

-- a pattern of 16 by 16 samples in its words: rows 4k to 4k + 3 in word k
in-words : word_list 16 ((3 * 2 ^ 192 + 5 * 2 ^ 64 + 1) ∷ []) ≡ 1 ∷ 5 ∷ 0 ∷ 3 ∷ []
unfolding in_words word_list
in-words = refl
