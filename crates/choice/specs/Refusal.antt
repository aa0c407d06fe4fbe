-- What is refused of a choice, in document 01's order.
use Rattle.std.specs.Prelude.{ℕ, zero, suc, ◌*◌, Bool, true, ◌&&◌, ◌||◌, List, [], ◌∷◌, eqb, leb, ltb, length, get_or}
use Rattle.arith.specs.Checks.{refusal}
use Rattle.depth_table.specs.Table.{table_ok}
use Rattle.pattern.specs.Size.{size_ok, word_ok}
use Rattle.pattern.specs.Answer.{count_ok, texture_ok, textured}
use Rattle.choice.specs.Case.{Case}

-- 4n neighbours, n * n original samples, texture of none or n * n samples, and a count that the lent patterns and 9,999 allow
unfoldable pub lengths_ok : ℕ → ℕ → ℕ → ℕ → ℕ → ℕ → Bool
lengths_ok n patterns count neighbours samples texture =
    eqb neighbours (4 * n)
    && (eqb samples (n * n)
    && (texture_ok texture (n * n)
    && count_ok patterns count))

-- the first k patterns of the list mark samples of the block only
unfoldable pub words_ok : ℕ → List ℕ → ℕ → Bool
words_ok n list zero = true
words_ok n list (suc k) = words_ok n list k && word_ok n (get_or list k 0)

-- the lengths of what a case is given
abbrev pub case_lengths_ok : Case → Bool
case_lengths_ok C =
    lengths_ok C.n (length C.list) C.count (length C.neighbours) (length C.original) (length C.texture)

-- 5: a pattern below the count; 4: the reach; 10: no wedgelet and no texture
abbrev pub pick_checks : ℕ → List ℕ → ℕ → ℕ → Bool → List (Bool × ℕ)
pick_checks n list count reach textured =
    (words_ok n list count, 5) ∷ (leb reach 255, 4) ∷ (ltb 0 count || textured, 10) ∷ []

-- 1: the size; 2: a length or the count; 3: the table; then those
abbrev pub choose_checks : Case → List (Bool × ℕ)
choose_checks C =
    (size_ok C.n, 1) ∷ (case_lengths_ok C, 2) ∷ (table_ok C.table, 3)
    ∷ pick_checks C.n C.list C.count C.reach (textured C.texture)

unfoldable pub choose_refusal : Case → ℕ
choose_refusal C = refusal (choose_checks C) 0
