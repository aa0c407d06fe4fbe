-- Worked examples of the definitions.
use Rattle.std.specs.Prelude.{ℕ, ◌≡◌, refl, true, false, List, [], ◌∷◌, map, ℤ, pos, negsuc}
use Rattle.arith.specs.Checks.{refusal, refused, given}
use Rattle.depth_table.specs.Table.{bytes, rising, table_ok, nearest_to, index_of}
use Rattle.depth_table.specs.Answer.{index_refusal, index_answer}
use Rattle.depth_table.specs.Offset.{offset_ok, offset_usable, offset_checks}

-- document 01's table
abbrev pub sample_table : List ℕ
sample_table = 100 ∷ 128 ∷ 140 ∷ []

-- document 01's indices; 114 and 134 are equally near to two values, and take the greater
pub sample_indices : map (index_of sample_table) (113 ∷ 114 ∷ 134 ∷ 255 ∷ []) ≡ 0 ∷ 1 ∷ 2 ∷ 2 ∷ []
unfolding index_of nearest_to
sample_indices = refl

-- sound; with equal neighbours; falling; with a value above 255; empty
pub sample_tables :
    map table_ok (sample_table ∷ (100 ∷ 100 ∷ []) ∷ (128 ∷ 100 ∷ []) ∷ (100 ∷ 256 ∷ []) ∷ [] ∷ [])
    ≡ true ∷ false ∷ false ∷ false ∷ false ∷ []
unfolding table_ok bytes rising
sample_tables = refl

-- the index, and refusal 3
pub sample_answers : map (λ t. index_answer t 114) (sample_table ∷ [] ∷ []) ≡ given 1 ∷ refused 3 ∷ []
unfolding index_answer index_refusal table_ok bytes rising index_of nearest_to
sample_answers = refl

-- offsets with three values: 2 and -2, which are used; 3 or -3 in either place; and 256, which is refused before a 3 is
pub sample_offsets :
    map (λ (o : ℤ × ℤ). refusal (offset_checks 3 o.0 o.1) 0)
    ((pos 2, negsuc 1)
    ∷ (pos 3, pos 0) ∷ (pos 0, pos 3) ∷ (negsuc 2, pos 0) ∷ (pos 0, negsuc 2)
    ∷ (pos 3, pos 256) ∷ (negsuc 255, pos 3)
    ∷ [])
    ≡ 0 ∷ 24 ∷ 24 ∷ 24 ∷ 24 ∷ 4 ∷ 4 ∷ []
unfolding offset_ok offset_usable
sample_offsets = refl

-- with one value only 0 is used; with 256 values every offset that passes 4
pub other_offsets :
    map (λ (o : ℕ × ℤ). refusal (offset_checks o.0 o.1 (pos 0)) 0)
    ((1, pos 0) ∷ (1, pos 1) ∷ (1, negsuc 0) ∷ (256, pos 255) ∷ (256, negsuc 254) ∷ (256, pos 256) ∷ [])
    ≡ 0 ∷ 24 ∷ 24 ∷ 0 ∷ 0 ∷ 4 ∷ []
unfolding offset_ok offset_usable
other_offsets = refl
