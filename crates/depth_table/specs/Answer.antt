-- What the calls on a depth table answer.
use Rattle.std.specs.Prelude.{ℕ, List, [], ◌∷◌, ℤ}
use Rattle.arith.specs.Checks.{refusal, Answer, answer}
use Rattle.depth_table.specs.Table.{table_ok, some_value, index_of}
use Rattle.depth_table.specs.Offset.{offset_ok, value_of}
use Rattle.depth_table.specs.declared.DepthIndex.{DepthIndex}
use Rattle.depth_table.specs.declared.DepthValue.{DepthValue}

-- 3: the table is not sound
unfoldable pub index_refusal : List ℕ → ℕ
index_refusal t = refusal ((table_ok t, 3) ∷ []) 0

-- `index_of` answers the index of the depth d
unfoldable pub index_answer : List ℕ → ℕ → Answer ℕ
index_answer t d = answer (index_refusal t) (index_of t d)

-- `nearest_index` answers the same of any values, rising or not: of two equally near, the later; 3: there is none
unfoldable pub nearest_answer : List ℕ → ℕ → Answer ℕ
nearest_answer t d = answer (refusal ((some_value t, 3) ∷ []) 0) (index_of t d)

-- `value_at` answers the value at an index plus an offset; 3: there is no value; 4: the offset
unfoldable pub value_answer : List ℕ → ℕ → ℤ → Answer ℕ
value_answer t i off = answer (refusal ((some_value t, 3) ∷ (offset_ok off, 4) ∷ []) 0) (value_of t i off)

-- the index and the value that the code answers
abbrev pub place : DepthIndex → ℕ
place k = k.0

abbrev pub depth : DepthValue → ℕ
depth v = v.0
