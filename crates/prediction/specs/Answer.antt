-- What `predict` answers, and what it leaves in the lent block: refusals in the papers' order, and the values. `predict_from_values`
-- does the same of any values, rising or not: of the table it asks only that there is one.
use Rattle.std.specs.Prelude.{ℕ, ◌*◌, ◌≤◌, Bool, true, ◌&&◌, List, ◌∷◌, ◌≡◌, eqb, ℤ, length}
use Rattle.std.specs.Int.Count.{ones}
use Rattle.arith.specs.Checks.{refusal, Answer, answer, lent}
use Rattle.depth_table.specs.Table.{table_ok, some_value}
use Rattle.pattern.specs.Size.{greatest_size, size_ok, word_ok}
use Rattle.depth_table.specs.Offset.{offset_ok, offset_checks}
use Rattle.prediction.specs.Block.{predicted}

-- as many neighbours as 4n, and as many samples in the lent block as n * n
unfoldable pub lengths_ok : ℕ → ℕ → ℕ → Bool
lengths_ok n neighbours samples = eqb neighbours (4 * n) && eqb samples (n * n)

-- 1: the size; 2: the lengths of neighbours and block; 3: whether the table is as asked; 5: the word; 4 and 24: the offsets. values is how
-- many the table has
abbrev pub predict_checks : Bool → ℕ → ℕ → ℕ → ℕ → ℤ → ℤ → ℕ → List (Bool × ℕ)
predict_checks asked n w neighbours values off0 off1 samples =
    (size_ok n, 1) ∷ (lengths_ok n neighbours samples, 2) ∷ (asked, 3) ∷ (word_ok n w, 5) ∷ offset_checks values off0 off1

unfoldable pub predict_refusal_by : Bool → ℕ → ℕ → ℕ → ℕ → ℤ → ℤ → ℕ → ℕ
predict_refusal_by asked n w neighbours values off0 off1 samples =
    refusal (predict_checks asked n w neighbours values off0 off1 samples) 0

-- the number of marks, counted on the word; samples is the length of the lent block
unfoldable pub predict_answer_by : Bool → ℕ → ℕ → List ℕ → List ℕ → ℤ → ℤ → ℕ → Answer ℕ
predict_answer_by asked n w s t off0 off1 samples =
    answer (predict_refusal_by asked n w (length s) (length t) off0 off1 samples) (ones w)

-- the lent block afterwards: the predicted block, or after a refusal what it held
unfoldable pub predict_block_by : Bool → ℕ → ℕ → List ℕ → List ℕ → ℤ → ℤ → List ℕ → List ℕ
predict_block_by asked n w s t off0 off1 held =
    lent (predict_refusal_by asked n w (length s) (length t) off0 off1 (length held)) (predicted n w s t off0 off1) held

-- `predict` asks for a sound table
abbrev pub predict_answer : ℕ → ℕ → List ℕ → List ℕ → ℤ → ℤ → ℕ → Answer ℕ
predict_answer n w s t off0 off1 samples = predict_answer_by (table_ok t) n w s t off0 off1 samples

abbrev pub predict_block : ℕ → ℕ → List ℕ → List ℕ → ℤ → ℤ → List ℕ → List ℕ
predict_block n w s t off0 off1 held = predict_block_by (table_ok t) n w s t off0 off1 held

-- `predict_from_values` for a value
abbrev pub predict_values_answer : ℕ → ℕ → List ℕ → List ℕ → ℤ → ℤ → ℕ → Answer ℕ
predict_values_answer n w s t off0 off1 samples = predict_answer_by (some_value t) n w s t off0 off1 samples

abbrev pub predict_values_block : ℕ → ℕ → List ℕ → List ℕ → ℤ → ℤ → List ℕ → List ℕ
predict_values_block n w s t off0 off1 held = predict_block_by (some_value t) n w s t off0 off1 held

-- what a value of the block is worked out from, where no check fails
pub record Predictable (n : ℕ) (s t : List ℕ) (off0 off1 : ℤ) : Type 0 where
  pub some : 1 ≤ n
  pub high : n ≤ greatest_size
  pub long : length s ≡ 4 * n
  pub valued : some_value t ≡ true
  pub first : offset_ok off0 ≡ true
  pub second : offset_ok off1 ≡ true
