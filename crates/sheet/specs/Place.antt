-- Document 01, "Sheet": placing a record.
use Rattle.std.specs.Prelude.{ℕ, zero, suc, ◌≡◌, Bool, true, cond, List, [], ℤ, length}
use Rattle.arith.specs.Checks.{Answer, answer, lent}
use Rattle.depth_table.specs.Offset.{offsets_ok, offsets_usable}
use Rattle.depth_table.specs.Table.{table_ok, some_value}
use Rattle.pattern.specs.Size.{word_ok}
use Rattle.pattern.specs.Answer.{textured}
use Rattle.choice.specs.Case.{Case, case_of}
use Rattle.choice.specs.Record.{prediction_of}
use Rattle.record.specs.declared.Record.{Record}
use Rattle.sheet_grid.specs.Neighbours.{neighbours}
use Rattle.sheet_grid.specs.Samples.{written, cut}
use Rattle.sheet.specs.State.{after, next_x, next_y, lengths_ok, open_refusal, Open, Lengths}
use Rattle.record.specs.Meaning.{record_refusal}
use Rattle.sheet.specs.declared.Sheet.{Sheet}

-- what records are placed with: the wedgelet list (document 01: the edge list) and its count, the depth table, and texture of the
-- whole sheet; no texture is the empty list
pub record Material : Type 0 where
  pub list : List ℕ
  pub count : ℕ
  pub table : List ℕ
  pub texture : List ℕ

abbrev pub material_of : List ℕ → ℕ → List ℕ → List ℕ → Material
material_of list count table texture = record { list = list; count = count; table = table; texture = texture }

-- the next block's own texture; none stays none
abbrev pub next_texture : Sheet → List ℕ → List ℕ
next_texture S texture = cond (textured texture) (cut S.n S.width (next_x S) (next_y S) texture) []

-- the next block as a case of the choice, with its neighbours read from the samples s; placing reads neither original nor reach
abbrev pub next_case : Sheet → Material → List ℕ → ℕ → List ℕ → Case
next_case S M original reach s =
    case_of S.n M.list M.count (neighbours S.n S.width S.placed s) original M.table reach (next_texture S M.texture)

abbrev pub place_case : Sheet → Material → List ℕ → Case
place_case S M s = next_case S M [] 0 s

-- what a record draws: the predicted block of its pattern and offsets, for the next place, from the sheet so far
abbrev pub drawn : Sheet → Material → List ℕ → Record → List ℕ
drawn S M s r = prediction_of (place_case S M s) r

-- the samples with the record's predicted block in the next place
unfoldable pub placed_samples : Sheet → Material → List ℕ → Record → List ℕ
placed_samples S M s r = written S.n S.width (next_x S) (next_y S) (drawn S M s r) s

-- 7, 21, 6, 5, 4, 24: of a record that is to be drawn for a case, and of one that is to be placed
abbrev pub draw_refusal : Case → Record → ℕ
draw_refusal C r = record_refusal C.n C.list C.count (textured C.texture) (length C.table) r

abbrev pub material_refusal : Sheet → Material → Record → ℕ
material_refusal S M r = record_refusal S.n M.list M.count (textured M.texture) (length M.table) r

-- 1, 2, 8, 23, 20, 3, where the table is not as asked, then the record's 7, 21, 6, 5, 4, 24; samples is the length of the lent samples
unfoldable pub place_refusal_by : Bool → Sheet → ℕ → Material → Record → ℕ
place_refusal_by asked S samples M r =
    open_refusal S (lengths_ok S samples (length M.list) M.count (length M.texture)) asked (material_refusal S M r)

-- the next state is answered
unfoldable pub place_answer_by : Bool → Sheet → List ℕ → Material → Record → Answer Sheet
place_answer_by asked S s M r = answer (place_refusal_by asked S (length s) M r) (after 1 S)

-- the lent samples afterwards
unfoldable pub place_after_by : Bool → Sheet → List ℕ → Material → Record → List ℕ
place_after_by asked S s M r = lent (place_refusal_by asked S (length s) M r) (placed_samples S M s r) s

-- `place` asks for a sound table
abbrev pub place_refusal : Sheet → ℕ → Material → Record → ℕ
place_refusal S samples M r = place_refusal_by (table_ok M.table) S samples M r

abbrev pub place_answer : Sheet → List ℕ → Material → Record → Answer Sheet
place_answer S s M r = place_answer_by (table_ok M.table) S s M r

abbrev pub place_after : Sheet → List ℕ → Material → Record → List ℕ
place_after S s M r = place_after_by (table_ok M.table) S s M r

-- `place_from_values` for a value
abbrev pub place_values_answer : Sheet → List ℕ → Material → Record → Answer Sheet
place_values_answer S s M r = place_answer_by (some_value M.table) S s M r

abbrev pub place_values_after : Sheet → List ℕ → Material → Record → List ℕ
place_values_after S s M r = place_after_by (some_value M.table) S s M r

-- the samples after the first k records are placed in turn
unfoldable pub placed_in_turn : Sheet → Material → (ℕ → Record) → List ℕ → ℕ → List ℕ
placed_in_turn S M records s zero = s
placed_in_turn S M records s (suc k) = placed_samples (after k S) M (placed_in_turn S M records s k) (records k)

-- ---- what the steps are given

-- a pattern of the block, a table that has a value, and two offsets that it can use
pub record Drawable (n w : ℕ) (t : List ℕ) (off0 off1 : ℤ) : Type 0 where
  pub inside : word_ok n w ≡ true
  pub valued : some_value t ≡ true
  pub allowed : offsets_ok off0 off1 ≡ true
  pub usable : offsets_usable (length t) off0 off1 ≡ true

-- a state that has a block to place, what is lent fits it, and the table has a value
pub record Fits (S : Sheet) (M : Material) (samples : ℕ) : Type 0 where
  pub valued : some_value M.table ≡ true
  pub is_open : Open S
  pub lengths : Lengths S samples (length M.list) M.count (length M.texture)
