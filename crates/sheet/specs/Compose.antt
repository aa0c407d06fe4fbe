-- Document 01, "Sheet": composing, which chooses and places every block still missing.
use Rattle.std.specs.Prelude.{ℕ, zero, suc, ◌-◌, ◌≤◌, ◌≡◌, Bool, true, ◌&&◌, List, ◌++◌, eqb, leb, ℤ, length, drop}
use Rattle.arith.specs.Checks.{refusal, Answer, answer, lent}
use Rattle.arith.specs.Lists.{list_of}
use Rattle.depth_table.specs.Table.{table_ok}
use Rattle.choice.specs.Case.{Case}
use Rattle.choice.specs.Refusal.{pick_checks, choose_refusal}
use Rattle.record.specs.declared.Record.{Record}
use Rattle.record.specs.Lent.{fields_of}
use Rattle.choice.specs.Search.{chosen}
use Rattle.choice.specs.Record.{prediction_of}
use Rattle.sheet_grid.specs.Samples.{written, cut}
use Rattle.sheet.specs.State.{after, area, blocks_of, finished, next_x, next_y, lengths_ok, open_refusal, Open, Lengths}
use Rattle.sheet.specs.Place.{Material, next_case, placed_samples}
use Rattle.pattern.specs.Answer.{textured}
use Rattle.sheet.specs.declared.Sheet.{Sheet}

-- the number of blocks still missing
abbrev pub missing : Sheet → ℕ
missing S = blocks_of S - S.placed

-- what composing is given beside the state and the samples: what records are placed with, the original samples and the reach
pub record Task : Type 0 where
  pub material : Material
  pub original : List ℕ
  pub reach : ℕ

abbrev pub task_of : Material → List ℕ → ℕ → Task
task_of material original reach = record { material = material; original = original; reach = reach }

-- the next block as a case of the choice: its neighbours from the samples s, its own part of original and texture
abbrev pub compose_case : Sheet → Task → List ℕ → Case
compose_case S T s = next_case S T.material (cut S.n S.width (next_x S) (next_y S) T.original) T.reach s

-- the record chosen for it
abbrev pub chosen_next : Sheet → Task → List ℕ → Record
chosen_next S T s = (chosen (compose_case S T s)).0

-- the samples with the chosen record of a case drawn at (x, y); as they were where the choice is refused
unfoldable pub chosen_block : ℕ → ℕ → ℕ → ℕ → Case → List ℕ → List ℕ
chosen_block n w x y C s = lent (choose_refusal C) (written n w x y (prediction_of C (chosen C).0) s) s

-- the samples with the next block composed
abbrev pub composed_next : Sheet → Task → List ℕ → List ℕ
composed_next S T s = chosen_block S.n S.width (next_x S) (next_y S) (compose_case S T s) s

-- the samples after k blocks more; the neighbours of each block are read when the one before it is placed
unfoldable pub composed_to : Sheet → Task → List ℕ → ℕ → List ℕ
composed_to S T s zero = s
composed_to S T s (suc k) = let t = composed_to S T s k in placed_samples (after k S) T.material t (chosen_next (after k S) T t)

-- the record of the block that comes k blocks after the first missing one
abbrev pub composed_record : Sheet → Task → List ℕ → ℕ → Record
composed_record S T s k = chosen_next (after k S) T (composed_to S T s k)

-- a lent slice whose first m places hold f; past them the old content stays
unfoldable pub over : {A : Type 0} → ℕ → (ℕ → A) → List A → List A
over m f old = list_of f m ++ drop m old

-- ---- the call

-- the samples and the records afterwards, by what the checks say: a refusal alters nothing, and the first block placed takes the first
-- record
abbrev pub samples_by : ℕ → Sheet → List ℕ → Task → List ℕ
samples_by refusal S s T = lent refusal (composed_to S T s (missing S)) s

abbrev pub records_by : ℕ → Sheet → List ℕ → Task → List (List ℤ) → List (List ℤ)
records_by refusal S s T old = lent refusal (over (missing S) (λ k. fields_of (composed_record S T s k)) old) old

-- what stands in the lent slices afterwards (the names that end in 1), from what stood there before
pub record Leaves (refusal : ℕ) (S : Sheet) (T : Task) (samples0 samples1 : List ℕ) (records0 records1 : List (List ℤ)) : Type 0 where
  pub samples_are : samples1 ≡ samples_by refusal S samples0 T
  pub records_are : records1 ≡ records_by refusal S samples0 T records0

-- lengths as in placing, an original of as many samples as the sheet, and no fewer records than blocks
unfoldable pub compose_lengths_ok : Sheet → ℕ → ℕ → ℕ → ℕ → ℕ → ℕ → Bool
compose_lengths_ok S samples patterns count texture original records =
    lengths_ok S samples patterns count texture && (eqb original (area S) && leb (blocks_of S) records)

-- 5, 4 and 10, as in the choice for a block
abbrev pub choice_checks : Sheet → Task → List (Bool × ℕ)
choice_checks S T = let M = T.material in pick_checks S.n M.list M.count T.reach (textured M.texture)

unfoldable pub choice_refusal : Sheet → Task → ℕ
choice_refusal S T = refusal (choice_checks S T) 0

-- what the checks before those leave: a block to place, what is lent fits, the table, and a record for each block
pub record Ready (S : Sheet) (T : Task) (samples records : ℕ) : Type 0 where
  pub is_open : Open S
  pub lengths : Lengths S samples (length T.material.list) T.material.count (length T.material.texture)
  pub same : length T.original ≡ area S
  pub sound : table_ok T.material.table ≡ true
  pub room : blocks_of S ≤ records

-- 1, 2, 8, 23, 20, 3, then 5, 4, 10; samples and records are the lengths of what is lent
unfoldable pub compose_refusal : Sheet → ℕ → Task → ℕ → ℕ
compose_refusal S samples T records =
    let M = T.material in
    open_refusal S
    (compose_lengths_ok S samples (length M.list) M.count (length M.texture) (length T.original) records)
    (table_ok M.table)
    (choice_refusal S T)

-- `compose` answers the finished state and the number of records written
unfoldable pub compose_answer : Sheet → List ℕ → Task → ℕ → Answer (Sheet × ℕ)
compose_answer S s T records = answer (compose_refusal S (length s) T records) (finished S, missing S)

-- the lent samples afterwards
unfoldable pub compose_after : Sheet → List ℕ → Task → ℕ → List ℕ
compose_after S s T records = samples_by (compose_refusal S (length s) T records) S s T

-- and the lent records
unfoldable pub compose_records : Sheet → List ℕ → Task → List (List ℤ) → List (List ℤ)
compose_records S s T old = records_by (compose_refusal S (length s) T (length old)) S s T old
