-- Document 01, "House file": writing.
use Rattle.std.specs.Prelude.{ℕ, zero, suc, ◌+◌, ◌*◌, ◌≤◌, Bool, true, ◌&&◌, List, [], ◌∷◌, ◌++◌, eqb, leb, nat_abs, length}
use Rattle.std.proofs.lemmas.List.Edits.{sets}
use Rattle.arith.specs.Checks.{refusal, Answer, answer, lent}
use Rattle.depth_table.specs.Table.{most_values, table_ok}
use Rattle.pattern.specs.Size.{greatest_size}
use Rattle.pattern.specs.Answer.{count_ok}
use Rattle.sheet_grid.specs.Grid.{longest}
use Rattle.sheet.specs.Checks.{state_checks}
use Rattle.sheet.specs.declared.Sheet.{Sheet}
use Rattle.sheet.specs.State.{blocks_of}
use Rattle.record.specs.Meaning.{record_refusal}
use Rattle.record.specs.declared.Record.{Record}
use Rattle.arith.specs.Lists.{list_of}
use Rattle.record_file.specs.Text.{file_text}

-- what is written: a state, the table, and the record at each place
pub record Source : Type 0 where
  pub sheet : Sheet
  pub table : List ℕ
  pub record-at : ℕ → Record

abbrev pub source_of : Sheet → List ℕ → (ℕ → Record) → Source
source_of S table at = record { sheet = S; table = table; record-at = at }

-- the first of two refusals, 0 for none
abbrev pub first : ℕ → ℕ → ℕ
first zero b = b
first (suc a) b = suc a

-- the first refusal of f 0, f 1, .., f (m - 1)
unfoldable pub first_to : (ℕ → ℕ) → ℕ → ℕ
first_to f zero = 0
first_to f (suc m) = first (first_to f m) (f m)

-- the bytes that writing needs
abbrev pub space_for : ℕ → ℕ → ℕ
space_for values blocks = 80 + 4 * values + 32 * blocks

-- a count that the lent patterns and 9,999 allow, no fewer records than blocks, and space
unfoldable pub write_lengths_ok : Sheet → ℕ → ℕ → ℕ → ℕ → ℕ → Bool
write_lengths_ok S patterns count values records space =
    count_ok patterns count && (leb (blocks_of S) records && leb (space_for values (blocks_of S)) space)

-- how far the numbers of a record that is not refused go
pub record Small (r : Record) : Type 0 where
  pub kind : r.kind ≤ 1
  pub entry : r.entry ≤ 9998
  pub off0 : nat_abs r.off0 ≤ 255
  pub off1 : nat_abs r.off1 ≤ 255

-- how far the numbers of the size line go
pub record HeadFits (S : Sheet) (values : ℕ) : Type 0 where
  pub n : S.n ≤ greatest_size
  pub width : S.width ≤ longest
  pub height : S.height ≤ longest
  pub table : values ≤ most_values

-- a record is written without texture, so that 21 is not given: 7, 6, 5, 4, 24; values is how many the table has
abbrev pub written_refusal : ℕ → List ℕ → ℕ → ℕ → Record → ℕ
written_refusal n list count values r = record_refusal n list count true values r

-- 1, 2, 8, 23; 22: blocks are missing; 3: the table; records and space are the lengths of what is lent
abbrev pub write_checks : Sheet → List ℕ → ℕ → ℕ → ℕ → ℕ → List (Bool × ℕ)
write_checks S table patterns count records space =
    state_checks S.n S.width S.height S.placed (write_lengths_ok S patterns count (length table) records space)
    ++ ((eqb S.placed (blocks_of S), 22) ∷ (table_ok table, 3) ∷ [])

-- then the first bad record
unfoldable pub write_refusal : Source → List ℕ → ℕ → ℕ → ℕ → ℕ
write_refusal W list count records space =
    refusal (write_checks W.sheet W.table (length list) count records space)
    (first_to (λ i. written_refusal W.sheet.n list count (length W.table) (W.record-at i)) (blocks_of W.sheet))

-- the text that is written
abbrev pub written_text : Source → List ℕ
written_text W = file_text W.sheet.n W.sheet.width W.sheet.height W.table (list_of W.record-at (blocks_of W.sheet))

-- `write` answers the length of the text
unfoldable pub write_answer : Source → List ℕ → ℕ → ℕ → ℕ → Answer ℕ
write_answer W list count records space = answer (write_refusal W list count records space) (length (written_text W))

-- the lent bytes afterwards: the text from the start on, and past it the old content
unfoldable pub write_after : Source → List ℕ → ℕ → ℕ → List ℕ → List ℕ
write_after W list count records old = lent (write_refusal W list count records (length old)) (sets old 0 (written_text W)) old
