-- Document 01, "House file": what can be written reads back the same, a file that is accepted is the one the writer makes of what was read,
-- a composed sheet that is written and read is the composed sheet again, and composing makes no record that is refused. All are said of
-- what the calls `write`, `read`, `place` and `compose` answer and leave, as their contracts have it.
use Rattle.std.specs.Prelude.{ℕ, ◌+◌, ◌≤◌, ◌<◌, ◌≡◌, true, List, ◌++◌, ◌⊎◌, ℤ, length, take, drop, replicate}
use Rattle.std.proofs.lemmas.List.Edits.{sets}
use Rattle.arith.specs.Checks.{Answer, given}
use Rattle.arith.specs.Lists.{list_of}
use Rattle.record.specs.declared.Record.{Record}
use Rattle.sheet.specs.declared.Sheet.{Sheet}
use Rattle.sheet.specs.State.{state_of, after, area, blocks_of}
use Rattle.sheet.specs.Place.{Material, place_answer, place_after, placed_in_turn}
use Rattle.sheet.specs.Compose.{missing, Task, task_of, compose_answer, compose_after, compose_records}
use Rattle.sheet_grid.specs.Grid.{most_samples, most_blocks}
use Rattle.depth_table.specs.Table.{most_values}
use Rattle.record.specs.Lent.{record_at}
use Rattle.record_file.specs.Reading.{Aids, lists_ok}
use Rattle.record_file.specs.Writing.{Source, source_of, space_for, written_refusal, write_answer, write_after}
use Rattle.record_read.specs.Back.{Back, Lent, reading}
use Rattle.record_read.specs.Back.{material_for, drawn_on, file_back, samples_back, records_over, records_back, leaving}

-- what `read` answers, and leaves of what is lent
abbrev pub answered : Aids → Lent → List ℕ → Back
answered A L s = file_back (reading A L s)

abbrev pub records_left : Aids → Lent → List ℕ → List (List ℤ)
records_left A L s = leaving (reading A L s) (λ F. records_back F L.records) L.records

abbrev pub samples_left : Aids → Lent → List ℕ → List ℕ
samples_left A L s = leaving (reading A L s) (λ F. samples_back A F L.samples) L.samples

-- ---- what is written reads back

-- texture is none or of the sheet's size, and there is some where the file holds kind 1
pub record TextureFits (W : Source) (texture : List ℕ) : Type 0 where
  pub size : (length texture ≡ 0) ⊎ (length texture ≡ area W.sheet)
  pub lent : (i : ℕ) → i < blocks_of W.sheet → (W.record-at i).kind ≡ 1 → 0 < length texture

-- enough is lent to reading, and the count of each list, of all three sizes, is one that its patterns allow
pub record Enough (A : Aids) (L : Lent) : Type 0 where
  pub samples : most_samples ≤ length L.samples
  pub records : most_blocks ≤ length L.records
  pub lists : lists_ok A ≡ true

-- the empty sheet of the same size, and what the written records are placed with
abbrev pub emptied : Sheet → Sheet
emptied S = state_of S.n S.width S.height 0

abbrev pub material_by : Aids → Source → Material
material_by A W = material_for A W.sheet.n W.table

-- the samples after the first k of them are placed in turn, where s stood on the sheet before
abbrev pub drawn_to : Aids → Source → List ℕ → ℕ → List ℕ
drawn_to A W s k = placed_in_turn (emptied W.sheet) (material_by A W) W.record-at s k

-- the samples that placing all of them in turn on an empty sheet gives
abbrev pub placed_by : Aids → Source → List ℕ
placed_by A W = drawn_on (emptied W.sheet) (material_by A W) W.record-at

-- the bytes s read back as W: no refusal, the state and the table; the records, and the samples; past them what was there
pub record ReadsBack (W : Source) (A : Aids) (L : Lent) (s : List ℕ) : Type 0 where
  pub answer :
      answered A L s
      ≡ record { refusal = 0; line = 0; sheet = W.sheet; values = length W.table; table = sets (replicate most_values 0) 0 W.table }
  pub records : records_left A L s ≡ records_over (list_of W.record-at (blocks_of W.sheet)) L.records
  pub samples : samples_left A L s ≡ placed_by A W ++ drop (area W.sheet) L.samples
  -- `place` accepts each record on its turn, and leaves the next samples
  pub placed :
      (old : List ℕ) → length old ≡ area W.sheet → (i : ℕ) → i < blocks_of W.sheet
      → let S = emptied W.sheet in
      (place_answer (after i S) (drawn_to A W old i) (material_by A W) (W.record-at i) ≡ given (after (i + 1) S))
      × (place_after (after i S) (drawn_to A W old i) (material_by A W) (W.record-at i) ≡ drawn_to A W old (i + 1))
  -- the last ones are the samples above, whatever stood on the sheet before
  pub same : (old : List ℕ) → length old ≡ area W.sheet → drawn_to A W old (blocks_of W.sheet) ≡ placed_by A W

-- Where `write` answers the length k, the first k bytes that it leaves read back as what was written, with the same list and count for
-- the sheet's size.
abbrev pub WrittenReadsBack : Type 0
WrittenReadsBack =
    (W : Source) (A : Aids) (records k : ℕ) (old : List ℕ) (L : Lent)
    → let n = W.sheet.n in
    write_answer W (A.list n) (A.count n) records (length old) ≡ given k → TextureFits W A.texture → Enough A L
    → ReadsBack W A L (take k (write_after W (A.list n) (A.count n) records old))

-- ---- what is accepted is what is written of it

-- what was read, as it is handed to writing: the state, the table's values, and the record at each place
abbrev pub read_source : Aids → Lent → List ℕ → Source
read_source A L s =
    let back = answered A L s in
    source_of back.sheet (take back.values back.table) (record_at (records_left A L s))

-- Where `read` refuses nothing, `write` makes of what was read the same bytes: it answers their length, and past them nothing changes.
abbrev pub ReadWritesBack : Type 0
ReadWritesBack =
    (A : Aids) (L : Lent) (s old : List ℕ)
    → (answered A L s).refusal ≡ 0
    → space_for (answered A L s).values (blocks_of (answered A L s).sheet) ≤ length old
    → let n = (answered A L s).sheet.n in
    (write_answer (read_source A L s) (A.list n) (A.count n) (length (records_left A L s)) (length old) ≡ given (length s))
    × (write_after (read_source A L s) (A.list n) (A.count n) (length (records_left A L s)) old ≡ s ++ drop (length s) old)

-- ---- a composed sheet reads back

-- what `compose` answers, and the samples and records that it leaves of what is lent to it
abbrev pub composing : Sheet → Task → Lent → Answer (Sheet × ℕ)
composing S T C = compose_answer S C.samples T (length C.records)

abbrev pub samples_composed : Sheet → Task → Lent → List ℕ
samples_composed S T C = compose_after S C.samples T (length C.records)

abbrev pub records_composed : Sheet → Task → Lent → List (List ℤ)
records_composed S T C = compose_records S C.samples T C.records

-- a record on its turn, where s stood on the sheet before: `place` accepts it, and nothing that `write` checks of it fails
pub record AcceptedInTurn (S : Sheet) (M : Material) (at : ℕ → Record) (s : List ℕ) (i : ℕ) : Type 0 where
  pub placed : place_answer (after i S) (placed_in_turn S M at s i) M (at i) ≡ given (after (i + 1) S)
  pub writable : written_refusal S.n M.list M.count (length M.table) (at i) ≡ 0

-- Composing makes no record that is refused: where `compose` answers, each record that it leaves is accepted on its turn, by its checks
-- in placing and in writing, with the table that it was composed with.
abbrev pub ComposedAccepted : Type 0
ComposedAccepted =
    (S F : Sheet) (T : Task) (C : Lent) (k : ℕ) → composing S T C ≡ given (F, k)
    → (i : ℕ) → i < missing S → AcceptedInTurn S T.material (record_at (records_composed S T C)) C.samples i

-- composing a sheet of size n with the list, count and texture of A
abbrev pub task_by : Aids → ℕ → List ℕ → List ℕ → ℕ → Task
task_by A n table original reach = task_of (material_for A n table) original reach

-- what `write` leaves in the lent bytes, with the list and count of A for the sheet's size
abbrev pub written_with : Aids → Source → ℕ → List ℕ → List ℕ
written_with A W records old = write_after W (A.list W.sheet.n) (A.count W.sheet.n) records old

-- `write` takes W and answers a length; as many bytes of what it leaves read back as W, and the samples are those that were composed
pub record WrittenAndRead (W : Source) (A : Aids) (records : ℕ) (old : List ℕ) (L : Lent) (composed : List ℕ) : Type 0 where
  pub size : ℕ
  pub written : write_answer W (A.list W.sheet.n) (A.count W.sheet.n) records (length old) ≡ given size
  pub back : ReadsBack W A L (take size (written_with A W records old))
  pub samples : samples_left A L (take size (written_with A W records old)) ≡ composed ++ drop (area W.sheet) L.samples

-- Where `compose` takes a new sheet, with no block placed, and answers the finished state F, `write` takes F, the table and the composed
-- records, if space enough is lent; `read`, with the list, count and texture of composing, gives them back, and the composed samples.
abbrev pub ComposedReadsBack : Type 0
ComposedReadsBack =
    (S F : Sheet) (A : Aids) (table original : List ℕ) (reach : ℕ) (C L : Lent) (k : ℕ) (old : List ℕ)
    → let T = task_by A S.n table original reach in
    S.placed ≡ 0 → composing S T C ≡ given (F, k)
    → space_for (length table) (blocks_of F) ≤ length old → Enough A L
    → let left = records_composed S T C in
    WrittenAndRead (source_of F table (record_at left)) A (length left) old L (samples_composed S T C)

-- the records `at` of a sheet that is composed from the state S on: `place` accepted the first of them in turn on an empty sheet, where the
-- samples `old` stood before, and left the samples that are lent to composing; the others are those that `compose` leaves
pub record ComposedFrom (S : Sheet) (T : Task) (C : Lent) (old : List ℕ) (at : ℕ → Record) : Type 0 where
  pub accepted :
      (i : ℕ) → i < S.placed
      → place_answer (after i (emptied S)) (placed_in_turn (emptied S) T.material at old i) T.material (at i)
      ≡ given (after (i + 1) (emptied S))
  pub lent : C.samples ≡ placed_in_turn (emptied S) T.material at old S.placed
  pub composed : (i : ℕ) → i < missing S → at (S.placed + i) ≡ record_at (records_composed S T C) i

-- The same of a sheet on which records were placed before: they come first in the file. `records` is how many are lent to `write`.
abbrev pub ContinuedReadsBack : Type 0
ContinuedReadsBack =
    (S F : Sheet) (A : Aids) (table original : List ℕ) (reach : ℕ) (C L : Lent) (k records : ℕ) (first old : List ℕ) (at : ℕ → Record)
    → let T = task_by A S.n table original reach in
    ComposedFrom S T C first at → composing S T C ≡ given (F, k)
    → blocks_of F ≤ records → space_for (length table) (blocks_of F) ≤ length old → Enough A L
    → WrittenAndRead (source_of F table at) A records old L (samples_composed S T C)

-- all of them, for every size, list, count, table, records and texture
pub record RoundTrips : Type 0 where
  pub written_reads_back : WrittenReadsBack
  pub read_writes_back : ReadWritesBack
  pub composed_reads_back : ComposedReadsBack
  pub continued_reads_back : ContinuedReadsBack
  pub composed_accepted : ComposedAccepted
