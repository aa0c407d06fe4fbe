-- Document 01, "House file": what reading answers, and what it leaves of what is lent.
use Rattle.std.specs.Prelude.{ℕ, ◌*◌, List, map, ◌++◌, ◌≡◌, ℤ, length, get_or, drop, replicate, Result, Ok, Err}
use Rattle.std.proofs.lemmas.List.Edits.{sets}
use Rattle.depth_table.specs.Table.{most_values}
use Rattle.record.specs.declared.Record.{Record}
use Rattle.record.specs.Record.{no_record}
use Rattle.record.specs.Lent.{fields_of}
use Rattle.sheet.specs.declared.Sheet.{Sheet}
use Rattle.sheet.specs.State.{state_of, area, blocks_of, finished}
use Rattle.sheet.specs.Place.{Material, material_of, placed_in_turn}
use Rattle.record_text.specs.Lines.{Lined, refused_at, read}
use Rattle.record_file.specs.Reading.{File, Aids, read_file}
use Rattle.pattern.specs.Refusal.{number_of}
use Rattle.record_read.specs.declared.reading.FileBack.{FileBack}
use Rattle.record_read.specs.declared.lines.LineRefusal.{LineRefusal}

-- the empty sheet that the records are placed on, what they are placed with, and which they are
abbrev pub empty_sheet : File → Sheet
empty_sheet F = state_of F.n F.width F.height 0

abbrev pub material_for : Aids → ℕ → List ℕ → Material
material_for A n table = material_of (A.list n) (A.count n) table A.texture

abbrev pub material_in : Aids → File → Material
material_in A F = material_for A F.n F.table

abbrev pub in_turn : List Record → ℕ → Record
in_turn l k = get_or l k no_record

-- the samples that placing a record for each block in turn gives, on an empty sheet
abbrev pub drawn_on : Sheet → Material → (ℕ → Record) → List ℕ
drawn_on S M records = placed_in_turn S M records (replicate (area S) 0) (blocks_of S)

-- the samples that placing a file's records in turn on an empty sheet gives
abbrev pub samples_in : Aids → File → List ℕ
samples_in A F = drawn_on (empty_sheet F) (material_in A F) (in_turn F.records)

-- the lent samples: the sheet's in the first places, whatever stood there; past them nothing changes
unfoldable pub samples_back : Aids → File → List ℕ → List ℕ
samples_back A F old = samples_in A F ++ drop (F.width * F.height) old

-- the lent records: those of a list in the first places; past them nothing changes
abbrev pub records_over : List Record → List (List ℤ) → List (List ℤ)
records_over l old = map fields_of l ++ drop (length l) old

abbrev pub records_back : File → List (List ℤ) → List (List ℤ)
records_back F old = records_over F.records old

-- what is lent afterwards: a refusal leaves it as it was
abbrev pub leaving : {X : Type 0} → Lined File → (File → X) → X → X
leaving (refused_at n k) new old = old
leaving (read F s) new old = new F

-- what reading answers: the number of a refusal (0 for none) and its line; where there is none, the finished state, the table and its
-- count
pub record Back : Type 0 where
  pub refusal : ℕ
  pub line : ℕ
  pub sheet : Sheet
  pub values : ℕ
  pub table : List ℕ

-- the answer where a line is refused
abbrev pub refused_back : ℕ → ℕ → Back
refused_back n k = record { refusal = n; line = k; sheet = state_of 0 0 0 0; values = 0; table = replicate most_values 0 }

-- a table's values before zeros, in an array of 256 bytes
abbrev pub before_zeros : List ℕ → List ℕ
before_zeros table = sets (replicate most_values 0) 0 table

-- what the code's answer says
abbrev pub back_told : Result FileBack LineRefusal → Back
back_told (Ok b) = record { refusal = 0; line = 0; sheet = b.sheet; values = b.values; table = b.table }
back_told (Err e) = refused_back (number_of e.refusal) e.line

-- the answer: the number of a refusal and its line, or the finished state and the table, its values before zeros, with its count
abbrev pub file_back : Lined File → Back
file_back (refused_at n k) = refused_back n k
file_back (read F s) =
    record {
      refusal = 0;
      line = 0;
      sheet = finished (empty_sheet F);
      values = length F.table;
      table = before_zeros F.table;
    }

-- ---- the call

-- what is lent to reading: samples, and records
pub record Lent : Type 0 where
  pub samples : List ℕ
  pub records : List (List ℤ)

abbrev pub lent_of : List ℕ → List (List ℤ) → Lent
lent_of samples records = record { samples = samples; records = records }

-- what `read` makes of the bytes s
abbrev pub reading : Aids → Lent → List ℕ → Lined File
reading A L s = read_file A (length L.samples) (length L.records) s

-- all that follows where reading makes x of the bytes: the answer, and what is lent afterwards
pub record Leaves (A : Aids) (x : Lined File) (before : Lent) (r : Back) (after : Lent) : Type 0 where
  pub answered : r ≡ file_back x
  pub kept : after.records ≡ leaving x (λ F. records_back F before.records) before.records
  pub drawn : after.samples ≡ leaving x (λ F. samples_back A F before.samples) before.samples

-- all that the call does
abbrev pub Reads : Aids → Lent → List ℕ → Back → Lent → Type 0
Reads A before s r after = Leaves A (reading A before s) before r after
