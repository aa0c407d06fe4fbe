-- The lines before the records, and the lines of the records, one step a line: its record is placed on the sheet so far.
use Rattle.std.specs.Prelude.{ℕ, ◌+◌, ◌≤◌, List, [], ◌≡◌, ℤ, map, length, Result, Ok, Err, IfOk}
use Rattle.pattern.specs.Refusal.{number_of}
use Rattle.pattern.specs.Words.{patterns_of}
use Rattle.record.specs.declared.Record.{Record}
use Rattle.record.specs.Lent.{fields_of}
use Rattle.sheet.specs.State.{area, after, blocks_of, finished}
use Rattle.sheet.specs.declared.PlaceInput.{PlaceInput}
use Rattle.sheet.specs.declared.Sheet.{Sheet}
use Rattle.sheet.specs.Place.{Material, Fits, placed_samples, placed_in_turn}
use Rattle.sheet.specs.Told.{material_in}
use Rattle.record_text.specs.declared.fields.SizeFields.{SizeFields}
use Rattle.record_text.specs.Line.{record_line}
use Rattle.record_text.specs.Lines.{Lined, refused_at, read, line, lines_then}
use Rattle.record_file.specs.Text.{size_fields_of}
use Rattle.record_file.specs.Reading.{File, file_of, Aids, size_meaning, record_line_meaning, front_lines, last_lines}
use Rattle.record_read.specs.Back.{in_turn}
use Rattle.record_read.specs.Told.{lined_by}
use Rattle.record_read.specs.declared.blocks.Reading.{Reading}
use Rattle.record_read.specs.declared.front.Front.{Front}
use Rattle.record_read.specs.declared.lines.LineRefusal.{LineRefusal}

-- what a file is read with where one list, lent as words, and its count stand for each size
abbrev pub one_list : List ℕ → ℕ → List ℕ → Aids
one_list words count texture = record { list = λ n. patterns_of n words; count = λ n. count; texture = texture }

-- the meaning of a record's line, from what records are placed with
abbrev pub meaning_in : Sheet → PlaceInput → Record → ℕ
meaning_in S I f = record_line_meaning S.n (one_list I.list.words.now I.list.count I.texture.now) (length I.table.now) tt f

-- ---- one block

-- where reading then is, with the samples; of a refusal only its number and line are said
abbrev pub Stood : Material → Reading → List ℕ → List ℕ → Result (Record × Reading) LineRefusal → Type 0
Stood M r old new (Ok p) =
    (p.1.line ≡ r.line + 1) × (p.1.sheet ≡ after 1 r.sheet) × (new ≡ placed_samples r.sheet M old p.0)
Stood M r old new (Err e) = Unit {0}

-- a step from r, where the samples are old before and new afterwards
pub record Steps (I : PlaceInput) (r : Reading) (old new : List ℕ) (t : Result (Record × Reading) LineRefusal) : Type 0 where
  pub told : lined_by (λ p. p.0) (λ p. p.1.rest.now) t ≡ line r.line (record_line r.rest.now) (meaning_in r.sheet I) read
  pub stood : Stood (material_in r.sheet.n I) r old new t

-- ---- all blocks of an empty sheet, and the end of the bytes

-- before the first of them, with so many samples and records lent
pub record Begun (I : PlaceInput) (r : Reading) (samples records : ℕ) : Type 0 where
  pub empty : r.sheet.placed ≡ 0
  pub placeable : Fits r.sheet (material_in r.sheet.n I) samples
  pub room : blocks_of r.sheet ≡ records
  pub low : r.line ≤ 1000

abbrev pub block_lines : Aids → ℕ → Reading → Lined (List Record)
block_lines A values r = last_lines r.sheet.n A values (blocks_of r.sheet) r.line r.rest.now

-- the samples and the records that are left once all records are placed in turn and stored
abbrev pub Left : Type 0
Left = List ℕ × List (List ℤ)

abbrev pub placed_all : Material → Sheet → List ℕ → List Record → Left
placed_all M S samples l = (placed_in_turn S M (in_turn l) samples (blocks_of S), map fields_of l)

-- all steps from r, with the samples before, and what is left of samples and records
pub record ReadsAll (I : PlaceInput) (r : Reading) (samples : List ℕ) (new : Left) (t : Result Sheet LineRefusal) : Type 0 where
  pub told :
      let A = one_list I.list.words.now I.list.count I.texture.now in
      let placed = placed_all (material_in r.sheet.n I) r.sheet samples in
      lined_by (λ _. new) (λ _. []) t ≡ lines_then (block_lines A (length I.table.now) r) (λ l s. read (placed l) s)
  pub done : IfOk t (λ S. S ≡ finished r.sheet)

-- ---- the lines before the records

-- the table, and the size line's numbers
abbrev pub table_of : Front → List ℕ
table_of f = f.table.items

abbrev pub front_size : Front → SizeFields
front_size f = size_fields_of f.sheet.n f.sheet.width f.sheet.height (length (table_of f))

-- a sound size line before an empty sheet, with as many table values as it tells of
pub record FrontSound (texture : ℕ) (f : Front) : Type 0 where
  pub size : size_meaning texture (front_size f) ≡ 0
  pub empty : f.sheet.placed ≡ 0

-- what the lines before the records hold, where those are read from the bytes s
pub record FrontRead (texture : ℕ) (s : List ℕ) (f : Front) : Type 0 where
  pub is : read (front_size f, table_of f) f.rest.now ≡ front_lines texture s
  pub sound : FrontSound texture f

-- the answer to the lines at the front of the bytes s
abbrev pub FrontIs : ℕ → List ℕ → Result Front LineRefusal → Type 0
FrontIs texture s (Ok f) = FrontRead texture s f
FrontIs texture s (Err e) = refused_at (number_of e.refusal) e.line ≡ front_lines texture s

-- the count is one that the list's patterns and 9,999 allow
pub record Counted (A : Aids) (n : ℕ) : Type 0 where
  pub inside : A.count n ≤ length (A.list n)
  pub few : A.count n ≤ 9999

-- ---- the records after them

-- where reading then is
abbrev pub begun_at : Front → Reading
begun_at f = record { rest = f.rest; line = 5 + length (table_of f); sheet = f.sheet }

-- so many samples and records have room for the sheet
pub record HasRoom (f : Front) (samples records : ℕ) : Type 0 where
  pub samples_inside : area f.sheet ≤ samples
  pub records_in : blocks_of f.sheet ≤ records

-- the file that the lines after them give
abbrev pub with_front : Front → Lined (List Record) → Lined File
with_front f x = lines_then x (λ l v. read (file_of f.sheet.n f.sheet.width f.sheet.height (table_of f) l) v)

abbrev pub sheet_lines : Aids → Front → Lined File
sheet_lines A f = with_front f (block_lines A (length (table_of f)) (begun_at f))
