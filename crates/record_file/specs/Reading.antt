-- Document 01, "House file": reading the text, line by line.
use Rattle.std.specs.Prelude.{ℕ, suc, ◌+◌, ◌*◌, ◌≤◌, Bool, true, ◌&&◌, ◌≡◌, List, [], ◌∷◌, leb, ltb, length}
use Rattle.arith.specs.Checks.{refusal}
use Rattle.depth_table.specs.Table.{most_values}
use Rattle.pattern.specs.Size.{size_ok, each_size, for_size}
use Rattle.pattern.specs.Words.{patterns_of}
use Rattle.pattern.specs.Answer.{count_ok, texture_ok, textured}
use Rattle.sheet_grid.specs.Grid.{most_samples, most_blocks, blocks}
use Rattle.sheet.specs.State.{state_of, sides_ok}
use Rattle.record.specs.Meaning.{record_refusal}
use Rattle.record_text.specs.declared.fields.SizeFields.{SizeFields}
use Rattle.record.specs.declared.Record.{Record}
use Rattle.record_file.specs.declared.lists.ReadInput.{ReadInput}
use Rattle.record_text.specs.Parsed.{exactly}
use Rattle.record_text.specs.Line.{size_title, depth_title, record_title, size_line, value_line, record_line}
use Rattle.record_text.specs.Lines.{Lined, read, judged, line, lines_then, no_meaning, many_lines, ended}

-- what a file holds
pub record File : Type 0 where
  pub n : ℕ
  pub width : ℕ
  pub height : ℕ
  pub table : List ℕ
  pub records : List Record

abbrev pub file_of : ℕ → ℕ → ℕ → List ℕ → List Record → File
file_of n width height table records = record { n = n; width = width; height = height; table = table; records = records }

-- a file is read with a wedgelet list (document 01: edge list) for each size n, its patterns and their count, and with texture; no
-- texture is the empty list
pub record Aids : Type 0 where
  pub list : ℕ → List ℕ
  pub count : ℕ → ℕ
  pub texture : List ℕ

-- the lists are lent as words, one for each of the sizes 4, 8 and 16
abbrev pub aids_of : List ℕ → ℕ → List ℕ → ℕ → List ℕ → ℕ → List ℕ → Aids
aids_of words4 count4 words8 count8 words16 count16 texture =
    record {
      list = λ n. patterns_of n (for_size n words4 words8 words16);
      count = λ n. for_size n count4 count8 count16;
      texture = texture;
    }

-- the same from what a call is lent
abbrev pub aids_in : ReadInput → Aids
aids_in I = aids_of I.list4.words.now I.list4.count I.list8.words.now I.list8.count I.list16.words.now I.list16.count I.texture.now

-- every list's count is one that its patterns and 9,999 allow
abbrev pub lists_ok : Aids → Bool
lists_ok A = each_size (λ n. count_ok (length (A.list n)) (A.count n))

-- the meaning of line 2. 1: the size; 8: a side; 2: texture neither empty nor of the sheet's size; 3: the table count
abbrev pub size_checks : ℕ → SizeFields → List (Bool × ℕ)
size_checks texture z =
    (size_ok z.n, 1) ∷ (sides_ok (state_of z.n z.width z.height 0), 8) ∷ (texture_ok texture (z.width * z.height), 2)
    ∷ (leb 1 z.values && leb z.values most_values, 3) ∷ []

unfoldable pub size_meaning : ℕ → SizeFields → ℕ
size_meaning texture z = refusal (size_checks texture z) 0

-- the meaning of a value's line, where low is one more than the value before it. 3: above 255, or not rising
unfoldable pub value_meaning : ℕ → ℕ → ℕ
value_meaning low v = refusal ((ltb v 256 && leb low v, 3) ∷ []) 0

abbrev pub low_after : ℕ → ℕ → ℕ
low_after low v = suc v

-- the meaning of a record's line for blocks of size n, where the file's table has so many values: 7, 21, 6, 5, 4, 24; no line depends on
-- the records before it
abbrev pub record_line_meaning : ℕ → Aids → ℕ → Unit {0} → Record → ℕ
record_line_meaning n A values c r = record_refusal n (A.list n) (A.count n) (textured A.texture) values r

abbrev pub unchanged : Unit {0} → Record → Unit {0}
unchanged c r = c

-- m table values from line k on, and m records from line k on
abbrev pub value_lines : ℕ → ℕ → List ℕ → Lined (List ℕ)
value_lines m k s = many_lines value_line value_meaning low_after m k 0 s

abbrev pub record_lines : ℕ → Aids → ℕ → ℕ → ℕ → List ℕ → Lined (List Record)
record_lines n A values m k s = many_lines record_line (record_line_meaning n A values) unchanged m k tt s

-- m records from line k on, and nothing after them: what is left is the line after the last
abbrev pub last_lines : ℕ → Aids → ℕ → ℕ → ℕ → List ℕ → Lined (List Record)
last_lines n A values m k s = lines_then (record_lines n A values m k s) λ records s. ended (k + m) records s

-- the first three lines
abbrev pub head_lines : ℕ → List ℕ → Lined SizeFields
head_lines texture s =
    line 1 (exactly size_title s) no_meaning λ _ s.
    line 2 (size_line s) (size_meaning texture) λ z s.
    line 3 (exactly depth_title s) no_meaning λ _ s.
    read z s

-- the table values, and the title after them
abbrev pub table_lines : SizeFields → List ℕ → Lined (SizeFields × List ℕ)
table_lines z s =
    lines_then (value_lines z.values 4 s) λ table s.
    line (4 + z.values) (exactly record_title s) no_meaning λ _ s.
    read (z, table) s

-- the lines before the records: the size, the table values and a title
abbrev pub front_lines : ℕ → List ℕ → Lined (SizeFields × List ℕ)
front_lines texture s = lines_then (head_lines texture s) λ z s. table_lines z s

abbrev pub blocks_in : SizeFields → ℕ
blocks_in z = blocks z.n z.width z.height

-- the records after line 4 + values, and nothing after them
abbrev pub rest_lines : Aids → SizeFields → List ℕ → Lined (List Record)
rest_lines A z s = last_lines z.n A z.values (blocks_in z) (5 + z.values) s

-- the whole text
unfoldable pub file_lines : Aids → List ℕ → Lined File
file_lines A s =
    lines_then (front_lines (length A.texture) s) λ f s.
    lines_then (rest_lines A f.0 s) λ records s.
    read (file_of f.0.n f.0.width f.0.height f.1 records) s

-- reading is lent 16,384 samples, 1,024 records, and three lists; those of the sizes that the file does not have are judged too
unfoldable pub read_lengths_ok : ℕ → ℕ → Bool → Bool
read_lengths_ok samples records lists = leb most_samples samples && (leb most_blocks records && lists)

-- reading a file: the lengths are judged first, as line 0
unfoldable pub read_file : Aids → ℕ → ℕ → List ℕ → Lined File
read_file A samples records s =
    judged (refusal ((read_lengths_ok samples records (lists_ok A), 2) ∷ []) 0) 0 (file_lines A s)

-- the lengths where they are not refused
pub record ReadLengths (samples records : ℕ) (A : Aids) : Type 0 where
  pub samples_lent : most_samples ≤ samples
  pub records_lent : most_blocks ≤ records
  pub inside : (n : ℕ) → size_ok n ≡ true → A.count n ≤ length (A.list n)
  pub few : (n : ℕ) → size_ok n ≡ true → A.count n ≤ 9999
