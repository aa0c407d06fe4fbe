-- Worked examples of the definitions.
use Rattle.std.specs.Prelude.{ℕ, ◌≡◌, refl, List, [], ◌∷◌, ◌++◌, pos, negsuc, take, length}
use Rattle.arith.specs.Checks.{Answer, given, refused}
use Rattle.arith.specs.Lists.{list_of}
use Rattle.depth_table.specs.Table.{table_ok, bytes, rising}
use Rattle.depth_table.specs.Examples.{sample_table}
use Rattle.pattern.specs.Words.{pattern_at, patterns_of}
use Rattle.depth_table.specs.Offset.{offset_ok, offset_usable}
use Rattle.sheet_grid.specs.Grid.{most_samples, most_blocks}
use Rattle.sheet.specs.State.{state_of}
use Rattle.record.specs.Meaning.{record_refusal}
use Rattle.record.specs.declared.Record.{Record}
use Rattle.record.specs.Record.{record_of}
use Rattle.record_text.specs.Numeral.{digits_of, further_digits, numeral, signed_numeral}
use Rattle.record_text.specs.Parsed.{exactly}
use Rattle.record_text.specs.Field.{more_digits, number, signed, number_text, signed_text}
use Rattle.record_text.specs.Line.{size_title, depth_title, record_title, size_line, size_text}
use Rattle.record_text.specs.Line.{value_line, value_text, record_line, record_text}
use Rattle.record_text.specs.Lines.{Lined, refused_at, read, many_lines, texts}
use Rattle.record_file.specs.Text.{file_text}
use Rattle.record_file.specs.Reading.{File, file_of, aids_of, Aids, size_meaning, value_meaning, file_lines, read_lengths_ok, read_file}
use Rattle.record_file.specs.Writing.{source_of, first_to, write_lengths_ok, write_refusal, write_answer}

-- document 01's file
abbrev pub sample_file : List ℕ
sample_file =
    115 ∷ 105 ∷ 122 ∷ 101 ∷ 32 ∷ 119 ∷ 105 ∷ 100 ∷ 116 ∷ 104 ∷ 32 ∷
    104 ∷ 101 ∷ 105 ∷ 103 ∷ 104 ∷ 116 ∷ 32 ∷ 118 ∷ 97 ∷ 108 ∷ 117 ∷ 101 ∷ 115 ∷ 10 ∷
    52 ∷ 32 ∷ 52 ∷ 32 ∷ 52 ∷ 32 ∷ 51 ∷ 10 ∷
    100 ∷ 101 ∷ 112 ∷ 116 ∷ 104 ∷ 10 ∷
    49 ∷ 48 ∷ 48 ∷ 10 ∷
    49 ∷ 50 ∷ 56 ∷ 10 ∷
    49 ∷ 52 ∷ 48 ∷ 10 ∷
    107 ∷ 105 ∷ 110 ∷ 100 ∷ 32 ∷ 101 ∷ 110 ∷ 116 ∷ 114 ∷ 121 ∷ 32 ∷ 111 ∷ 102 ∷ 102 ∷ 48 ∷ 32 ∷ 111 ∷ 102 ∷ 102 ∷ 49 ∷ 10 ∷
    48 ∷ 32 ∷ 48 ∷ 32 ∷ 45 ∷ 49 ∷ 32 ∷ 49 ∷ 10 ∷ []

abbrev pub sample_record : Record
sample_record = record_of 0 0 (negsuc 0) (pos 1)

-- what it is read with: the first word of the list for n = 4, no other list, and no texture
abbrev pub sample_aids : Aids
sample_aids = aids_of (65520 ∷ []) 1 [] 0 [] 0 []

abbrev reading : Aids → List ℕ → Lined File
reading A s = read_file A most_samples most_blocks s

-- a file of one block
abbrev written : List ℕ → Record → List ℕ
written table r = file_text 4 4 4 table (r ∷ [])

-- the lengths, which are judged as line 0: samples, records, the counts, also of a list that the file does not use (three words are no
-- whole pattern for n = 16)
pub record LengthCases : Type 0 where
  pub short_samples : read_file sample_aids 16383 most_blocks sample_file ≡ refused_at 2 0
  pub short_records : read_file sample_aids most_samples 1023 sample_file ≡ refused_at 2 0
  pub count_above : reading (aids_of (65520 ∷ []) 2 [] 0 [] 0 []) sample_file ≡ refused_at 2 0
  pub other_count : reading (aids_of (65520 ∷ []) 1 [] 1 [] 0 []) sample_file ≡ refused_at 2 0
  pub three_words : reading (aids_of (65520 ∷ []) 1 [] 0 (1 ∷ 1 ∷ 1 ∷ []) 1 []) sample_file ≡ refused_at 2 0

length_cases : LengthCases
unfolding read_file read_lengths_ok patterns_of list_of
length_cases = record { short_samples = refl; short_records = refl; count_above = refl; other_count = refl; three_words = refl }

-- the text of document 01's file; it is read, and other files are refused at a line
pub record ReadCases : Type 0 where
  pub text : file_text 4 4 4 sample_table (sample_record ∷ []) ≡ sample_file
  pub back : reading sample_aids sample_file ≡ read (file_of 4 4 4 sample_table (sample_record ∷ [])) []
  -- 9: no line, a last line without its end, a missing line, a byte past the last record
  pub empty : reading sample_aids [] ≡ refused_at 9 1
  pub no_last_end : reading sample_aids (take 80 sample_file) ≡ refused_at 9 8
  pub no-record : reading sample_aids (take 72 sample_file) ≡ refused_at 9 8
  pub byte_past : reading sample_aids (sample_file ++ (10 ∷ [])) ≡ refused_at 9 9
  -- line 2: 1, 8, 2, 3
  pub size : reading sample_aids (file_text 5 4 4 sample_table []) ≡ refused_at 1 2
  pub side : reading sample_aids (file_text 4 6 4 sample_table []) ≡ refused_at 8 2
  pub texture : reading (aids_of (65520 ∷ []) 1 [] 0 [] 0 (1 ∷ [])) sample_file ≡ refused_at 2 2
  pub no_values : reading sample_aids (written [] sample_record) ≡ refused_at 3 2
  -- a value's line: 3
  pub not_rising : reading sample_aids (written (100 ∷ 128 ∷ 128 ∷ []) sample_record) ≡ refused_at 3 6
  pub value_above : reading sample_aids (written (100 ∷ 256 ∷ []) sample_record) ≡ refused_at 3 5
  -- a record's line: 7, 21, 6, 4, 24, and 5 for a word with a bit from 16 up
  pub kind : reading sample_aids (written sample_table (record_of 2 0 (pos 0) (pos 0))) ≡ refused_at 7 8
  pub contour_entry : reading sample_aids (written sample_table (record_of 1 1 (pos 0) (pos 0))) ≡ refused_at 7 8
  pub no_texture : reading sample_aids (written sample_table (record_of 1 0 (pos 256) (pos 0))) ≡ refused_at 21 8
  pub entry : reading sample_aids (written sample_table (record_of 0 1 (pos 256) (pos 0))) ≡ refused_at 6 8
  pub offset : reading sample_aids (written sample_table (record_of 0 0 (pos 256) (pos 0))) ≡ refused_at 4 8
  pub unusable : reading sample_aids (written sample_table (record_of 0 0 (pos 0) (negsuc 2))) ≡ refused_at 24 8
  pub word : reading (aids_of (65536 ∷ []) 1 [] 0 [] 0 []) sample_file ≡ refused_at 5 8

read_cases : ReadCases
unfolding read_file read_lengths_ok patterns_of pattern_at list_of file_lines size_meaning value_meaning record_refusal offset_ok
    offset_usable exactly size_title depth_title record_title size_line value_line record_line many_lines number signed more_digits
    file_text size_text value_text record_text texts number_text signed_text signed_numeral numeral digits_of further_digits
read_cases =
    record {
      text = refl;
      back = refl;
      empty = refl;
      no_last_end = refl;
      no-record = refl;
      byte_past = refl;
      size = refl;
      side = refl;
      texture = refl;
      no_values = refl;
      not_rising = refl;
      value_above = refl;
      kind = refl;
      contour_entry = refl;
      no_texture = refl;
      entry = refl;
      offset = refl;
      unusable = refl;
      word = refl;
    }

-- writing document 01's file answers its length; it needs 80 + 4 * 3 + 32 bytes; 22, a block is missing
abbrev writing : ℕ → ℕ → Answer ℕ
writing placed space = write_answer (source_of (state_of 4 4 4 placed) sample_table (λ _. sample_record)) (65520 ∷ []) 1 1 space

pub record WriteCases : Type 0 where
  pub length_given : writing 1 124 ≡ given (length sample_file)
  pub short_space : writing 1 123 ≡ refused 2
  pub block_missing : writing 0 124 ≡ refused 22

write_cases : WriteCases
unfolding write_answer write_refusal write_lengths_ok table_ok bytes rising first_to list_of record_refusal offset_ok offset_usable
    size_title depth_title record_title file_text size_text value_text record_text texts number_text signed_text signed_numeral numeral
    digits_of further_digits
write_cases = record { length_given = refl; short_space = refl; block_missing = refl }
