-- Worked examples of the definitions.
use Rattle.std.specs.Prelude.{ℕ, ◌-◌, ◌≡◌, refl, List, [], ◌∷◌, ◌++◌, pos, length, take}
use Rattle.arith.specs.Bits.{bits}
use Rattle.arith.specs.Checks.{refused, given}
use Rattle.arith.specs.Distance.{clamped}
use Rattle.arith.specs.Lists.{list_of}
use Rattle.pattern.specs.Words.{pattern_at, patterns_of, in_words, word_list}
use Rattle.depth_table.specs.Examples.{sample_table}
use Rattle.depth_table.specs.Table.{nearest_to, index_of}
use Rattle.wedgelet.specs.Wedgelet.{candidate, wedgelet, holds, keep, ends, starts, wedgelet_list}
use Rattle.prediction.specs.Sides.{vert_edge, hor_edge, lt_by, br_by, lt, br, side_depth}
use Rattle.depth_table.specs.Offset.{offset_ok, offset_usable, level_of}
use Rattle.prediction.specs.Block.{sample_of, predicted}
use Rattle.sheet_grid.specs.Neighbours.{first_present, substituted_by, substituted, walked}
use Rattle.sheet_grid.specs.Samples.{written}
use Rattle.record.specs.Meaning.{record_refusal}
use Rattle.sheet.specs.Place.{placed_samples, placed_in_turn}
use Rattle.record_text.specs.Bytes.{bytes_of}
use Rattle.record_text.specs.Numeral.{digits_of, further_digits, numeral, signed_numeral}
use Rattle.record_text.specs.Parsed.{exactly}
use Rattle.record_text.specs.Field.{more_digits, number, signed, number_text, signed_text}
use Rattle.record_text.specs.Line.{size_title, depth_title, record_title, size_line, size_text}
use Rattle.record_text.specs.Line.{value_line, value_text, record_line, record_text}
use Rattle.record_text.specs.Lines.{many_lines, texts}
use Rattle.record_file.specs.Text.{file_text}
use Rattle.record_file.specs.Reading.{size_meaning, value_meaning, file_lines, read_lengths_ok, read_file}
use Rattle.record_file.specs.Examples.{sample_file}
use Rattle.show_text.specs.Printed.{sides_title, refusal_title, rows_text, sides_text, sheet_text, refusal_text}
use Rattle.show_text.specs.Showing.{size_in, aids_for, shown_text, text_bytes, show_answer}

-- what document 01 says `show` prints of its file
sample_shown :
    shown_text sample_file
    ≡ bytes_of "width height\n4 4\ndepth\n100 100 100 100\n140 140 140 140\n140 140 140 140\n140 140 140 140\n"
unfolding
    shown_text size_in aids_for word_list in_words patterns_of pattern_at sides_title rows_text sides_text sheet_text read_file
    read_lengths_ok file_lines size_meaning value_meaning record_refusal offset_ok offset_usable exactly size_title depth_title
    record_title size_line value_line record_line many_lines texts number signed more_digits number_text numeral digits_of
    further_digits bits clamped list_of nearest_to
    index_of candidate wedgelet holds keep ends starts wedgelet_list vert_edge hor_edge lt_by br_by lt br side_depth level_of sample_of
    predicted first_present substituted_by substituted walked written placed_samples placed_in_turn
sample_shown = refl

-- a file with another size or height or record
abbrev printed : ℕ → ℕ → ℕ → ℕ → ℕ → List ℕ
printed n height kind entry off0 =
    file_text n 4 height sample_table (record { kind = kind; entry = entry; off0 = pos off0; off1 = pos 0 } ∷ [])

-- no input, a last line without its end, a byte past the last record; a size that is not allowed, a height that is not, an outline without
-- texture, an entry past the list for n = 4; document 02, Ask 4: offset 200 on a table of three depths
refusals_shown :
    (shown_text [] ≡ refusal_text 9 1)
    × (shown_text (take 80 sample_file) ≡ refusal_text 9 8)
    × (shown_text (sample_file ++ (10 ∷ [])) ≡ refusal_text 9 9)
    × (shown_text (printed 5 4 0 0 0) ≡ refusal_text 1 2)
    × (shown_text (printed 4 6 0 0 0) ≡ refusal_text 8 2)
    × (shown_text (printed 4 4 1 0 0) ≡ refusal_text 21 8)
    × (shown_text (printed 4 4 0 74 0) ≡ refusal_text 6 8)
    × (shown_text (printed 4 4 0 0 200) ≡ refusal_text 24 8)
unfolding
    shown_text size_in aids_for word_list in_words patterns_of pattern_at list_of read_file read_lengths_ok file_lines size_meaning
    value_meaning record_refusal offset_ok offset_usable exactly size_title depth_title record_title size_line value_line record_line
    many_lines texts number signed more_digits number_text numeral digits_of further_digits bits candidate wedgelet holds keep
    ends starts wedgelet_list
    file_text size_text value_text record_text signed_text signed_numeral
refusals_shown = (refl, refl, refl, refl, refl, refl, refl, refl)

-- a refusal
refusal_example : refusal_text 9 1 ≡ bytes_of "refusal line\n9 1\n"
unfolding refusal_text refusal_title number_text numeral digits_of further_digits
refusal_example = refl

-- the lent space: one byte too few, whatever the file, and enough
space_short : show_answer sample_file (text_bytes - 1) ≡ refused 2
unfolding show_answer
space_short = refl

space_enough : show_answer sample_file text_bytes ≡ given (length (shown_text sample_file))
unfolding show_answer
space_enough = refl
