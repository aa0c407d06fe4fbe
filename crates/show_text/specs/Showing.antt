-- Document 01, "House file": what `show` prints of a file.
use Rattle.std.specs.Prelude.{ℕ, suc, ◌+◌, ◌*◌, cond, List, [], ◌∷◌, ◌++◌, eqb, leb, length, drop}
use Rattle.arith.specs.Checks.{refusal, Answer, answer, lent}
use Rattle.pattern.specs.Size.{greatest_size}
use Rattle.pattern.specs.Words.{word_list}
use Rattle.depth_table.specs.Table.{most_values}
use Rattle.sheet_grid.specs.Grid.{most_samples, most_blocks}
use Rattle.wedgelet.specs.Wedgelet.{wedgelet_list}
use Rattle.record_text.specs.declared.fields.SizeFields.{SizeFields}
use Rattle.record_text.specs.Parsed.{Parsed, bad_form, found, and_then, exactly}
use Rattle.record_text.specs.Line.{size_title, size_line}
use Rattle.record_text.specs.Lines.{Lined, refused_at, read}
use Rattle.record_file.specs.Reading.{File, Aids, aids_of, read_file}
use Rattle.record_file.specs.Writing.{space_for}
use Rattle.record_read.specs.Back.{samples_in}
use Rattle.show_text.specs.Printed.{sheet_text, refusal_text}

-- n of a size line, 0 where there is none
abbrev pub size_by : Parsed SizeFields → ℕ
size_by bad_form = 0
size_by (found z s) = z.n

-- the size in a file: n of line 2 where lines 1 and 2 have their form, else 0
unfoldable pub size_in : List ℕ → ℕ
size_in s = size_by (and_then (exactly size_title s) (λ _ t. size_line t))

-- what a file is read with where a list and its count are lent for size n alone, with none for the other sizes and no texture
abbrev pub aids_alone : ℕ → List ℕ → ℕ → Aids
aids_alone n words count =
    aids_of (cond (eqb n 4) words []) (cond (eqb n 4) count 0)
    (cond (eqb n 8) words []) (cond (eqb n 8) count 0)
    (cond (eqb n greatest_size) words []) (cond (eqb n greatest_size) count 0) []

-- What a file of size n is read with: the wedgelet list (document 01: the edge list) for n and its count. For a size that is not allowed
-- there is no list, and the file is refused before a record is read.
unfoldable pub aids_for : ℕ → Aids
aids_for n = aids_alone n (word_list n (wedgelet_list n)) (length (wedgelet_list n))

-- the text of what reading found
abbrev pub text_by : Aids → Lined File → List ℕ
text_by A (refused_at number line) = refusal_text number line
text_by A (read F s) = sheet_text F.width F.height (samples_in A F)

-- a file read as `show` reads it: with as many samples and records lent as a sheet can have
abbrev pub read_with : Aids → List ℕ → Lined File
read_with A s = read_file A most_samples most_blocks s

-- what is shown of the bytes of a file
unfoldable pub shown_text : List ℕ → List ℕ
shown_text s = let A = aids_for (size_in s) in text_by A (read_with A s)

-- the bytes that the longest sound file can need, which has 256 table values
abbrev pub file_space : ℕ
file_space = space_for most_values most_blocks

-- the bytes of its input that `show` reads: one more
abbrev pub file_bytes : ℕ
file_bytes = suc file_space

-- ---- the call

-- the bytes of the longest text that is ever shown: 27 before the rows, and 4 for each sample
abbrev pub text_bytes : ℕ
text_bytes = 27 + 4 * most_samples

-- 2: the lent space is shorter than that, whatever the file
abbrev pub show_refusal : ℕ → ℕ
show_refusal space = refusal ((leb text_bytes space, 2) ∷ []) 0

-- `show_text` answers the text's length
unfoldable pub show_answer : List ℕ → ℕ → Answer ℕ
show_answer s space = answer (show_refusal space) (length (shown_text s))

-- the lent bytes afterwards: the text, and past it the old content
unfoldable pub show_after : List ℕ → List ℕ → List ℕ
show_after s old = lent (show_refusal (length old)) (shown_text s ++ drop (length (shown_text s)) old) old
