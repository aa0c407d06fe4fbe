-- Document 01, "House file": the text that `show` prints of a sheet and of a refusal.
use Rattle.std.specs.Prelude.{ℕ, ◌+◌, ◌*◌, ◌%◌, List, ◌++◌, eqb, get_or}
use Rattle.arith.specs.Lists.{list_of}
use Rattle.record_text.specs.Bytes.{bytes_of}
use Rattle.record_text.specs.Field.{number_text}
use Rattle.record_text.specs.Line.{depth_title, end_byte}
use Rattle.record_text.specs.Lines.{texts}

-- the titles of the two
unfoldable pub sides_title : List ℕ
sides_title = bytes_of "width height\n"

unfoldable pub refusal_title : List ℕ
refusal_title = bytes_of "refusal line\n"

-- two numbers on a line
abbrev pub pair_text : ℕ → ℕ → List ℕ
pair_text a b = number_text 32 a ++ number_text 10 b

-- the byte after sample i in rows of `width` samples
abbrev pub byte_after : ℕ → ℕ → ℕ
byte_after width i = end_byte (eqb ((i + 1) % width) 0)

-- sample i and the byte after it
abbrev pub sample_text : ℕ → List ℕ → ℕ → List ℕ
sample_text width samples i = number_text (byte_after width i) (get_or samples i 0)

-- the sample rows
unfoldable pub rows_text : ℕ → ℕ → List ℕ → List ℕ
rows_text width height samples = texts (sample_text width samples) (list_of (λ i. i) (width * height))

-- the lines before the rows
unfoldable pub sides_text : ℕ → ℕ → List ℕ
sides_text width height = sides_title ++ (pair_text width height ++ depth_title)

-- a sheet: width and height, then the sample rows
unfoldable pub sheet_text : ℕ → ℕ → List ℕ → List ℕ
sheet_text width height samples = sides_text width height ++ rows_text width height samples

-- a refusal: the line `refusal line`, then its number and the file line
unfoldable pub refusal_text : ℕ → ℕ → List ℕ
refusal_text number line = refusal_title ++ pair_text number line
