-- Document 01, "House file": the text of a record file.
use Rattle.std.specs.Prelude.{ℕ, List, ◌++◌, length}
use Rattle.record.specs.declared.Record.{Record}
use Rattle.record_text.specs.declared.fields.SizeFields.{SizeFields}
use Rattle.record_text.specs.Line.{size_title, depth_title, record_title, size_text, value_text, record_text}
use Rattle.record_text.specs.Lines.{texts}

abbrev pub size_fields_of : ℕ → ℕ → ℕ → ℕ → SizeFields
size_fields_of n width height values = record { n = n; width = width; height = height; values = values }

-- the first three lines
unfoldable pub head_text : ℕ → ℕ → ℕ → ℕ → List ℕ
head_text n width height values = size_title ++ (size_text (size_fields_of n width height values) ++ depth_title)

-- the titles, n, width, height and the table count, the table values, and a record for each block in sheet order
unfoldable pub file_text : ℕ → ℕ → ℕ → List ℕ → List Record → List ℕ
file_text n width height table records =
    size_title
    ++ (size_text (size_fields_of n width height (length table))
    ++ (depth_title
    ++ (texts value_text table
    ++ (record_title
    ++ texts record_text records))))
