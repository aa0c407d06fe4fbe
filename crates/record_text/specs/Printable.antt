-- The lines that can be printed.
use Rattle.std.specs.Prelude.{Bool, List, [], ◌∷◌, ℤ}
use Rattle.record_text.specs.declared.fields.SizeFields.{SizeFields}
use Rattle.record.specs.declared.Record.{Record}
use Rattle.record_text.specs.Codec.{FieldPrintable}
use Rattle.record_text.specs.Line.{size_form, size_numbers, record_form, record_numbers}

-- each field of a line has a number that can be printed
abbrev pub LinePrintable : List Bool → List ℤ → Type 0
LinePrintable [] [] = Unit {0}
LinePrintable [] (z ∷ l) = ⊥
LinePrintable (minus ∷ form) [] = ⊥
LinePrintable (minus ∷ form) (z ∷ l) = FieldPrintable minus z × LinePrintable form l

-- a size line
abbrev pub SizePrintable : SizeFields → Type 0
SizePrintable h = LinePrintable size_form (size_numbers h)

-- a record line
abbrev pub RecordPrintable : Record → Type 0
RecordPrintable r = LinePrintable record_form (record_numbers r)
