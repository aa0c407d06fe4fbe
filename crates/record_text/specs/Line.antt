-- The lines of the record file, read and printed.
use Rattle.std.specs.Prelude.{ℕ, List, [], ◌∷◌, ◌++◌, Bool, true, false, cond, ℤ, pos, nat_abs, get_or}
use Rattle.record_text.specs.declared.fields.SizeFields.{SizeFields}
use Rattle.record.specs.declared.Record.{Record}
use Rattle.record_text.specs.Bytes.{bytes_of}
use Rattle.record_text.specs.Parsed.{Parser, found, more, mapped}
use Rattle.record_text.specs.Field.{number, signed, number_text, signed_text}

-- ---- the lines of titles

-- over the size
unfoldable pub size_title : List ℕ
size_title = bytes_of "size width height values\n"

-- over the table values
unfoldable pub depth_title : List ℕ
depth_title = bytes_of "depth\n"

-- over the records
unfoldable pub record_title : List ℕ
record_title = bytes_of "kind entry off0 off1\n"

-- ---- a line of fields, its form a list that says of each whether a minus may stand in it

-- the byte after a field: 10 after the last of a line, else a space
abbrev pub end_byte : Bool → ℕ
end_byte last = cond last 10 32

-- the same, by the fields that follow
abbrev pub end_of : {A : Type 0} → List A → ℕ
end_of [] = end_byte true
end_of (a ∷ others) = end_byte false

-- the line read
abbrev pub line_of : List Bool → Parser (List ℤ)
line_of [] s = found [] s
line_of (minus ∷ form) s = more (signed minus (end_of form)) (line_of form) s

-- the line printed
abbrev pub line_text : List ℤ → List ℕ
line_text [] = []
line_text (z ∷ others) = signed_text (end_of others) z ++ line_text others

-- number k of a line
abbrev pub number_at : List ℤ → ℕ → ℤ
number_at l k = get_or l k (pos 0)

-- a line of four fields, with `minus` for the last two
abbrev pub four_form : Bool → List Bool
four_form minus = false ∷ false ∷ minus ∷ minus ∷ []

-- ---- the line of the size: n, width, height and the table count

-- no field has a minus
abbrev pub size_form : List Bool
size_form = four_form false

-- its numbers by name
abbrev pub size_named : List ℤ → SizeFields
size_named l = record {
  n = nat_abs (number_at l 0);
  width = nat_abs (number_at l 1);
  height = nat_abs (number_at l 2);
  values = nat_abs (number_at l 3);
}

-- and in their order
abbrev pub size_numbers : SizeFields → List ℤ
size_numbers h = pos h.n ∷ pos h.width ∷ pos h.height ∷ pos h.values ∷ []

-- the line read
unfoldable pub size_line : Parser SizeFields
size_line = mapped size_named (line_of size_form)

-- the line printed
unfoldable pub size_text : SizeFields → List ℕ
size_text h = line_text (size_numbers h)

-- ---- the line of a table value

-- the line read
unfoldable pub value_line : Parser ℕ
value_line = number 10

-- the line printed
unfoldable pub value_text : ℕ → List ℕ
value_text v = number_text 10 v

-- ---- the line of a record: kind, entry and the two offsets, in which a minus may stand

-- the last two may have one
abbrev pub record_form : List Bool
record_form = four_form true

-- its numbers by name
abbrev pub record_named : List ℤ → Record
record_named l = record { kind = nat_abs (number_at l 0); entry = nat_abs (number_at l 1); off0 = number_at l 2; off1 = number_at l 3 }

-- and in their order
abbrev pub record_numbers : Record → List ℤ
record_numbers r = pos r.kind ∷ pos r.entry ∷ r.off0 ∷ r.off1 ∷ []

-- the line read
unfoldable pub record_line : Parser Record
record_line = mapped record_named (line_of record_form)

-- the line printed
unfoldable pub record_text : Record → List ℕ
record_text r = line_text (record_numbers r)
