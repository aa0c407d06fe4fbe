-- Writing a text at a place of lent bytes: all of it where there is room, else nothing.
use Rattle.std.specs.Prelude.{ℕ, ◌+◌, ◌≤◌, ◌≡◌, Bool, true, cond, ◌&&◌, List, [], ◌∷◌, leb, ltb, ℤ, nat_abs, length, take}
use Rattle.std.proofs.lemmas.List.Edits.{sets}
use Rattle.record_print.specs.declared.cursor.Cursor.{Cursor}
use Rattle.record_text.specs.declared.fields.SizeFields.{SizeFields}
use Rattle.record.specs.declared.Record.{Record}
use Rattle.record_text.specs.Numeral.{numeral_end}
use Rattle.record_text.specs.Line.{size_numbers, record_numbers}

-- the bytes afterwards: `sets` puts the text's bytes in turn from the place on
abbrev pub pasted : List ℕ → ℕ → List ℕ → List ℕ
pasted old at text = cond (leb (at + length text) (length old)) (sets old at text) old

-- the place afterwards: past the text, or the same where there is no room
abbrev pub pasted_end : List ℕ → ℕ → List ℕ → ℕ
pasted_end old at text = cond (leb (at + length text) (length old)) (at + length text) at

-- a text is written at a cursor, and next is the cursor after it
pub record Put (old new : List ℕ) (from : Cursor) (text : List ℕ) (next : Cursor) : Type 0 where
  pub lent : new ≡ pasted old from.at text
  pub place : next.at ≡ pasted_end old from.at text

-- the same of a text for which there is room
pub record Written (old new : List ℕ) (at : ℕ) (text : List ℕ) (next : ℕ) : Type 0 where
  pub lent : new ≡ sets old at text
  pub place : next ≡ at + length text

-- the same of a text made from the start of bytes of its own: `len` of them are the text. No proof of the code uses it, only the laws of
-- proofs/Uncited.antt do.
pub record Made (bytes text : List ℕ) (len : ℕ) : Type 0 where
  pub inside : len ≤ length bytes
  pub is : take len bytes ≡ text

-- a text of values that can be printed, else no text
abbrev pub printed_if : Bool → List ℕ → List ℕ
printed_if printable text = cond printable text []

-- whether a number has a numeral
abbrev pub number_printable : ℕ → Bool
number_printable n = ltb n numeral_end

-- whether a signed number has one behind its sign
abbrev pub signed_printable : ℤ → Bool
signed_printable z = ltb (nat_abs z) numeral_end

-- whether each number of a line has one
abbrev pub line_printable : List ℤ → Bool
line_printable [] = true
line_printable (z ∷ others) = signed_printable z && line_printable others

-- of a size line
unfoldable pub size_printable : SizeFields → Bool
size_printable h = line_printable (size_numbers h)

-- of a record line
unfoldable pub record_printable : Record → Bool
record_printable r = line_printable (record_numbers r)
