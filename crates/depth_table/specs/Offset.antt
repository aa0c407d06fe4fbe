-- Document 01, "Predicted block": offsets, and the table value at a depth's index plus an offset.
use Rattle.std.specs.Prelude.{ℕ, Bool, ◌&&◌, List, [], ◌∷◌, leb, ltb, ℤ, nat_abs, length, get_or}
use Rattle.arith.specs.Distance.{clamped}
use Rattle.depth_table.specs.Table.{index_of}

-- an offset is -255 to 255; refusal 4 is given where this does not hold
unfoldable pub offset_ok : ℤ → Bool
offset_ok off = leb (nat_abs off) 255

-- Document 02, Ask 4: an offset that a table of so many values can use has an absolute value below their number; refusal 24 is given
-- where this does not hold
unfoldable pub offset_usable : ℕ → ℤ → Bool
offset_usable values off = ltb (nat_abs off) values

-- both of two offsets are allowed
abbrev pub offsets_ok : ℤ → ℤ → Bool
offsets_ok off0 off1 = offset_ok off0 && offset_ok off1

-- a table of so many values can use both of them
abbrev pub offsets_usable : ℕ → ℤ → ℤ → Bool
offsets_usable values off0 off1 = offset_usable values off0 && offset_usable values off1

-- what is checked of two offsets where the table has so many values: both for 4, then both for 24
abbrev pub offset_checks : ℕ → ℤ → ℤ → List (Bool × ℕ)
offset_checks values off0 off1 = (offsets_ok off0 off1, 4) ∷ (offsets_usable values off0 off1, 24) ∷ []

-- the table value at an index plus an offset, clamped (document 01: held) to 0 .. table count - 1
abbrev pub value_of : List ℕ → ℕ → ℤ → ℕ
value_of t i off = get_or t (clamped (length t) i off) 0

-- the table value at: the index of the depth d, plus the offset, clamped
unfoldable pub level_of : List ℕ → ℕ → ℤ → ℕ
level_of t d off = value_of t (index_of t d) off
