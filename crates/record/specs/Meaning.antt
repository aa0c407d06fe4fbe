-- What a record means, and what is checked of it.
use Rattle.std.specs.Prelude.{ℕ, zero, suc, ◌<◌, Bool, true, false, List, [], ◌∷◌, ◌⊎◌, ◌≡◌, eqb, ltb, get_or}
use Rattle.arith.specs.Checks.{refusal, Answer, answer}
use Rattle.pattern.specs.Size.{word_ok}
use Rattle.depth_table.specs.Offset.{offsets_ok, offsets_usable, offset_checks}
use Rattle.record.specs.declared.Record.{Record}

-- what a record's kind and entry name: a pattern of the list, the contour (document 01: the outline) of the block's texture, or nothing
pub data Named : Type 0 where
  listed : ℕ → Named
  contour : Named
  nothing : Named

-- what is checked of an entry whose kind is the contour: 7, it is not 0; 21, there is no texture
abbrev pub contour_checks : ℕ → Bool → List (Bool × ℕ)
contour_checks entry textured = (eqb entry 0, 7) ∷ (textured, 21) ∷ []

-- What is checked of a kind and an entry for blocks of size n, and what they name; `textured` is whether texture is lent.
-- Kind 0 is the pattern that the list has at the entry: 6, the entry is not below the count; 5, the pattern has a bit from n * n up.
-- Kind 1 is the contour: 7, the entry is not 0; 21, there is no texture (no contour has a bit from n * n up). Any other kind: 7.
abbrev pub kind_meaning : ℕ → List ℕ → ℕ → Bool → ℕ → ℕ → List (Bool × ℕ) × Named
kind_meaning n list count textured zero entry =
    ((ltb entry count, 6) ∷ (word_ok n (get_or list entry 0), 5) ∷ [], listed (get_or list entry 0))
kind_meaning n list count textured (suc zero) entry = (contour_checks entry textured, contour)
kind_meaning n list count textured (suc (suc k)) entry = ((false, 7) ∷ [], nothing)

-- the first check of kind and entry that fails, then the rest
abbrev pub kind_refusal : ℕ → List ℕ → ℕ → Bool → ℕ → ℕ → ℕ → ℕ
kind_refusal n list count textured kind entry rest = refusal (kind_meaning n list count textured kind entry).0 rest

-- 4: an offset; 24: an offset that a table of so many values cannot use
abbrev pub offset_refusal : ℕ → Record → ℕ
offset_refusal values r = refusal (offset_checks values r.off0 r.off1) 0

-- the checks of a record in the papers' order: 7, 21, 6, 5, 4, 24; values is how many the table has
unfoldable pub record_refusal : ℕ → List ℕ → ℕ → Bool → ℕ → Record → ℕ
record_refusal n list count textured values r = kind_refusal n list count textured r.kind r.entry (offset_refusal values r)

-- what a record means, or its refusal
unfoldable pub record_meaning : ℕ → List ℕ → ℕ → Bool → ℕ → Record → Answer Named
record_meaning n list count textured values r =
    answer (record_refusal n list count textured values r) (kind_meaning n list count textured r.kind r.entry).1

-- the pattern that is named, where c is the contour
abbrev pub pattern_named : ℕ → Named → ℕ
pattern_named c (listed w) = w
pattern_named c contour = c
pattern_named c nothing = 0

-- what holds of a record that is not refused: it names an entry of the list, or the contour of lent texture, its offsets are allowed, and
-- a table of so many values can use them
pub record Sound (n : ℕ) (list : List ℕ) (count : ℕ) (textured : Bool) (values : ℕ) (r : Record) : Type 0 where
  pub names :
      ((r.kind ≡ 0) × (r.entry < count) × (word_ok n (get_or list r.entry 0) ≡ true))
      ⊎ ((r.kind ≡ 1) × (r.entry ≡ 0) × (textured ≡ true))
  pub allowed : offsets_ok r.off0 r.off1 ≡ true
  pub usable : offsets_usable values r.off0 r.off1 ≡ true
