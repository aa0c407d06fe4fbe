-- Records as they are lent: a slice of four numbers each, kind, entry, off0 and off1.
use Rattle.std.specs.Prelude.{ℕ, ◌<◌, cond, List, [], ◌∷◌, ltb, ℤ, pos, negsuc, get_or}
use Rattle.record.specs.declared.Record.{Record}
use Rattle.record.specs.Record.{record_of}

-- from here up a number is no kind and no entry, and is not lent as itself
abbrev pub numbers_end : ℕ
numbers_end = 2147483648

-- a lent number as a kind or an entry: a negative one is neither
abbrev pub unsigned : ℤ → ℕ
unsigned (pos k) = k
unsigned (negsuc k) = numbers_end

-- the record that four lent numbers are
unfoldable pub record_in : List ℤ → Record
record_in f = record_of (unsigned (get_or f 0 (pos 0))) (unsigned (get_or f 1 (pos 0))) (get_or f 2 (pos 0)) (get_or f 3 (pos 0))

-- the record at place i of the lent records
abbrev pub record_at : List (List ℤ) → ℕ → Record
record_at l i = record_in (get_or l i [])

-- a kind or an entry as it is lent
unfoldable pub lent_number : ℕ → ℤ
lent_number k = cond (ltb k numbers_end) (pos k) (negsuc 0)

-- the four numbers that a record is lent as
unfoldable pub fields_of : Record → List ℤ
fields_of r = lent_number r.kind ∷ lent_number r.entry ∷ r.off0 ∷ r.off1 ∷ []

-- kind and entry can be lent
pub record Lendable (r : Record) : Type 0 where
  pub kind : r.kind < numbers_end
  pub entry : r.entry < numbers_end
