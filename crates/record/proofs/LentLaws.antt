-- Records that were lent are read back.
use Prim.Native.Nat.{ℕ, ◌<◌}
use mathlib.Core.Path.{◌≡◌}
use borrow.Author.Tests.{lt-ltb}
use Rattle.record.specs.declared.Record.{Record}
use Rattle.record.specs.Lent.{unsigned, lent_number, record_in, fields_of, numbers_end, Lendable}

-- a number that can be lent is read back
number-back : (k : ℕ) → k < numbers_end → unsigned (lent_number k) ≡ k
unfolding lent_number
number-back k l = rw (lt-ltb k numbers_end l)

-- and so is a record
pub record-back : (r : Record) → Lendable r → record_in (fields_of r) ≡ r
unfolding record_in fields_of
record-back r l = rw (number-back r.kind l.kind, number-back r.entry l.entry)
