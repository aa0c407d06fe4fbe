-- A record by its four numbers.
use Rattle.std.specs.Prelude.{ℕ, ℤ, pos}
use Rattle.record.specs.declared.Record.{Record}

abbrev pub record_of : ℕ → ℕ → ℤ → ℤ → Record
record_of kind entry off0 off1 = record { kind = kind; entry = entry; off0 = off0; off1 = off1 }

-- the record that stands where there is none
abbrev pub no_record : Record
no_record = record_of 0 0 (pos 0) (pos 0)
