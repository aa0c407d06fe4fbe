-- The structs that the calls return: what `read`, field by field, and `write` answered.
use Rattle.std.specs.Prelude.{ℕ, List, ◌≡◌}
use Rattle.arith.specs.Checks.{Answer, refused, given}
use Rattle.record_file.specs.Reading.{Aids}
use Rattle.record_read.specs.Back.{Back, file_back, Lent, reading, Reads}
use Rattle.file_calls.specs.declared.FileRead.{FileRead}
use Rattle.file_calls.specs.declared.FileWritten.{FileWritten}

-- what `read` answered
abbrev pub file_read_of : Back → FileRead
file_read_of b =
    record {
      refusal = b.refusal;
      line = b.line;
      n = b.sheet.n;
      width = b.sheet.width;
      height = b.sheet.height;
      placed = b.sheet.placed;
      values = b.values;
      table = b.table;
    }

-- all that the call does: its struct says what `read` answers, and what is lent is left as `read` leaves it
pub record CallReads (A : Aids) (before : Lent) (s : List ℕ) (r : FileRead) (after : Lent) : Type 0 where
  pub told : r ≡ file_read_of (file_back (reading A before s))
  pub left : Reads A before s (file_back (reading A before s)) after

-- what `write` answered
abbrev pub file_written_of : Answer ℕ → FileWritten
file_written_of (refused number) = record { refusal = number; length = 0 }
file_written_of (given count) = record { refusal = 0; length = count }
