-- `read_values`: the lines so far, and their values.
use Rattle.std.proofs.Common.{◌≡◌, ◌-◌}
use Rattle.record_text.specs.Line.{value_line}
use Rattle.record_file.specs.Reading.{value_meaning, low_after}
use Rattle.record_read.proofs.ReadLaws.{Going}
use Rattle.record_read.proofs.lines.read_values.Given as goal

abbrev pub invariant-loop-line : goal.invariant-loop-line
invariant-loop-line l = Going value_line value_meaning low_after l.values 4 0 l.bytes (l.line - 4) l.low l.rest (λ k. l.table.items ≡ k)
