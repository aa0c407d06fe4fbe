-- `read_digits` meets its contract. The loop's invariant: the digits that are left give what the whole gives, and the value stays small.
use Rattle.record_text.proofs.ReadSteps.{DigitsRead}
use Rattle.record_text.proofs.field.read_digits.Given as goal

abbrev pub invariant-loop-i : goal.invariant-loop-i
invariant-loop-i l = DigitsRead l.end l.most l.first l.bytes l.i l.value
