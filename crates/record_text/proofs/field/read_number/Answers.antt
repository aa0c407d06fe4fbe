-- `read_number` meets its contract: no numeral starts with another byte, and a number that is read has a numeral.
use mathlib.Core.Path.{◌∙◌}
use Rattle.record_text.proofs.ReadSteps.{number_none, number_digit, number_small}
use Rattle.record_text.proofs.field.read_number.Goals as goal

pub returns-in_err-d-clause-value : goal.returns-in_err-d-clause-value
returns-in_err-d-clause-value c =
    let h = c.in_ok-b.ensures in
    rw c.from_residual-in_err-d.ensures (number_none _ _ _ _ h.cases.0 c.in_err-d.ensures)

pub returns-clause-small : goal.returns-clause-small
returns-clause-small c =
    let h = c.in_ok-b.ensures in
    let d = c.in_ok-d.ensures in
    number_small c.args.end c.args.bytes.now c.read_digits.result
    (c.read_digits.ensures ∙ rw (c.digit_room.ensures, d.1) (number_digit _ _ _ _ h.cases.0 d.0))
