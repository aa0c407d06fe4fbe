-- `read_digits` meets its contract: a digit more keeps the loop's invariant.
use Rattle.record_text.proofs.ReadSteps.{digits_more}
use Rattle.record_text.proofs.field.read_digits.Goals as goal

pub loop-i-preserved : goal.loop-i-preserved
loop-i-preserved c =
    let d = c.in_ok-value.ensures in
    digits_more c.loop-i.invariant c.loop-i-test.true _ c.if-b-end.false c.if-i-most.false d.0 d.1
