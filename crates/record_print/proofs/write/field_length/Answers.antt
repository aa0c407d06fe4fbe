-- `field_length` meets its contract: a byte more than its digits, and one more for a minus.
use native.Mathlib.Omega.{arith}
use Rattle.record_print.proofs.DecimalLaws.{digits_few, plain_length, minus_length}
use Rattle.record_print.proofs.write.field_length.Goals as goal

pub overflow_add-result : goal.overflow_add-result
overflow_add-result c = record { fits = omega (arith, digits_few c.args.z c.unsigned_abs.ensures.value c.ranges.z c.digit_count-digits.ensures) }

pub overflow_add-result-else-z-ge0 : goal.overflow_add-result-else-z-ge0
overflow_add-result-else-z-ge0 c = record { fits = omega (arith, digits_few c.args.z c.unsigned_abs.ensures.value c.ranges.z c.digit_count-digits.ensures) }

pub returns-then-z-ge0-clause-is : goal.returns-then-z-ge0-clause-is
returns-then-z-ge0-clause-is c = plain_length c.args.z c.unsigned_abs.ensures.value c.ranges.z c.digit_count-digits.ensures c.if-z-ge0.true

pub returns-then-z-ge0-clause-short : goal.returns-then-z-ge0-clause-short
returns-then-z-ge0-clause-short c = omega (arith, digits_few c.args.z c.unsigned_abs.ensures.value c.ranges.z c.digit_count-digits.ensures)

pub returns-else-z-ge0-clause-is : goal.returns-else-z-ge0-clause-is
returns-else-z-ge0-clause-is c = minus_length c.args.z c.unsigned_abs.ensures.value c.ranges.z c.digit_count-digits.ensures c.if-z-ge0.false

pub returns-else-z-ge0-clause-short : goal.returns-else-z-ge0-clause-short
returns-else-z-ge0-clause-short c = omega (arith, digits_few c.args.z c.unsigned_abs.ensures.value c.ranges.z c.digit_count-digits.ensures)
