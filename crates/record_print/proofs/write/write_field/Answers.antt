-- `write_field` meets its contract: the byte stands before the place, the numeral before it, and a minus before that.
use mathlib.Core.Path.{◌∙◌}
use lib.ListN.{length-set}
use native.Mathlib.Omega.{arith}
use Rattle.record_print.proofs.DecimalLaws.{field_some, field_room, plain_start, plain_written}
use Rattle.record_print.proofs.DecimalLaws.{minus_room, minus_start, minus_written, minus_before}
use Rattle.record_print.proofs.write.write_field.Goals as goal

pub overflow_sub-last : goal.overflow_sub-last
overflow_sub-last c = field_some c.args.end c.args.z c.requires.1

pub bounds-out-last : goal.bounds-out-last
bounds-out-last c = omega (arith, field_some c.args.end c.args.z c.requires.1, c.requires.2)

pub write_digits-at-requires : goal.write_digits-at-requires
write_digits-at-requires c = field_room c.args.end c.args.z _ _ _ c.unsigned_abs.ensures.value c.ranges.z c.requires _

pub returns-then-z-ge0-clause-start : goal.returns-then-z-ge0-clause-start
returns-then-z-ge0-clause-start c = plain_start c.args.end c.args.z _ _ _ c.unsigned_abs.ensures.value c.ranges.z c.requires _ c.write_digits-at.ensures.start c.if-z-ge0.true

pub returns-then-z-ge0-clause-written : goal.returns-then-z-ge0-clause-written
returns-then-z-ge0-clause-written c =
    let w = c.write_digits-at.ensures in
    plain_written c.args.end c.args.z _ _ _ c.unsigned_abs.ensures.value c.ranges.z c.requires _ _ w.start w.written c.if-z-ge0.true

pub overflow_sub-out : goal.overflow_sub-out
overflow_sub-out c = minus_room c.args.end c.args.z _ _ _ c.unsigned_abs.ensures.value c.ranges.z c.requires _ c.write_digits-at.ensures.start c.if-z-ge0.false

pub bounds-out-at : goal.bounds-out-at
bounds-out-at c =
    let start = c.write_digits-at.ensures.start in
    let long = c.write_digits-at.auto.buf ∙ length-set _ _ _ in
    let some = minus_room c.args.end c.args.z _ _ _ c.unsigned_abs.ensures.value c.ranges.z c.requires _ start c.if-z-ge0.false in
    omega (arith, some, start, long, c.requires.2)

pub overflow_sub-result : goal.overflow_sub-result
overflow_sub-result c = minus_room c.args.end c.args.z _ _ _ c.unsigned_abs.ensures.value c.ranges.z c.requires _ c.write_digits-at.ensures.start c.if-z-ge0.false

pub returns-clause-start : goal.returns-clause-start
returns-clause-start c = minus_start c.args.end c.args.z _ _ _ c.unsigned_abs.ensures.value c.ranges.z c.requires _ c.write_digits-at.ensures.start c.if-z-ge0.false

pub returns-clause-written : goal.returns-clause-written
returns-clause-written c =
    let w = c.write_digits-at.ensures in
    minus_written c.args.end c.args.z _ _ _ c.unsigned_abs.ensures.value c.ranges.z c.requires _ _ w.start w.written c.if-z-ge0.false

pub returns-clause-before : goal.returns-clause-before
returns-clause-before c =
    let w = c.write_digits-at.ensures in
    minus_before c.args.end c.args.z _ _ _ c.unsigned_abs.ensures.value c.ranges.z c.requires _ _ _ w.start w.before
