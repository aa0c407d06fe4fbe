-- `line_length` meets its contract: a line is as long as its four fields together.
use Rattle.record_print.proofs.LineSteps.{line-length}
use Rattle.record_print.proofs.put_line.line_length.Goals as goal

pub returns : goal.returns
returns c =
    line-length c.args.numbers.now c.requires.0 c.requires.1 c.field_length.ensures.is c.field_length-2.ensures.is c.field_length-3.ensures.is
    c.field_length-4.ensures.is
