-- `read_blocks` meets its contract: a step for each block, then the end of the bytes.
use Rattle.std.proofs.Common.{arith, Ok, Err}
use Rattle.std.proofs.lemmas.Result.{err_from_is_err_and}
use Rattle.record_read.proofs.StepLaws.{turned-refused, turned-end}
use Rattle.record_read.proofs.blocks.read_blocks.Goals as goal

pub returns-in_err-record : goal.returns-in_err-record
returns-in_err-record c =
    let a = c.args in
    let l = c.loop-place in
    let q = err_from_is_err_and c.from_residual.result c.from_residual.ensures.1 in
    rw (q.1, q.2) (turned-refused a.input a.from a.samples.now a.records.now l.invariant.0 (omega (arith, c.requires.room)) c.in_err-record.ensures)

pub returns-in_err-check_end : goal.returns-in_err-check_end
returns-in_err-check_end c =
    let a = c.args in
    let l = c.loop-place in
    let q = err_from_is_err_and c.from_residual-in_err-check_end.result c.from_residual-in_err-check_end.ensures.1 in
    rw (q.1, q.2)
    (turned-end a.input a.from a.samples.now a.records.now l.invariant.0 c.requires (omega (arith, c.requires.room))
    (Err c.in_err-check_end.field-0.0) c.in_err-check_end.ensures)

pub returns : goal.returns
returns c =
    let a = c.args in
    let l = c.loop-place in
    turned-end a.input a.from a.samples.now a.records.now l.invariant.0 c.requires (omega (arith, c.requires.room))
    (Ok c.in_ok-check_end.field-0) c.in_ok-check_end.ensures
