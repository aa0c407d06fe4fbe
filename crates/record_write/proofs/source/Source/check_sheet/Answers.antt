-- `check_sheet` meets its contract: a state that is refused stays so whatever comes after.
use Rattle.std.proofs.lemmas.Result.{err_from_is_err_and}
use Rattle.record_write.proofs.StateLaws.{state_refused}
use Rattle.record_write.proofs.source.Source.check_sheet.Goals as goal

pub returns-in_err-check_state : goal.returns-in_err-check_state
returns-in_err-check_state c =
    let q = err_from_is_err_and c.from_residual.result c.from_residual.ensures.1 in
    rw (q.1, q.2) (state_refused c.args.self.sheet c.lengths_ok.ensures _ c.in_err-check_state.field-0.0 c.in_err-check_state.ensures)
