-- `compose` meets its contract: the checks of state and table, then what `compose_missing` ensures.
use borrow.Author.Rules.{rules}
use mathlib.Core.Path.{refl}
use lib.ListN.{length}
use Rattle.sheet.specs.Told.{task_in}
use Rattle.sheet.proofs.EndLaws.{compose-closed, compose-unsound, compose-passed, compose-refused, compose-by}
use Rattle.sheet.proofs.Sheet.compose.Goals as goal

-- a refusal of the checks leaves everything as it was
pub returns-in_err-check_open : goal.returns-in_err-check_open
returns-in_err-check_open c =
    let a = c.args in
    let t = task_in a.self.n a.input in
    let k = c.in_err-check_open.field-0.0 in
    let q =
    compose-refused a.self a.samples.now t a.records.now k
    (compose-closed a.self t (length a.samples.now) (length a.records.now) c.compose_lengths_ok.ensures refl k c.in_err-check_open.ensures)
    in
    record { answered = search rules; left = q.1; recorded = q.2 }

pub returns-in_err-check : goal.returns-in_err-check
returns-in_err-check c =
    let a = c.args in
    let t = task_in a.self.n a.input in
    let q =
    compose-refused a.self a.samples.now t a.records.now c.in_err-check.field-0.0
    (compose-unsound a.self t (length a.samples.now) (length a.records.now) c.compose_lengths_ok.ensures c.is_table.ensures
    c.in_ok-check_open.ensures c.in_err-check.ensures)
    in
    record { answered = search rules; left = q.1; recorded = q.2 }

-- past them
pub compose_missing-requires : goal.compose_missing-requires
compose_missing-requires c =
    let a = c.args in
    (compose-passed a.self (task_in a.self.n a.input) (length a.samples.now) (length a.records.now)
    c.compose_lengths_ok.ensures c.is_table.ensures c.in_ok-check_open.ensures c.in_ok-check.ensures).1

pub returns : goal.returns
returns c =
    let a = c.args in
    let t = task_in a.self.n a.input in
    let p =
    (compose-passed a.self t (length a.samples.now) (length a.records.now)
    c.compose_lengths_ok.ensures c.is_table.ensures c.in_ok-check_open.ensures c.in_ok-check.ensures).0
    in
    let done = c.compose_missing.ensures in
    let q = compose-by a.self a.samples.now t a.records.now p done.answered done.left in
    record { answered = q.0; left = q.1; recorded = q.2 }
