-- `new_head` meets its contract: the sheet, then the texture and the number of values.
use Rattle.std.proofs.Common.{rules, ◌≡◌, ◌∙◌, ◌&&◌, sym, ap, leb}
use Rattle.std.proofs.lemmas.Result.{err_from_is_err_and}
use Rattle.depth_table.specs.Table.{most_values}
use Rattle.pattern.specs.Answer.{texture_ok}
use Rattle.sheet.specs.State.{area}
use Rattle.record_read.proofs.ReadLaws.{head_empty, head-length, head-values, head-whole}
use Rattle.record_read.proofs.lines.new_head.Goals as goal

pub returns-in_err-check : goal.returns-in_err-check
returns-in_err-check c =
    let a = c.args in
    let q = err_from_is_err_and c.from_residual-in_err-check.result c.from_residual-in_err-check.ensures.1 in
    let e = head_empty a.texture a.size {S = c.in_ok-sheet.sheet} (search rules) in
    rw (q.1, q.2)
    (head-length a.texture a.size e.0 (sym c.in_err-check.was ∙ c.check.ensures)
    (c.texture_ok.ensures ∙ ap (texture_ok a.texture) (c.area.ensures ∙ ap area e.1)))

pub returns-in_err-check-2 : goal.returns-in_err-check-2
returns-in_err-check-2 c =
    let a = c.args in
    let q = err_from_is_err_and c.from_residual-in_err-check-2.result c.from_residual-in_err-check-2.ensures.1 in
    let e = head_empty a.texture a.size {S = c.in_ok-sheet.sheet} (search rules) in
    let values : c.if-values-ge1.check ≡ leb 1 a.size.values && leb a.size.values most_values = search rules in
    rw (q.1, q.2)
    (head-values a.texture a.size e.0 (sym c.in_ok-check.was ∙ c.check.ensures)
    (c.texture_ok.ensures ∙ ap (texture_ok a.texture) (c.area.ensures ∙ ap area e.1))
    (sym c.in_err-check-2.was ∙ c.check-2.ensures) values)

pub returns : goal.returns
returns c =
    let a = c.args in
    let e = head_empty a.texture a.size {S = c.in_ok-sheet.sheet} (search rules) in
    let values : c.if-values-ge1.check ≡ leb 1 a.size.values && leb a.size.values most_values = search rules in
    rw e.1
    (head-whole a.texture a.size e.0 (sym c.in_ok-check.was ∙ c.check.ensures)
    (c.texture_ok.ensures ∙ ap (texture_ok a.texture) (c.area.ensures ∙ ap area e.1))
    (sym c.in_ok-check-2.was ∙ c.check-2.ensures) values)
