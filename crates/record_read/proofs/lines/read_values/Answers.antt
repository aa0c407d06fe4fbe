-- `read_values` meets its contract: the lines so far, and their values.
use Rattle.std.proofs.Common.{arith, ◌+◌, ◌-◌, ◌≡◌, rules, sym}
use Rattle.std.proofs.lemmas.Result.{err_from_is_err_and}
use Rattle.record_text.specs.Line.{value_line}
use Rattle.record_text.specs.Lines.{line, read}
use Rattle.record_file.specs.Reading.{value_meaning, low_after}
use Rattle.record_read.proofs.ReadLaws.{going_more, going-refused, going_end, loop_read}
use Rattle.record_read.proofs.lines.read_values.Goals as goal

pub returns-in_err-value : goal.returns-in_err-value
returns-in_err-value c =
    let a = c.args in
    let n : 4 + (c.loop-line.line - 4) ≡ c.loop-line.line = omega arith in
    let e = going-refused value_line value_meaning low_after a.values 4 0 a.bytes.now c.loop-line.invariant (omega arith) (rw n c.in_err-value.ensures) in
    let p = err_from_is_err_and c.from_residual.result c.from_residual.ensures.1 in
    rw (p.1, p.2) (sym e)

pub returns : goal.returns
returns c =
    let a = c.args in
    let l = c.loop-line in
    let e = going_end value_line value_meaning low_after a.values 4 0 a.bytes.now l.invariant (omega arith) in
    loop_read e l.invariant.kept

pub loop-line-preserved : goal.loop-line-preserved
loop-line-preserved c =
    let a = c.args in
    let l = c.loop-line in
    let n : 4 + (l.line - 4) ≡ l.line = omega arith in
    let m : (l.line - 4) + 1 ≡ l.line + 1 - 4 = omega arith in
    let told : read c.in_ok-value.value c.in_ok-value.after.now ≡ line (4 + (l.line - 4)) (value_line l.rest.now) (value_meaning l.low) read = rw n c.in_ok-value.ensures in
    rw (← m)
    (going_more value_line value_meaning low_after a.values 4 0 a.bytes.now l.invariant (omega arith) (λ k. c.push.new.self.items ≡ k)
    told (search rules) (λ k q e. search rules))
