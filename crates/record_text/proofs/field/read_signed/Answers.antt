-- `read_signed` meets its contract where there is no minus: the numeral stands for itself.
use mathlib.Core.Path.{◌∙◌, ap}
use Rattle.record_text.specs.Parsed.{Parsed, and_then}
use Rattle.record_text.specs.Field.{after_none}
use Rattle.record_text.proofs.SignLaws.{positive-is}
use Rattle.record_text.proofs.ReadSteps.{signed_plain}
use Rattle.record_text.proofs.field.read_signed.Goals as goal

pub returns-in_err-v : goal.returns-in_err-v
returns-in_err-v c =
    rw c.from_residual.ensures
    (ap (λ (p : Parsed _). and_then p after_none) c.in_err-v.ensures.value ∙ signed_plain _ _ c.in_default.ensures.cases)

pub returns : goal.returns
returns c =
    let e = positive-is c.in_ok-v.v c.in_ok-v.ensures.small in
    rw (c.cast_signed.ensures ∙ e, e) (ap (λ (p : Parsed _). and_then p after_none) c.in_ok-v.ensures.value ∙ signed_plain _ _ c.in_default.ensures.cases)
