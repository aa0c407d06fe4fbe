-- The checks of a state, before those that come after it.
use Rattle.std.proofs.Common.{ℕ, ◌≡◌, sym, ◌∙◌, Bool}
use Rattle.arith.proofs.CheckLaws.{holds, passes, kept}
use Rattle.pattern.specs.Refusal.{number_of}
use Rattle.pattern.specs.declared.refusals.Refusal.{Refusal}
use Rattle.sheet.specs.declared.Sheet.{Sheet}
use Rattle.sheet.specs.Checks.{state_checks, state_refusal_by}
use Rattle.pattern.proofs.AnswerLaws.{number-some}

module _ (S : Sheet) {a b : Bool} (lengths : a ≡ b) (rest : ℕ) where
  -- one of them refuses: the same whatever comes after
  pub state_refused :
      (r : Refusal) → number_of r ≡ state_refusal_by S.n S.width S.height S.placed a 0 → number_of r ≡ state_refusal_by S.n S.width S.height S.placed b rest
  state_refused r e =
      let w : number_of r ≡ state_refusal_by S.n S.width S.height S.placed b 0 = rw lengths at e in
      w ∙ sym (kept (state_checks S.n S.width S.height S.placed b) rest (λ z. number-some r (w ∙ z)))

  -- none does: what comes after decides
  pub state_passed : 0 ≡ state_refusal_by S.n S.width S.height S.placed a 0 → state_refusal_by S.n S.width S.height S.placed b rest ≡ rest
  state_passed e =
      let w : 0 ≡ state_refusal_by S.n S.width S.height S.placed b 0 = rw lengths at e in
      passes (state_checks S.n S.width S.height S.placed b) rest (holds (state_checks S.n S.width S.height S.placed b) 0 (sym w)).0
