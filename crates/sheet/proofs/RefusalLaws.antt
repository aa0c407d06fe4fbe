-- What a refusal of a first check says of all checks.
use Prim.Native.Nat.{ℕ}
use mathlib.Core.Bool.{Bool, true, false}
use mathlib.Core.Path.{◌≡◌, refl, sym, ◌∙◌}
use Rattle.std.specs.Prelude.{Result, Ok, Err, IsOk}
use lib.Dec.{ltb}
use Rattle.arith.specs.Checks.{unless}
use Rattle.arith.proofs.CheckLaws.{holds, passes, kept}
use Rattle.pattern.specs.declared.refusals.Refusal.{Refusal}
use Rattle.pattern.specs.declared.refusals.Refusal.TheVariants as variant
use Rattle.pattern.proofs.AnswerLaws.{number-some}
use Rattle.pattern.specs.Refusal.{number_of, refusal_in, checked}
use Rattle.sheet.specs.Checks.{state_checks, state_refusal_by, start_refusal_by}
use Rattle.sheet.specs.State.{blocks_of, start_refusal, open_refusal}
use Rattle.sheet.specs.declared.Sheet.{Sheet}
use Rattle.sheet.proofs.StateLaws.{start-kept, start-passed, Opened, started}

-- a call that has no refusal is not refused
pub accepted-ok : {A : Type 0} (r : Result A Refusal) → refusal_in r ≡ 0 → IsOk r
accepted-ok (Ok a) e = refl
accepted-ok (Err k) e = absurd (number-some k e)

-- a check that passes holds, and one that does not gives its refusal
pub checked-ok : (ok : Bool) (r : Refusal) → Ok tt ≡ checked ok r → ok ≡ true
checked-ok true r e = refl
checked-ok false r e = cc

pub checked-err : (ok : Bool) (r : Refusal) {k : Refusal} → Err k ≡ checked ok r → (ok ≡ false) × (k ≡ r)
checked-err true r e = cc
checked-err false r e = (refl, cc)

module _ (S : Sheet) (lengths : Bool) where
  -- a refusal of the state, whatever is checked after it
  pub state_kept :
      (r : Refusal) → number_of r ≡ state_refusal_by S.n S.width S.height S.placed lengths 0 → number_of r ≡ start_refusal S lengths 0
  unfolding start_refusal_by
  state_kept r e =
      e ∙ sym (kept (state_checks S.n S.width S.height S.placed lengths) _ (λ z. number-some r (e ∙ z)))

  -- past them, whether there is a block to place
  pub state_passed :
      0 ≡ state_refusal_by S.n S.width S.height S.placed lengths 0 → start_refusal S lengths 0 ≡ unless (ltb S.placed (blocks_of S)) 20 0
  unfolding start_refusal_by
  state_passed e =
      let l = state_checks S.n S.width S.height S.placed lengths in
      passes l _ (holds l 0 (sym e)).0

-- ---- the state, then the table, as the code checks them: l is whether the lengths hold, and a whether the table is as asked

module _ (S : Sheet) (lengths asked : Bool) (rest : ℕ) {l a : Bool} (judged : l ≡ lengths) (tested : a ≡ asked) where
  starting : {k : ℕ} → k ≡ start_refusal S l 0 → k ≡ start_refusal S lengths 0
  starting e = rw judged at e

  -- the state is refused
  pub state-refused : (r : Refusal) → number_of r ≡ start_refusal S l 0 → number_of r ≡ open_refusal S lengths asked rest
  state-refused r e = let q = starting e in q ∙ sym (start-kept S lengths _ (λ z. number-some r (q ∙ z)))

  module _ (going : 0 ≡ start_refusal S l 0) where
    -- the table is refused
    pub table-refused : {r : Refusal} → Err r ≡ checked a variant.Table → number_of r ≡ open_refusal S lengths asked rest
    table-refused e =
        let f = checked-err a variant.Table e in
        rw (f.1, start-passed S lengths _ (sym (starting going)), ← tested, f.0)

    module _ (sound : Ok tt ≡ checked a variant.Table) where
      -- past both, the rest decides
      pub rest-decides : open_refusal S lengths asked rest ≡ rest
      rest-decides = rw (start-passed S lengths _ (sym (starting going)), ← tested, checked-ok a variant.Table sound)

      pub both-passed : Opened S lengths asked
      both-passed =
          let o = (started S lengths 0 (sym (starting going))).0 in
          record { right = o.right; sound = rw (← tested) (checked-ok a variant.Table sound); tall = o.tall; is = o.is }
