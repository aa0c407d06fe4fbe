-- Laws that no proof cites.
use Prim.Native.Nat.{ℕ, zero, suc, ◌+◌, ◌*◌, ◌^◌, ◌≤◌, ◌<◌}
use mathlib.Core.Path.{◌≡◌, refl, ap, ◌∙◌, subst}
use mathlib.Core.List.{List}
use mathlib.Core.Logic.{inl, inr, ⊎_elim}
use native.Mathlib.Decide.{ℕ_discrete}
use native.Mathlib.Nat.{add-mul}
use native.Mathlib.Omega.{arith}
use lib.Dec.{eqb, ltb}
use lib.ListN.{length, get_or, set, length-set}
use lib.Seq.{get_or-set_same, get_or-set_other}
use Rattle.arith.specs.Bits.{bit, bits}
use Rattle.choice.specs.Sums.{Followed}
use Rattle.choice.specs.Trial.{Better}
use Rattle.choice.proofs.TallyLaws.{one_more}

-- one more of the sums that follow those before
module _ (before : List ℕ) (from width x : ℕ) where
  pub followed-none : Followed before before from width x 0
  followed-none = record { as_long = refl; added = λ i l. absurd (omega arith); others = λ a _. refl }

  pub followed-more :
      (after : List ℕ) (m y : ℕ) → Followed before after from width x m → m < width → from + width + m < length after
      → y ≡ get_or after (from + m) 0 + x → Followed before (set after (from + width + m) y) from width x (m + 1)
  followed-more after m y q l room e =
      record {
        as_long = length-set after (from + width + m) y ∙ q.as_long;
        added = λ i h. go i (ℕ_discrete i m) h;
        others = λ a h.
            get_or-set_other after (from + width + m) a y 0 (λ d. ⊎_elim (λ g. omega (arith, d, g)) (λ g. omega (arith, d, g)) h)
            ∙ q.others a (⊎_elim (λ g. inl g) (λ g. inr (omega arith)) h);
      }
    where
      go : (i : ℕ) → Dec (i ≡ m) → i < m + 1 → get_or (set after (from + width + m) y) (from + width + i) 0 ≡ get_or before (from + i) 0 + x
      go i (yes d) h =
          rw d (get_or-set_same after (from + width + m) y 0 room ∙ e ∙ ap (λ (z : ℕ). z + x) (q.others (from + m) (inl (omega arith))))
      go i (no d) h =
          get_or-set_other after (from + width + m) (from + width + i) y 0 (λ g. d (omega arith)) ∙ q.added i (omega arith)

  pub followed-end : (after : List ℕ) {m y : ℕ} → m ≡ width → x ≡ y → Followed before after from width x m → Followed before after from width y width
  followed-end after {m} {y} e d q =
      subst (λ (z : ℕ). Followed before after from width y z) e (subst (λ (z : ℕ). Followed before after from width z m) d q)

-- what is better, with the costs as the definition has them
pub better-by :
    {a b near far near' far' number cost : ℕ} → near ≡ near' → far ≡ far' → Better a near b far number cost → Better a near' b far' number cost
better-by {near = near} {far = far} e q h = rw (← e, ← q) h

pub better-small : {a b near far number cost : ℕ} → near ≤ 65280 → far ≤ 65280 → Better a near b far number cost → cost ≤ 65280
better-small n f = ⊎_elim (λ w. omega (arith, w.2)) (λ w. omega (arith, w.2))

-- of a row of numbers: those below v and those that are v are those below v + 1
pub below_step : (s : ℕ → ℕ) (c v : ℕ) → bits (λ k. ltb (s k) v) c + bits (λ k. eqb (s k) v) c ≡ bits (λ k. ltb (s k) (v + 1)) c
unfolding bits
below_step s zero v = refl
below_step s (suc c) v =
    let x = s c in
    let d = one_more x v (ltb x (v + 1)) (ltb x v) (eqb x v) refl refl refl in
    let p : bit (ltb x (v + 1)) * 2 ^ c ≡ (bit (ltb x v) + bit (eqb x v)) * 2 ^ c = ap (λ (n : ℕ). n * 2 ^ c) d in
    omega (arith, below_step s c v, p, add-mul (bit (ltb x v)) (bit (eqb x v)) (2 ^ c))
