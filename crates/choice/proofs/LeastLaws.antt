-- The least-cost law: `chosen` is the record of least cost, and there is no other.
use Prim.Native.Nat.{ℕ, zero, suc, ◌+◌, ◌*◌, ◌≤◌, ◌<◌}
use mathlib.Core.Path.{◌≡◌, refl, sym, ap, ap₂, ◌∙◌}
use mathlib.Core.Bool.{Bool, true, false}
use mathlib.Core.Logic.{◌⊎◌, inl, inr, ⊎_elim}
use native.Mathlib.Omega.{arith}
use lib.IntN.{ℤ}
use lib.ListN.{length}
use Rattle.arith.specs.Checks.{answer}
use Rattle.arith.specs.Least.{First}
use Rattle.arith.proofs.LeastLaws.{least_to-first}
use Rattle.choice.specs.Offset.{InReach, trial, offset}
use Rattle.choice.specs.Case.{Case, reach_in_use}
use Rattle.pattern.specs.Answer.{textured}
use Rattle.choice.specs.Refusal.{choose_refusal}
use Rattle.choice.proofs.AcceptLaws.{accepted}
use Rattle.choice.specs.Record.{PatternIn, Within, pattern_of, cost_of, Before, LeastWithin, LeastRecord, OneLeast}
use Rattle.record.specs.declared.Record.{Record}
use Rattle.choice.specs.Search.{trial_cost, best_trial, best_cost, pattern_at, last_pattern, best_pattern, record_at, chosen}
use Rattle.choice.specs.Trial.{trial_over}
use Rattle.choice.specs.Answer.{chosen_all, choose_answer, LeastGiven}
use Rattle.choice.proofs.TrialLaws.{trial-best}
use Rattle.choice.proofs.TriedLaws.{tried-in-all}
use Rattle.choice.proofs.OffsetLaws.{trial-offset, trial-in, in-offset, sooner-trial, same-offset}
use Rattle.choice.proofs.SideLaws.{cost-trials}
use Rattle.choice.proofs.NumberLaws.{parts-least, parts_first, number_of, number_in, number-pattern, number-before, number-either, at_in, at-number}

module _ (C : Case) where
  -- the number of a record's pattern
  abbrev number : Record → ℕ
  number r = number_of C r.kind r.entry

  -- the cost of a record by numbers
  cost-numbers :
      (r : Record) → Within C r
      → cost_of C r ≡ trial_cost C (pattern_at C (number r)) false (trial r.off0) + trial_cost C (pattern_at C (number r)) true (trial r.off1)
  cost-numbers r h =
      cost-trials C (pattern_of C r) r.off0 r.off1
      ∙ ap (λ (w : ℕ). trial_cost C w false (trial r.off0) + trial_cost C w true (trial r.off1))
      (sym (number-pattern C r.kind r.entry h.pattern_in))

  -- no record of a pattern costs less than its best offsets
  best-least : (r : Record) → Within C r → best_cost C (pattern_at C (number r)) ≤ cost_of C r
  unfolding best_cost
  best-least r h =
      let w = pattern_at C (number r) in
      omega (
        arith,
        cost-numbers r h,
        parts-least (trial_cost C w false) (trial_cost C w true) (2 * reach_in_use C) (trial r.off0) (trial r.off1)
            (trial-in (reach_in_use C) r.off0 h.off0_in) (trial-in (reach_in_use C) r.off1 h.off1_in),
      )

  -- and one whose offsets come before them costs more
  best-first :
      (r : Record) → Within C r → (p : ℕ) → number r ≡ p
      → (trial r.off0 < best_trial C (pattern_at C p) false)
      ⊎ ((trial r.off0 ≡ best_trial C (pattern_at C p) false) × (trial r.off1 < best_trial C (pattern_at C p) true))
      → best_cost C (pattern_at C p) < cost_of C r
  unfolding best_cost
  best-first r h p e before =
      let w = pattern_at C p in
      let cost : cost_of C r ≡ trial_cost C w false (trial r.off0) + trial_cost C w true (trial r.off1) = rw e at (cost-numbers r h) in
      omega (
        arith,
        cost,
        parts_first (trial_cost C w false) (trial_cost C w true) (2 * reach_in_use C) (trial r.off0) (trial r.off1)
            (trial-in (reach_in_use C) r.off0 h.off0_in) (trial-in (reach_in_use C) r.off1 h.off1_in) before,
      )

  -- a record that comes before the record of pattern p, by numbers
  before-numbers :
      (p : ℕ) → PatternIn C (record_at C p).kind (record_at C p).entry → number (record_at C p) ≡ p
      → (r : Record) → Within C r → Before r (record_at C p)
      → (number r < p)
      ⊎ ((number r ≡ p)
      × ((trial r.off0 < best_trial C (pattern_at C p) false)
      ⊎ ((trial r.off0 ≡ best_trial C (pattern_at C p) false) × (trial r.off1 < best_trial C (pattern_at C p) true))))
  before-numbers p hp ep r h =
      let s = record_at C p in
      let lower : (r.kind < s.kind) ⊎ ((r.kind ≡ s.kind) × (r.entry < s.entry)) → number r < p
      = λ b. rw ep at (number-before C r.kind r.entry s.kind s.entry h.pattern_in hp b) in
      ⊎_elim
      (λ l. inl (lower (inl l)))
      (λ v.
      ⊎_elim
      (λ l. inl (lower (inr (v.0, l))))
      (λ w.
      inr (
        ap₂ (number_of C) v.0 w.0 ∙ ep,
        ⊎_elim
            (λ l. inl (rw trial-offset at (sooner-trial r.off0 s.off0 l)))
            (λ x. inr (ap trial x.0 ∙ trial-offset _, rw trial-offset at (sooner-trial r.off1 s.off1 x.1)))
            w.1,
      ))
      v.1)

  module _ (some : (0 < C.count) ⊎ (textured C.texture ≡ true)) where
    abbrev best : ℕ
    best = best_pattern C

    best-is : First (λ p. best_cost C (pattern_at C p)) (suc (last_pattern C)) best
    unfolding best_pattern
    best-is = least_to-first (λ p. best_cost C (pattern_at C p)) (last_pattern C)

    best-either : (best < C.count) ⊎ ((best ≡ C.count) × (0 < length C.texture))
    best-either = number-either C some best (omega (arith, best-is.within))

    offset-within : (m : Bool) → InReach (reach_in_use C) (offset (best_trial C (pattern_at C best) m))
    offset-within m =
        let t = trial_cost C (pattern_at C best) m in
        in-offset (reach_in_use C) (trial_over t (2 * reach_in_use C)).0 (omega (arith, (trial-best t (2 * reach_in_use C)).within))

    chosen-within : Within C (record_at C best)
    chosen-within = record { pattern_in = at_in C best best-either; off0_in = offset-within false; off1_in = offset-within true }

    -- the record that `chosen` names is the one of least cost
    pub chosen-least : LeastRecord C (chosen C).0 (chosen C).1
    unfolding chosen best_cost
    chosen-least =
        record {
          within = chosen-within;
          its_cost = sym (cost-numbers (record_at C best) chosen-within ∙ rw (at-number C best best-either, trial-offset (best_trial C (pattern_at C best) false), trial-offset (best_trial C (pattern_at C best) true)));
          least = λ s h. omega (arith, best-least s h, best-is.least (number s) (omega (arith, number_in C s.kind s.entry h.pattern_in)));
          first = λ s h b.
              ⊎_elim
              (λ l. omega (arith, best-least s h, best-is.first (number s) l))
              (λ w. best-first s h best w.0 w.1)
              (before-numbers best (at_in C best best-either) (at-number C best best-either) s h b);
        }

-- ---- there is only one

pub same-record :
    (k e : ℕ) (a b : ℤ) {k' e' : ℕ} {a' b' : ℤ} → k ≡ k' → e ≡ e' → a ≡ a' → b ≡ b'
    → ◌≡◌ {A = Record} (record { kind = k; entry = e; off0 = a; off1 = b }) (record { kind = k'; entry = e'; off0 = a'; off1 = b' })
same-record k e a b p q r s = λ i. record { kind = p i; entry = q i; off0 = r i; off1 = s i }

module _ (C : Case) where
  clash : {R : ℕ} {r s : Record} {c d : ℕ} → LeastWithin R C r c → LeastWithin R C s d → Before r s → ⊥
  clash {r = r} {s = s} x y h = omega (arith, x.its_cost, y.its_cost, x.least s y.within, y.first r x.within h)

  -- whatever the reach
  pub least-unique : {R : ℕ} (r s : Record) (c d : ℕ) → LeastWithin R C r c → LeastWithin R C s d → (r ≡ s) × (c ≡ d)
  least-unique r s c d x y =
      let k1 : r.kind < s.kind → ⊥ = λ l. clash x y (inl l) in
      let k2 : s.kind < r.kind → ⊥ = λ l. clash y x (inl l) in
      let k : r.kind ≡ s.kind = omega arith in
      let e1 : r.entry < s.entry → ⊥ = λ l. clash x y (inr (k, inl l)) in
      let e2 : s.entry < r.entry → ⊥ = λ l. clash y x (inr (sym k, inl l)) in
      let e : r.entry ≡ s.entry = omega arith in
      let a : r.off0 ≡ s.off0 = same-offset r.off0 s.off0
      (λ l. clash x y (inr (k, inr (e, inl l)))) (λ l. clash y x (inr (sym k, inr (sym e, inl l)))) in
      let b : r.off1 ≡ s.off1 = same-offset r.off1 s.off1
      (λ l. clash x y (inr (k, inr (e, inr (a, l))))) (λ l. clash y x (inr (sym k, inr (sym e, inr (sym a, l))))) in (
        same-record r.kind r.entry r.off0 r.off1 k e a b,
        omega (arith, x.its_cost, y.its_cost, x.least s y.within, y.least r x.within),
      )

  -- a case that is not refused has exactly one chosen record
  pub one-least : choose_refusal C ≡ 0 → OneLeast C
  one-least e =
      let x = chosen-least C (accepted C e).some in
      record { chosen = (chosen C).0; cost = (chosen C).1; is_least = x; only = λ r c y. least-unique r (chosen C).0 c (chosen C).1 y x }

  -- ---- the answer

  answer-by : (k : ℕ) → (k ≡ 0 → LeastRecord C (chosen C).0 (chosen C).1) → LeastGiven C (answer k (chosen_all C))
  answer-by zero h = (h refl, tried-in-all C)
  answer-by (suc k) h = tt

  -- where `choose` answers a record, it is the one of least cost, and so many offsets were tried
  pub answer-least : LeastGiven C (choose_answer C)
  unfolding choose_answer
  answer-least = answer-by (choose_refusal C) (λ e. chosen-least C (accepted C e).some)
