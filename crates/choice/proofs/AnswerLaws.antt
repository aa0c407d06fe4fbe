-- The answer of a choice: the refusal, or the record that was picked, which is the one of least cost.
use Prim.Native.Nat.{ℕ, ◌*◌, ◌/◌, ◌%◌, ◌≤◌, ◌<◌}
use mathlib.Core.Path.{◌≡◌, sym, ap, subst, ◌∙◌}
use mathlib.Core.Bool.{Bool, true, false, cond}
use native.Mathlib.Omega.{arith}
use lib.Dec.{eqb}
use lib.IntN.{pos, negsuc}
use mir.Syntax.{w32}
use mir.Val.{SFits}
use Rattle.arith.specs.Checks.{Answer, refused, given, answer}
use Rattle.arith.proofs.CheckLaws.{answer-refused, answer-given, given-means, refused-means}
use Rattle.choice.specs.Offset.{offset}
use Rattle.choice.specs.Case.{Case, reach_in_use}
use Rattle.choice.specs.Refusal.{choose_refusal}
use Rattle.record.specs.declared.Record.{Record}
use Rattle.choice.specs.Search.{trial_cost, best_trial, best_cost, pattern_at, record_by, record_at, chosen, tried}
use Rattle.choice.specs.Picked.{PickedOf}
use Rattle.choice.specs.Answer.{chosen_all, choose_answer, LeastGiven}
use Rattle.choice.proofs.TrialLaws.{trial-best}
use Rattle.choice.proofs.LeastLaws.{answer-least}

-- offsets with a number below 512 fit 32 bits
pub offset-fits : (t : ℕ) → t < 512 → SFits w32 (offset t)
offset-fits t h = go (eqb (t % 2) 0)
  where
    go : (b : Bool) → SFits w32 (cond b (pos (t / 2)) (negsuc (t / 2)))
    go true = record { sfits = omega arith }
    go false = record { sfits = omega arith }

module _ (C : Case) where
  -- numbers of offsets in a reach of at most 255
  best-small : (w : ℕ) (m : Bool) → C.reach ≤ 255 → best_trial C w m < 512
  best-small w m h = omega (arith, (trial-best (trial_cost C w m) (2 * reach_in_use C)).within)

  module _ {p a b c t : ℕ} (q : PickedOf C p a b c t) where
    pub picked-small : C.reach ≤ 255 → (a < 512) × (b < 512)
    picked-small h =
        (rw q.sides.first (best-small (pattern_at C p) false h), rw q.sides.second (best-small (pattern_at C p) true h))

    picked-is : ◌≡◌ {A = Record × ℕ × ℕ} (record_by C.count p a b, c, t) (chosen_all C)
    unfolding chosen
    picked-is =
        rw (q.sides.first, q.sides.second, q.sides.its_cost, q.counted)
        (ap (λ (k : ℕ). (record_at C k, best_cost C (pattern_at C k), tried C)) q.best)

  -- ---- the two returns

  pub told-refused : {k : ℕ} → k ≡ choose_refusal C → (k ≡ 0 → ⊥) → refused k ≡ choose_answer C
  unfolding choose_answer
  told-refused {k} e h = answer-refused k (chosen_all C) h ∙ ap (λ (j : ℕ). answer j (chosen_all C)) e

  pub told-given :
      {p a b c t : ℕ} {r : Record} → choose_refusal C ≡ 0 → PickedOf C p a b c t → r ≡ record_by C.count p a b
      → given (r, c, t) ≡ choose_answer C
  unfolding choose_answer
  told-given {c = c} {t = t} e q er =
      ap given (ap (λ (x : Record). (x, c, t)) er ∙ picked-is q) ∙ answer-given (choose_refusal C) (chosen_all C) e

  -- an answer that is the definition's is least
  pub told-least : {a : Answer (Record × ℕ × ℕ)} → a ≡ choose_answer C → LeastGiven C a
  told-least e = subst (LeastGiven C) (sym e) (answer-least C)

  -- what is answered in a case that is not refused
  pub answered : choose_refusal C ≡ 0 → choose_answer C ≡ given (chosen_all C)
  unfolding choose_answer
  answered e = sym (answer-given (choose_refusal C) (chosen_all C) e)

  -- ---- what an answer tells

  pub refused-for : {k : ℕ} → refused k ≡ choose_answer C → (k ≡ choose_refusal C) × (choose_refusal C ≡ 0 → ⊥)
  unfolding choose_answer
  refused-for {k} e = refused-means (choose_refusal C) k (chosen_all C) (sym e)

  pub given-for : {r : Record} {cost count : ℕ} → given (r, cost, count) ≡ choose_answer C → (choose_refusal C ≡ 0) × (r ≡ (chosen C).0)
  unfolding choose_answer
  given-for {r} {cost} {count} e =
      let m = given-means (choose_refusal C) (chosen_all C) (r, cost, count) (sym e) in
      (m.0, sym (ap (λ (p : Record × ℕ × ℕ). p.0) m.1))
