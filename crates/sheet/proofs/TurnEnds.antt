-- What holds in a turn of the loop that composes, and at its ends.
use Prim.Native.Nat.{ℕ, ◌<◌}
use mathlib.Core.Bool.{true}
use mathlib.Core.List.{List}
use mathlib.Core.Logic.{⊎_elim}
use mathlib.Core.Path.{◌≡◌, sym, ap, ◌∙◌}
use native.Mathlib.Omega.{arith}
use lib.IntN.{ℤ}
use lib.ListN.{length}
use Rattle.arith.specs.Checks.{refused, given}
use Rattle.arith.specs.Lists.{list_of}
use Rattle.arith.proofs.CheckLaws.{lent-refused}
use Rattle.depth_table.specs.Table.{table_ok}
use Rattle.choice.specs.Refusal.{choose_refusal}
use Rattle.record.specs.declared.Record.{Record}
use Rattle.choice.proofs.AnswerLaws.{refused-for, given-for}
use Rattle.choice.specs.Answer.{choose_answer}
use Rattle.sheet.specs.State.{area, Open, Lengths}
use Rattle.depth_table.proofs.LevelLaws.{table-some}
use Rattle.sheet.specs.Place.{placed_samples, Fits}
use Rattle.sheet.specs.Compose.{missing, Task, compose_case, chosen_next, chosen_block, composed_next, composed_to, over, Leaves, choice_refusal, Ready}
use Rattle.sheet.specs.declared.Sheet.{Sheet}
use Rattle.sheet.proofs.ComposeLaws.{choose-refusal}
use Rattle.sheet.proofs.TurnLaws.{open_after, Going}

-- ---- what holds in a turn

-- the state has a block to place, and what is lent fits it
pub record Turn (S : Sheet) (T : Task) (state : Sheet) (samples : List ℕ) : Type 0 where
  pub same_size : state.n ≡ S.n
  pub is_open : Open state
  pub lengths : Lengths state (length samples) (length T.material.list) T.material.count (length T.material.texture)
  pub original : length T.original ≡ area state
  pub sound : table_ok T.material.table ≡ true
  pub refusal : choice_refusal state T ≡ choice_refusal S T

pub turn :
    (S : Sheet) (T : Task) (samples0 : List ℕ) (records0 : List (List ℤ)) → Ready S T (length samples0) (length records0)
    → {k : ℕ} {state : Sheet} {samples : List ℕ} {records : List (List ℤ)} → Going S T samples0 records0 k state samples records
    → k < missing S → length samples ≡ length samples0 → Turn S T state samples
unfolding choice_refusal
turn S T samples0 records0 ready {k} {state} {samples} going more same =
    record {
      same_size = ap (λ (u : Sheet). u.n) going.at_k;
      is_open = open_after S k ready.is_open more going.at_k;
      lengths =
          rw (going.at_k, same)
          (record {
            whole = ready.lengths.whole;
            optional = ready.lengths.optional;
            inside = ready.lengths.inside;
            few = ready.lengths.few;
          });
      original = rw going.at_k ready.same;
      sound = ready.sound;
      refusal = ap (λ (u : Sheet). choice_refusal u T) going.at_k;
    }

module _ {S : Sheet} {T : Task} {state : Sheet} {samples : List ℕ} (t : Turn S T state samples) where
  -- what is lent fits the state
  pub turn-fits : Fits state T.material (length samples)
  turn-fits = record { valued = table-some _ t.sound; is_open = t.is_open; lengths = t.lengths }

  -- the choice for the block is refused where composing is
  turn-refusal : choose_refusal (compose_case state T samples) ≡ choice_refusal S T
  turn-refusal =
      choose-refusal state T samples t.is_open t.lengths.inside t.lengths.few t.sound ∙ t.refusal

  pub turn-refused : {number : ℕ} → refused number ≡ choose_answer (compose_case state T samples) → (number ≡ choice_refusal S T) × (number ≡ 0 → ⊥)
  turn-refused {number} e =
      let m = refused-for (compose_case state T samples) e in
      (m.0 ∙ turn-refusal, λ z. m.1 (sym m.0 ∙ z))

  -- and then nothing is drawn
  pub turn-kept : {number : ℕ} {u : List ℕ} → refused number ≡ choose_answer (compose_case state T samples) → u ≡ composed_next state T samples → u ≡ samples
  unfolding chosen_block
  turn-kept {number} e h =
      h ∙ sym (lent-refused (choose_refusal (compose_case state T samples)) _ samples (refused-for (compose_case state T samples) e).1)

  -- or its record is chosen, and `place` does not refuse it
  module _ {r : Record} {cost count : ℕ} (e : given (r, cost, count) ≡ choose_answer (compose_case state T samples)) where
    turn-means : (choose_refusal (compose_case state T samples) ≡ 0) × (r ≡ chosen_next state T samples)
    turn-means = given-for (compose_case state T samples) e

    pub turn-none : choice_refusal S T ≡ 0
    turn-none = sym turn-refusal ∙ turn-means.0

    pub turn-chosen : r ≡ chosen_next state T samples
    turn-chosen = turn-means.1

    pub turn-painted : {u : List ℕ} → u ≡ composed_next state T samples → u ≡ placed_samples state T.material samples r
    unfolding chosen_block placed_samples
    turn-painted h = rw turn-chosen (rw turn-means.0 at h)

-- ---- the ends of the loop

module _ (S : Sheet) (T : Task) (samples0 : List ℕ) (records0 : List (List ℤ)) {k : ℕ} {state : Sheet} {samples : List ℕ} {records : List (List ℤ)} (going : Going S T samples0 records0 k state samples records) where
  -- a refusal comes at the first block, when nothing is altered
  pub left-refused :
      (choice_refusal S T ≡ 0 → ⊥)
      → Leaves (choice_refusal S T) S T samples0 samples records0 records
  unfolding composed_to over list_of
  left-refused h =
      let z : k ≡ 0 = ⊎_elim (λ e. e) (λ e. absurd (h e)) going.begun in
      record {
        samples_are = (rw z at going.painted) ∙ lent-refused (choice_refusal S T) _ samples0 h;
        records_are = (rw z at going.records_are) ∙ lent-refused (choice_refusal S T) _ records0 h;
      }

  -- where all blocks are composed, nothing was refused
  module _ (all : k ≡ missing S) (some : 0 < missing S) where
    pub end_none : choice_refusal S T ≡ 0
    end_none = ⊎_elim (λ e. absurd (omega arith)) (λ e. e) going.begun
