-- Composing places the chosen records one by one, and each is the choice for its block.
use Prim.Native.Nat.{ℕ, zero, suc, ◌<◌}
use mathlib.Core.List.{List}
use mathlib.Core.Path.{◌≡◌, refl, sym, ap, ◌∙◌}
use native.Mathlib.Numerals.{add-one}
use lib.ListN.{length}
use Rattle.depth_table.specs.Table.{table_ok}
use Rattle.arith.specs.Checks.{given}
use Rattle.choice.specs.Record.{LeastRecord}
use Rattle.choice.specs.Search.{chosen}
use Rattle.sheet.specs.State.{after, Open, Lengths}
use Rattle.sheet.specs.Place.{placed_samples, place_refusal, placed_in_turn}
use Rattle.sheet.specs.Compose.{missing, Task, compose_case, composed_to, composed_record, choice_refusal, Ready, compose_refusal}
use Rattle.sheet.specs.Laws.{Composes}
use Rattle.sheet.specs.declared.Sheet.{Sheet}
use Rattle.sheet.proofs.StateLaws.{opened}
use Rattle.sheet.proofs.ComposeLaws.{chosen-best, chosen-placed}
use Rattle.sheet.proofs.PlaceLaws.{place-accepted}
use Rattle.sheet.proofs.TurnLaws.{after_more, open_after}
use Rattle.sheet.proofs.InTurnLaws.{length-in-turn}
use Rattle.sheet.proofs.EndLaws.{lengths_hold, compose-ready}

-- the samples are those of placing the records in turn
pub composed-in-turn : (S : Sheet) (T : Task) (s : List ℕ) (k : ℕ) → composed_to S T s k ≡ placed_in_turn S T.material (composed_record S T s) s k
unfolding composed_to placed_in_turn
composed-in-turn S T s zero = refl
composed-in-turn S T s (suc k) =
    ap (λ (t : List ℕ). placed_samples (after k S) T.material t (composed_record S T s k)) (composed-in-turn S T s k)

module _ (S : Sheet) (T : Task) (s : List ℕ) (records : ℕ) (none : compose_refusal S (length s) T records ≡ 0) where
  -- the checks of the state and of the choices pass
  both : Ready S T (length s) records × (choice_refusal S T ≡ 0)
  unfolding compose_refusal
  both =
      let p = opened S (lengths_hold S T (length s) records) (table_ok T.material.table) (choice_refusal S T) none in
      (compose-ready S T (length s) records p.0, p.1)

  -- the k-th missing block
  module _ (k : ℕ) (more : k < missing S) where
    open-k : Open (after k S)
    open-k = open_after S k {u = after k S} both.0.is_open more refl

    none-k : choice_refusal (after k S) T ≡ 0
    unfolding choice_refusal
    none-k = both.1

    length-k : length (composed_to S T s k) ≡ length s
    length-k = ap length (composed-in-turn S T s k) ∙ length-in-turn S T.material (composed_record S T s) s k

    lengths-k :
        Lengths (after k S) (length (composed_to S T s k)) (length T.material.list) T.material.count (length T.material.texture)
    lengths-k =
        rw length-k
        (record {
          whole = both.0.lengths.whole;
          optional = both.0.lengths.optional;
          inside = both.0.lengths.inside;
          few = both.0.lengths.few;
        })

    accepted-k : place_refusal (after k S) (length (composed_to S T s k)) T.material (composed_record S T s k) ≡ 0
    accepted-k =
        chosen-placed (after k S) T (composed_to S T s k) open-k both.0.lengths.inside both.0.lengths.few both.0.sound none-k lengths-k

    least-k :
        LeastRecord (compose_case (after k S) T (composed_to S T s k)) (composed_record S T s k) (chosen (compose_case (after k S) T (composed_to S T s k))).1
    least-k = chosen-best (after k S) T (composed_to S T s k) open-k both.0.lengths.inside both.0.lengths.few both.0.sound none-k

  -- what is shown of composing, where it is not refused
  pub composes : Composes S T s
  unfolding composed_to
  composes =
      record {
        in_turn = composed-in-turn S T s;
        accepted = λ k more.
            (place-accepted _ (after k S) (composed_to S T s k) T.material (composed_record S T s k) (accepted-k k more)).0
            ∙ ap given (after_more S k {u = after k S} refl refl);
        left = λ k more.
            (place-accepted _ (after k S) (composed_to S T s k) T.material (composed_record S T s k) (accepted-k k more)).1
            ∙ ap (composed_to S T s) (sym (add-one k));
        least = least-k;
      }
