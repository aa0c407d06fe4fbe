-- What `compose` answers and leaves, by what its checks say.
use Prim.Native.Nat.{ℕ}
use mathlib.Core.Bool.{Bool}
use mathlib.Core.List.{List}
use mathlib.Core.Path.{◌≡◌, ap, ◌∙◌}
use borrow.Author.Tests.{eqb-true, leb-true}
use lib.Dec.{eqb, leb}
use lib.IntN.{ℤ}
use lib.ListN.{length}
use Rattle.arith.specs.Checks.{Answer, refused, answer}
use Rattle.arith.proofs.Bools.{both_of}
use Rattle.arith.proofs.CheckLaws.{answer-refused, lent-refused}
use Rattle.std.specs.Prelude.{Ok, Err}
use Rattle.pattern.specs.declared.refusals.Refusal.{Refusal}
use Rattle.pattern.specs.declared.refusals.Refusal.TheVariants as variant
use Rattle.pattern.specs.Refusal.{number_of, checked}
use Rattle.depth_table.specs.Table.{table_ok}
use Rattle.sheet.specs.State.{area, blocks_of, finished, lengths_ok, start_refusal}
use Rattle.sheet.specs.Compose.{missing, Task, Leaves, compose_lengths_ok, choice_refusal, Ready, compose_refusal, compose_answer, compose_after, compose_records}
use Rattle.sheet.specs.declared.Sheet.{Sheet}
use Rattle.sheet.proofs.StateLaws.{lengths-are, Opened}
use Rattle.pattern.proofs.AnswerLaws.{number-some}
use Rattle.sheet.proofs.RefusalLaws.{state-refused, table-refused, rest-decides, both-passed}

module _ (S : Sheet) (T : Task) (samples records : ℕ) where
  -- whether the lengths hold
  abbrev pub lengths_hold : Bool
  lengths_hold =
      compose_lengths_ok S samples (length T.material.list) T.material.count (length T.material.texture) (length T.original) records

  -- what then holds
  pub compose-ready :
      Opened S lengths_hold (table_ok T.material.table) → Ready S T samples records
  unfolding compose_lengths_ok
  compose-ready o =
      let a = both_of (lengths_ok S samples (length T.material.list) T.material.count (length T.material.texture)) _ o.right in
      let b = both_of (eqb (length T.original) (area S)) (leb (blocks_of S) records) a.1 in
      record {
        is_open = o.is;
        lengths = lengths-are S samples (length T.material.list) T.material.count (length T.material.texture) a.0;
        same = eqb-true (length T.original) (area S) b.0;
        sound = o.sound;
        room = leb-true (blocks_of S) records b.1;
      }

  module _ {l a : Bool} (judged : l ≡ lengths_hold) (tested : a ≡ table_ok T.material.table) where
    -- a refusal of the state is composing's
    pub compose-closed : (r : Refusal) → number_of r ≡ start_refusal S l 0 → number_of r ≡ compose_refusal S samples T records
    unfolding compose_refusal
    compose-closed r e = state-refused S _ _ _ judged tested r e

    module _ (going : 0 ≡ start_refusal S l 0) where
      -- a refusal of the table is
      pub compose-unsound : {r : Refusal} → Err r ≡ checked a variant.Table → number_of r ≡ compose_refusal S samples T records
      unfolding compose_refusal
      compose-unsound e = table-refused S _ _ _ judged tested going e

      -- past them, the rest decides
      pub compose-passed :
          Ok tt ≡ checked a variant.Table
          → (compose_refusal S samples T records ≡ choice_refusal S T) × Ready S T samples records
      unfolding compose_refusal
      compose-passed sound =
          (rest-decides S _ _ _ judged tested going sound, compose-ready (both-passed S _ _ 0 judged tested going sound))

-- ---- the answer and the slices

module _ (S : Sheet) (s : List ℕ) (T : Task) (old : List (List ℤ)) where
  -- a refusal is answered, and leaves everything as it was
  pub compose-refused :
      (k : Refusal) → number_of k ≡ compose_refusal S (length s) T (length old)
      → (refused (number_of k) ≡ compose_answer S s T (length old)) × (s ≡ compose_after S s T (length old))
      × (old ≡ compose_records S s T old)
  unfolding compose_answer compose_after compose_records
  compose-refused k e =
      let r : ℕ = compose_refusal S (length s) T (length old) in
      let h : r ≡ 0 → ⊥ = λ z. number-some k (e ∙ z) in
      (ap refused e ∙ answer-refused r (finished S, missing S) h, lent-refused r _ s h, lent-refused r _ old h)

  -- where the choices decide
  pub compose-by :
      compose_refusal S (length s) T (length old) ≡ choice_refusal S T
      → {x : Answer (Sheet × ℕ)} {u : List ℕ} {l : List (List ℤ)} → x ≡ answer (choice_refusal S T) (finished S, missing S)
      → Leaves (choice_refusal S T) S T s u old l
      → (x ≡ compose_answer S s T (length old)) × (u ≡ compose_after S s T (length old)) × (l ≡ compose_records S s T old)
  unfolding compose_answer compose_after compose_records
  compose-by passed e left = (rw passed e, rw passed left.samples_are, rw passed left.records_are)
