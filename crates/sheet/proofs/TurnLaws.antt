-- The loop that composes, turn by turn.
use Prim.Native.Nat.{ℕ, suc, ◌+◌, ◌<◌}
use mathlib.Core.List.{List}
use mathlib.Core.Logic.{◌⊎◌, inl, inr}
use mathlib.Core.Path.{◌≡◌, refl, sym, ap, ◌∙◌}
use native.Mathlib.Nat.{add_assoc, add-zero}
use native.Mathlib.Numerals.{add-one}
use native.Mathlib.Omega.{arith}
use lib.IntN.{ℤ}
use lib.ListN.{length, get_or, set, drop}
use lib.Seq.{drop-cons, set_at, append_snoc}
use Rattle.arith.specs.Lists.{list_of}
use Rattle.arith.proofs.ListLaws.{length-list_of}
use Rattle.record.specs.declared.Record.{Record}
use Rattle.record.specs.Lent.{fields_of}
use Rattle.sheet.specs.State.{after, Open}
use Rattle.sheet.specs.Place.{placed_samples}
use Rattle.sheet.specs.Compose.{missing, Task, chosen_next, composed_to, composed_record, over, choice_refusal}
use Rattle.sheet.specs.declared.Sheet.{Sheet}

-- ---- a slice whose first places are replaced

module _ {A : Type 0} (f : ℕ → A) (old : List A) where
  pub over_none : old ≡ over 0 f old
  unfolding over list_of
  over_none = refl

  pub over-more : (k : ℕ) {l : List A} {v : A} → l ≡ over k f old → v ≡ f k → k < length old → set l k v ≡ over (k + 1) f old
  unfolding over list_of
  over-more k e q h =
      rw (e, q, drop-cons old k (f k) h, add-one k, set_at (list_of f k) (get_or old k (f k)) (drop (suc k) old) (f k) k (length-list_of f k))
      (sym (append_snoc (list_of f k) (f k) (drop (suc k) old)))

-- ---- the state

pub after-none : (S : Sheet) → S ≡ after 0 S
after-none S = rw add-zero

pub after_more : (S : Sheet) (k : ℕ) {u v : Sheet} → u ≡ after k S → v ≡ after 1 u → v ≡ after (k + 1) S
after_more S k p q = rw (← add_assoc) (rw p at q)

pub open_after : (S : Sheet) (k : ℕ) {u : Sheet} → Open S → k < missing S → u ≡ after k S → Open u
open_after S k o h e =
    rw e
    (record {
      size = o.size;
      sides = o.sides;
      low = o.low;
      high = o.high;
      wide = o.wide;
      narrow = o.narrow;
      short = o.short;
      missing = omega (arith, o.missing);
    })

-- ---- the samples

pub composed-more :
    (S : Sheet) (T : Task) (s : List ℕ) (k : ℕ) {u : Sheet} {t v : List ℕ} {r : Record}
    → u ≡ after k S → t ≡ composed_to S T s k → r ≡ chosen_next u T t → v ≡ placed_samples u T.material t r → v ≡ composed_to S T s (k + 1)
unfolding composed_to
composed-more S T s k p q e h = rw add-one (rw (e, p, q) at h)

-- ---- the loop's invariant

-- k blocks are composed: what the loop holds, from what it began with (the names that end in 0)
pub record Going (S : Sheet) (T : Task) (samples0 : List ℕ) (records0 : List (List ℤ)) (k : ℕ) (state : Sheet) (samples : List ℕ) (records : List (List ℤ)) : Type 0 where
  pub at_k : state ≡ after k S
  pub painted : samples ≡ composed_to S T samples0 k
  pub records_are : records ≡ over k (λ i. fields_of (composed_record S T samples0 i)) records0
  pub begun : (k ≡ 0) ⊎ (choice_refusal S T ≡ 0)

module _ (S : Sheet) (T : Task) (samples0 : List ℕ) (records0 : List (List ℤ)) where
  -- before the first block
  pub going-none : Going S T samples0 records0 0 S samples0 records0
  unfolding composed_to
  going-none = record { at_k = after-none S; painted = refl; records_are = over_none _ records0; begun = inl refl }

  -- one block more: its record r is chosen, placed and stored
  pub going_more :
      {k : ℕ} {state next : Sheet} {samples painted : List ℕ} {records records' : List (List ℤ)} (r : Record)
      → Going S T samples0 records0 k state samples records → k < length records0 → choice_refusal S T ≡ 0
      → r ≡ chosen_next state T samples → next ≡ after 1 state → painted ≡ placed_samples state T.material samples r
      → records' ≡ set records k (fields_of r) → Going S T samples0 records0 (k + 1) next painted records'
  going_more {k} {state} {samples = samples} r g room none chosen-r e p q =
      let c : r ≡ composed_record S T samples0 k = rw (g.at_k, g.painted) at chosen-r in
      record {
        at_k = after_more S k g.at_k e;
        painted = composed-more S T samples0 k g.at_k g.painted chosen-r p;
        records_are = q ∙ over-more _ records0 k g.records_are (ap fields_of c) room;
        begun = inr none;
      }
