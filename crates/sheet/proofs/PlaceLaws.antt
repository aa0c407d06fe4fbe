-- What `place` answers and leaves, refused or not.
use Prim.Native.Nat.{ℕ}
use mathlib.Core.Bool.{Bool, true}
use mathlib.Core.List.{List}
use mathlib.Core.Path.{◌≡◌, refl, sym, ap, ◌∙◌}
use lib.ListN.{length}
use Rattle.arith.specs.Checks.{refused, given, lent}
use Rattle.arith.proofs.CheckLaws.{answer-refused, refused-by, given_by, lent-refused}
use Rattle.std.specs.Prelude.{Ok, Err}
use Rattle.depth_table.specs.Table.{some_value}
use Rattle.pattern.specs.declared.refusals.Refusal.{Refusal}
use Rattle.pattern.specs.declared.refusals.Refusal.TheVariants as variant
use Rattle.pattern.specs.Refusal.{number_of, checked}
use Rattle.record.specs.declared.Record.{Record}
use Rattle.sheet_grid.proofs.SampleLaws.{length-written}
use Rattle.sheet.specs.State.{after, lengths_ok, start_refusal}
use Rattle.sheet.specs.Place.{Material, Fits, placed_samples, material_refusal, place_refusal_by, place_answer_by, place_after_by}
use Rattle.sheet.specs.declared.Sheet.{Sheet}
use Rattle.sheet.proofs.StateLaws.{lengths-are}
use Rattle.pattern.proofs.AnswerLaws.{number-some}
use Rattle.sheet.proofs.RefusalLaws.{state-refused, table-refused, rest-decides, both-passed}

-- placing keeps the number of samples
pub length-placed : (S : Sheet) (M : Material) (s : List ℕ) (r : Record) → length (placed_samples S M s r) ≡ length s
unfolding placed_samples
length-placed S M s r = length-written _ _ _ _ _ s

module _ (asked : Bool) (S : Sheet) (s : List ℕ) (M : Material) (r : Record) where
  pub place-refused :
      {k : ℕ} → k ≡ place_refusal_by asked S (length s) M r → (k ≡ 0 → ⊥)
      → (refused k ≡ place_answer_by asked S s M r) × (s ≡ place_after_by asked S s M r)
  unfolding place_answer_by place_after_by
  place-refused {k} e h = (
    ap refused e ∙ answer-refused (place_refusal_by asked S (length s) M r) (after 1 S) (λ z. h (e ∙ z)),
    lent-refused (place_refusal_by asked S (length s) M r) (placed_samples S M s r) s (λ z. h (e ∙ z)),
  )

  -- what is not refused
  pub place-accepted :
      place_refusal_by asked S (length s) M r ≡ 0
      → (place_answer_by asked S s M r ≡ given (after 1 S)) × (place_after_by asked S s M r ≡ placed_samples S M s r)
  unfolding place_answer_by place_after_by
  place-accepted e = (rw e, rw e)

-- ---- check by check

module _ (asked : Bool) (S : Sheet) (s : List ℕ) (M : Material) (r : Record) {l : Bool} (measured : l ≡ lengths_ok S (length s) (length M.list) M.count (length M.texture)) where
  -- the state is refused
  pub open-refused :
      (k : Refusal) → number_of k ≡ start_refusal S l 0
      → (refused (number_of k) ≡ place_answer_by asked S s M r) × (s ≡ place_after_by asked S s M r)
  unfolding place_refusal_by
  open-refused k e = place-refused asked S s M r (state-refused S _ asked _ measured refl k e) (number-some k)

  module _ (going : 0 ≡ start_refusal S l 0) where
    -- the table is refused
    pub asked-refused :
        {k : Refusal} → Err k ≡ checked asked variant.Table
        → (refused (number_of k) ≡ place_answer_by asked S s M r) × (s ≡ place_after_by asked S s M r)
    unfolding place_refusal_by
    asked-refused {k} e = place-refused asked S s M r (table-refused S _ asked _ measured refl going e) (number-some k)

    module _ (sound : Ok tt ≡ checked asked variant.Table) where
      -- past that, the record decides
      drawing-decides : place_refusal_by asked S (length s) M r ≡ material_refusal S M r
      unfolding place_refusal_by
      drawing-decides = rest-decides S _ asked _ measured refl going sound

      pub drawing-fits : (asked ≡ true → some_value M.table ≡ true) → Fits S M (length s)
      drawing-fits valued =
          let o = both-passed S _ asked 0 measured refl going sound in
          record {
            valued = valued o.sound;
            is_open = o.is;
            lengths = lengths-are S (length s) (length M.list) M.count (length M.texture) o.right;
          }

      -- k is what drawing answers, and u what it leaves
      module _ {u : List ℕ} (left : u ≡ lent (material_refusal S M r) (placed_samples S M s r) s) where
        after-drawing : u ≡ place_after_by asked S s M r
        unfolding place_after_by
        after-drawing = rw drawing-decides left

        pub drawing-refused :
            (k : Refusal) → number_of k ≡ material_refusal S M r
            → (refused (number_of k) ≡ place_answer_by asked S s M r) × (u ≡ place_after_by asked S s M r)
        unfolding place_answer_by
        drawing-refused k e = (refused-by (after 1 S) (e ∙ sym drawing-decides) (number-some k), after-drawing)

        pub drawing-done :
            {T : Sheet} → 0 ≡ material_refusal S M r → T ≡ after 1 S
            → (given T ≡ place_answer_by asked S s M r) × (u ≡ place_after_by asked S s M r)
        unfolding place_answer_by
        drawing-done e p = (given_by (e ∙ sym drawing-decides) refl p, after-drawing)
