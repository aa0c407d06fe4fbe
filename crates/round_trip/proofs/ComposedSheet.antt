-- A composed sheet: what `compose` leaves, that `place` accepts its records in turn on an empty sheet, and that `write` takes them.
use Prim.Native.Nat.{ℕ, zero, suc, ◌+◌, ◌-◌, ◌≤◌, ◌<◌}
use mathlib.Core.Path.{◌≡◌, refl, sym, ◌∙◌, ap, subst}
use mathlib.Core.List.{List, []}
use mathlib.Core.Logic.{⊎_elim}
use native.Mathlib.Decide.{dec_lt}
use native.Mathlib.Nat.{zero-add, add-zero, add-suc}
use native.Mathlib.Omega.{arith}
use borrow.Author.Tests.{ltb-true}
use lib.IntN.{ℤ}
use lib.ListN.{length, get_or, drop, length-append, get_or-append}
use Rattle.arith.specs.Checks.{given}
use Rattle.arith.specs.Lists.{list_of}
use Rattle.arith.proofs.CheckLaws.{given-means}
use Rattle.arith.proofs.ListLaws.{length-list_of, list_of-at}
use Rattle.pattern.specs.Answer.{textured}
use Rattle.record.specs.declared.Record.{Record}
use Rattle.sheet.specs.declared.Sheet.{Sheet}
use Rattle.sheet.specs.State.{after, blocks_of, finished, lengths_ok, Lengths}
use Rattle.depth_table.specs.Table.{table_ok}
use Rattle.sheet.specs.Place.{Material, place_refusal_by, place_refusal, place_answer_by, place_answer, placed_in_turn}
use Rattle.sheet.specs.Compose.{missing, Task, composed_to, composed_record, over, choice_refusal, Ready, compose_refusal, compose_answer, compose_after, compose_records}
use Rattle.sheet.specs.Laws.{Composes}
use Rattle.sheet.proofs.StateLaws.{lengths-are, Opened, opened}
use Rattle.sheet.proofs.EndLaws.{lengths_hold, compose-ready}
use Rattle.sheet.proofs.InTurnLaws.{length-in-turn}
use Rattle.sheet.proofs.ComposedLaws.{composes}
use Rattle.record.specs.Meaning.{record_refusal}
use Rattle.record.specs.Lent.{record_at, record_in, fields_of}
use Rattle.record.proofs.MeaningLaws.{record-sound}
use Rattle.record.proofs.LentLaws.{record-back}
use Rattle.record_file.specs.Writing.{source_of, space_for, write_refusal}
use Rattle.record_file.proofs.MeaningLaws.{written-sound, record-small}
use Rattle.record_file.proofs.RefusalLaws.{parts-accepted}
use Rattle.record_read.proofs.RestLaws.{in-turn-ext}
use Rattle.record_read.specs.Back.{Lent}
use Rattle.round_trip.specs.Law.{TextureFits, emptied, composing, samples_composed, records_composed, AcceptedInTurn, ComposedFrom}
use Rattle.round_trip.proofs.LengthLaws.{small-lendable}

-- what `place` accepts, no check of it refuses
accepted-means : (S : Sheet) (s : List ℕ) (M : Material) (r : Record) {u : Sheet} → place_answer S s M r ≡ given u → place_refusal S (length s) M r ≡ 0
unfolding place_answer_by
accepted-means S s M r {u} e = (given-means (place_refusal S (length s) M r) (after 1 S) u e).0

-- ---- what `compose` leaves

module _ (S : Sheet) (T : Task) (C : Lent) where
  -- an answer that is given is the finished state, and no check failed
  pub composed-means :
      {F : Sheet} {k : ℕ} → composing S T C ≡ given (F, k)
      → (compose_refusal S (length C.samples) T (length C.records) ≡ 0) × (finished S ≡ F)
  unfolding compose_answer
  composed-means {F} {k} e =
      let g = given-means (compose_refusal S (length C.samples) T (length C.records)) (finished S, missing S) (F, k) e in
      (g.0, ap (λ (p : Sheet × ℕ). p.0) g.1)

  module _ (none : compose_refusal S (length C.samples) T (length C.records) ≡ 0) where
    -- there is a record for each missing block
    pub ready : Ready S T (length C.samples) (length C.records)
    unfolding compose_refusal
    ready =
        let m = length C.records in
        compose-ready S T (length C.samples) m
        (opened S (lengths_hold S T (length C.samples) m) (table_ok T.material.table) (choice_refusal S T) none).0

    samples-left : samples_composed S T C ≡ composed_to S T C.samples (missing S)
    unfolding compose_after
    samples-left = rw none

    -- the composed records, each of which can be lent
    whole : Composes S T C.samples
    whole = composes S T C.samples (length C.records) none

    record-right :
        (i : ℕ) → i < missing S
        → record_refusal S.n T.material.list T.material.count (textured T.material.texture) (length T.material.table)
        (composed_record S T C.samples i) ≡ 0
    unfolding place_refusal_by
    record-right i h =
        let M = T.material in
        let s = composed_to S T C.samples i in
        (opened (after i S) (lengths_ok (after i S) (length s) (length M.list) M.count (length M.texture)) (table_ok M.table) _
        (accepted-means (after i S) s M (composed_record S T C.samples i) (whole.accepted i h))).1

    abbrev new : List (List ℤ)
    new = list_of (λ i. fields_of (composed_record S T C.samples i)) (missing S)

    fields_at : (i : ℕ) → i < missing S → get_or (records_composed S T C) i [] ≡ fields_of (composed_record S T C.samples i)
    unfolding compose_records over
    fields_at i h =
        let f : ℕ → List ℤ = λ i. fields_of (composed_record S T C.samples i) in
        rw none
        (get_or-append new (drop (missing S) C.records) [] i (omega (arith, length-list_of f (missing S))) ∙ list_of-at f [] (missing S) i h)

    -- the record at each place
    pub record-left : (i : ℕ) → i < missing S → record_at (records_composed S T C) i ≡ composed_record S T C.samples i
    record-left i h =
        let M = T.material in
        let r = composed_record S T C.samples i in
        ap record_in (fields_at i h)
        ∙ record-back r
        (small-lendable r (record-small S.n M.list M.count (textured M.texture) (length M.table) r ready.lengths.few (record-right i h)))

    -- each is accepted on its turn, in placing and in writing
    pub record-accepted : (i : ℕ) → i < missing S → AcceptedInTurn S T.material (record_at (records_composed S T C)) C.samples i
    record-accepted i h =
        let M = T.material in
        let at : ℕ → Record = record_at (records_composed S T C) in
        let made : ℕ → Record = composed_record S T C.samples in
        let s : placed_in_turn S M at C.samples i ≡ composed_to S T C.samples i =
        in-turn-ext S M at made C.samples i (λ j l. record-left j (omega arith)) ∙ sym (whole.in_turn i) in
        record {
          placed = rw (s, record-left i h) (whole.accepted i h);
          writable =
              rw (record-left i h)
              (written-sound S.n M.list M.count (textured M.texture) (length M.table) (made i) (record-right i h));
        }

    -- and there is a place for each
    pub composed-room : missing S ≤ length (records_composed S T C)
    unfolding compose_records over
    composed-room =
        let f : ℕ → List ℤ = λ i. fields_of (composed_record S T C.samples i) in
        rw none (omega (arith, length-append new (drop (missing S) C.records), length-list_of f (missing S)))

-- ---- its records are those that `place` accepts in turn on an empty sheet

-- records placed in turn, and others after them
in-turn-joined :
    (S : Sheet) (M : Material) (f : ℕ → Record) (s : List ℕ) (k : ℕ)
    → placed_in_turn S M (λ j. f (S.placed + j)) (placed_in_turn (emptied S) M f s S.placed) k ≡ placed_in_turn (emptied S) M f s (S.placed + k)
unfolding placed_in_turn
in-turn-joined S M f s zero = rw add-zero
in-turn-joined S M f s (suc k) = rw (add-suc, zero-add, in-turn-joined S M f s k)

module _
    (S : Sheet) (T : Task) (C : Lent) (first : List ℕ) (at : ℕ → Record) (from : ComposedFrom S T C first at)
    (none : compose_refusal S (length C.samples) T (length C.records) ≡ 0)
  where
    abbrev all : Composes S T C.samples
    all = whole S T C none

    record_is : (j : ℕ) → j < missing S → at (S.placed + j) ≡ composed_record S T C.samples j
    record_is j h = from.composed j h ∙ record-left S T C none j h

    length-k : (k : ℕ) → length (composed_to S T C.samples k) ≡ length first
    length-k k =
        ap length (all.in_turn k)
        ∙ length-in-turn S T.material (composed_record S T C.samples) C.samples k
        ∙ ap length from.lent
        ∙ length-in-turn (emptied S) T.material at first S.placed

    -- those of composing
    later-accepted :
        (j : ℕ) → j < missing S
        → place_refusal (after (S.placed + j) (emptied S)) (length first) T.material (at (S.placed + j)) ≡ 0
    later-accepted j h =
        rw (zero-add (S.placed + j), record_is j h, ← length-k j)
        (accepted-means (after j S) (composed_to S T C.samples j) T.material (composed_record S T C.samples j) (all.accepted j h))

    -- each of them
    pub each-accepted : (i : ℕ) → i < blocks_of S → place_refusal (after i (emptied S)) (length first) T.material (at i) ≡ 0
    each-accepted i h = go (dec_lt i S.placed)
      where
        go : Dec (i < S.placed) → place_refusal (after i (emptied S)) (length first) T.material (at i) ≡ 0
        go (yes l) =
            rw (← length-in-turn (emptied S) T.material at first i)
            (accepted-means (after i (emptied S)) (placed_in_turn (emptied S) T.material at first i) T.material (at i) (from.accepted i l))
        go (no l) =
            let e : S.placed + (i - S.placed) ≡ i = omega arith in
            subst (λ (k : ℕ). place_refusal (after k (emptied S)) (length first) T.material (at k) ≡ 0) e (later-accepted (i - S.placed) (omega arith))

    -- the composed samples are those of placing all records in turn
    pub composed-drawn : samples_composed S T C ≡ placed_in_turn (emptied S) T.material at first (blocks_of S)
    composed-drawn =
        let e : S.placed + missing S ≡ blocks_of S = omega (arith, (ready S T C none).is_open.missing) in
        samples-left S T C none
        ∙ all.in_turn (missing S)
        ∙ in-turn-ext S T.material (composed_record S T C.samples) (λ j. at (S.placed + j)) C.samples (missing S) (λ i h. sym (record_is i h))
        ∙ ap (λ (t : List ℕ). placed_in_turn S T.material (λ j. at (S.placed + j)) t (missing S)) from.lent
        ∙ in-turn-joined S T.material at first (missing S)
        ∙ ap (placed_in_turn (emptied S) T.material at first) e

-- ---- and so `write` takes them

module _
    (S : Sheet) (M : Material) (first : List ℕ) (at : ℕ → Record) (some : 0 < blocks_of S)
    (each : (i : ℕ) → i < blocks_of S → place_refusal (after i (emptied S)) (length first) M (at i) ≡ 0)
  where
    -- what `place` found right of the state, the lengths and the table, and of each record
    checked :
        (i : ℕ) → i < blocks_of S
        → Opened (after i (emptied S)) (lengths_ok (after i (emptied S)) (length first) (length M.list) M.count (length M.texture)) (table_ok M.table)
        × (record_refusal S.n M.list M.count (textured M.texture) (length M.table) (at i) ≡ 0)
    unfolding place_refusal_by
    checked i h =
        opened (after i (emptied S)) (lengths_ok (after i (emptied S)) (length first) (length M.list) M.count (length M.texture)) (table_ok M.table) _ (each i h)

    pub lengths : Lengths S (length first) (length M.list) M.count (length M.texture)
    lengths =
        let l = lengths-are (after 0 (emptied S)) (length first) (length M.list) M.count (length M.texture) (checked 0 some).0.right in
        record { whole = l.whole; optional = l.optional; inside = l.inside; few = l.few }

    pub accepted-writes :
        (records space : ℕ) → blocks_of S ≤ records → space_for (length M.table) (blocks_of S) ≤ space
        → write_refusal (source_of (finished S) M.table at) M.list M.count records space ≡ 0
    accepted-writes records space enough room =
        let o = (checked 0 some).0 in
        parts-accepted (source_of (finished S) M.table at) M.list M.count records space
        (record {
          size = o.is.size;
          lengths = record { inside = lengths.inside; few = lengths.few; enough = enough; room = room };
          sides = o.is.sides;
          done = refl;
          sound = o.sound;
          each = λ i l. written-sound S.n M.list M.count (textured M.texture) (length M.table) (at i) (checked i l).1;
        })

    -- the texture is right for reading them
    pub accepted-fits : TextureFits (source_of (finished S) M.table at) M.texture
    accepted-fits =
        record {
          size = lengths.optional;
          lent = λ i l e.
              let r = record-sound S.n M.list M.count (textured M.texture) (length M.table) (at i) (checked i l).1 in
              ltb-true 0 (length M.texture) (⊎_elim (λ w. absurd (omega (arith, e, w.0))) (λ w. w.2) r.names);
        }
