-- The lines of the records as the code reads them: a step, the loop over the blocks, and the end of the bytes.
use Rattle.std.proofs.Common.{ℕ, ◌+◌, ◌≤◌, ◌<◌, ◌≡◌, refl, sym, ◌∙◌, ap, ap₂, subst, arith, List, [], ◌∷◌, ◌++◌, map, length, length-append, drop, add-zero, Result, Ok, Err}
use Rattle.std.proofs.Common.{ℤ}
use Rattle.std.specs.Borrow.{Bor}
use Rattle.std.proofs.lemmas.List.{map-append}
use Rattle.std.proofs.Math.ListN.{set, get_or-append, length-map}
use Rattle.std.proofs.Math.Seq.{get_or_at}
use Rattle.arith.proofs.CheckLaws.{given-means, refused-means}
use Rattle.depth_table.specs.Table.{some_value}
use Rattle.pattern.specs.Refusal.{number_of, told}
use Rattle.pattern.specs.declared.refusals.Refusal.{Refusal}
use Rattle.record.specs.declared.Record.{Record}
use Rattle.record.specs.Record.{no_record}
use Rattle.record.specs.Lent.{fields_of}
use Rattle.sheet.specs.declared.PlaceInput.{PlaceInput}
use Rattle.sheet.specs.declared.Sheet.{Sheet}
use Rattle.sheet.specs.State.{state_of, after, blocks_of, Open}
use Rattle.sheet.specs.Place.{Material, Fits, place_refusal_by, placed_samples, place_answer_by, place_after_by, place_values_answer, place_values_after, placed_in_turn}
use Rattle.sheet.specs.Told.{material_in}
use Rattle.sheet.specs.Compose.{missing}
use Rattle.sheet.proofs.TurnLaws.{after_more}
use Rattle.sheet_grid.specs.Grid.{most_blocks}
use Rattle.sheet_grid.proofs.GridLaws.{records-few}
use Rattle.record_text.specs.Parsed.{found}
use Rattle.record_text.specs.Line.{record_line}
use Rattle.record_text.specs.Lines.{Lined, refused_at, read, line, ended}
use Rattle.record_text.proofs.LinesLaws.{line_refused, line_read, refused-read}
use Rattle.record_file.specs.Reading.{Aids, record_line_meaning, unchanged, record_lines}
use Rattle.record_read.specs.declared.blocks.Reading.{Reading}
use Rattle.record_read.specs.declared.lines.LineRefusal.{LineRefusal}
use Rattle.record_read.specs.Back.{in_turn, records_over}
use Rattle.record_read.specs.Told.{at_line, end_lined}
use Rattle.record_read.specs.Step.{one_list, meaning_in, Steps, Begun, ReadsAll, placed_all}
use Rattle.record_read.proofs.ReadLaws.{Going, going_start, going_more, going-refused, going_end, put_next, stored_all, same-refusal}
use Rattle.record_read.proofs.RestLaws.{in-turn-none, in-turn-more, in-turn-ext, place-means, placeable-after}

-- ---- a step

-- what a step answers, once a record's line has its form
abbrev pub step_of : Reading → Record → Bor (List ℕ) → Result Sheet LineRefusal → Result (Record × Reading) LineRefusal
step_of r f rest (Ok S) = Ok (f, record { rest = rest; line = r.line + 1; sheet = S })
step_of r f rest (Err e) = Err e

module _ (I : PlaceInput) (t : List ℕ) (r : Reading) (ok : Fits r.sheet (material_in r.sheet.n I) (length t)) where
  abbrev material : Material
  material = material_in r.sheet.n I

  -- of the table a value is asked
  abbrev refusal : Record → ℕ
  refusal f = place_refusal_by (some_value I.table.now) r.sheet (length t) material f

  means : (f : Record) → refusal f ≡ meaning_in r.sheet I f
  means = place-means (one_list I.list.words.now I.list.count I.texture.now) I.table.now r.sheet (length t) ok ok.valued

  -- the line has its form, and the record is placed, or refused
  module _ (f : Record) (rest : Bor (List ℕ)) (form : found f rest.now ≡ record_line r.rest.now) where
    pub step-placed :
        {t' : List ℕ} (a : Result Sheet Refusal) (x : Result Sheet LineRefusal) → x ≡ at_line r.line a → told (λ S. S) a ≡ place_values_answer r.sheet t material f
        → t' ≡ place_values_after r.sheet t material f → Steps I r t t' (step_of r f rest x)
    unfolding place_answer_by place_after_by
    step-placed (Ok S) x e a d =
        let g = given-means (refusal f) (after 1 r.sheet) S (sym a) in
        rw e
        (record {
          told = sym (line_read r.line (meaning_in r.sheet I) read (sym form) (sym (means f) ∙ g.0));
          stood = (refl, sym g.1, rw g.0 at d);
        })
    step-placed (Err n) x e a d =
        let g = refused-means (refusal f) (number_of n) (after 1 r.sheet) (sym a) in
        rw e
        (record {
          told =
              ap (λ (k : ℕ). refused_at k r.line) (g.0 ∙ means f)
              ∙ sym (line_refused r.line (meaning_in r.sheet I) read (sym form) (λ z. g.1 (means f ∙ z)));
          stood = tt;
        })

-- ---- the end of the bytes

abbrev pub sheet_after : Reading → Result Unit LineRefusal → Result Sheet LineRefusal
sheet_after r (Ok u) = Ok r.sheet
sheet_after r (Err e) = Err e

-- ---- one record more

pub stored_more :
    (l : List Record) (f : Record) (old : List (List ℤ)) {x : List (List ℤ)} {v : List ℤ} {i : ℕ} → length l ≡ i → x ≡ records_over l old
    → i < length old → v ≡ fields_of f → set x i v ≡ records_over (l ++ (f ∷ [])) old
stored_more l f old {x} {v} {i} c e h same =
    let n : i + 1 ≡ length (l ++ (f ∷ [])) = omega (arith, c, length-append l (f ∷ [])) in
    let w : x ≡ map fields_of l ++ drop i old = e ∙ ap (λ (j : ℕ). map fields_of l ++ drop j old) c in
    rw (same, map-append fields_of l (f ∷ []), ← n) (put_next [] (map fields_of l) (fields_of f) old (length-map l fields_of ∙ c) w h)

placed-more :
    (S : Sheet) (M : Material) (s : List ℕ) (l : List Record) (f : Record) {t v : List ℕ} {i : ℕ} → length l ≡ i
    → t ≡ placed_in_turn S M (in_turn l) s i → v ≡ placed_samples (after i S) M t f → v ≡ placed_in_turn S M (in_turn (l ++ (f ∷ []))) s (i + 1)
placed-more S M s l f {t} {v} {i} c e d =
    in-turn-more S M (in_turn (l ++ (f ∷ []))) s i {u = after i S} refl
    (e ∙ in-turn-ext S M (in_turn l) (in_turn (l ++ (f ∷ []))) s i (λ j h. sym (get_or-append l (f ∷ []) no_record j (omega (arith, c)))))
    (sym (get_or_at l f [] no_record i c)) d

-- ---- the loop

-- a sheet has at most 1,024 blocks
pub few-blocks : (S : Sheet) → Open S → blocks_of S ≤ most_blocks
few-blocks S o = records-few S.n S.width S.height o.low o.narrow o.short

reading-is : (q : Reading) {k : ℕ} {u : Sheet} → q.line ≡ k → q.sheet ≡ u → q ≡ record { rest = q.rest; line = k; sheet = u }
reading-is q e f = rw (← e, ← f)

module _ (I : PlaceInput) (from : Reading) (samples₀ : List ℕ) (records₀ : List (List ℤ)) where
  abbrev S : Sheet
  S = from.sheet

  abbrev M : Material
  M = material_in S.n I

  abbrev m : ℕ
  m = blocks_of S

  abbrev A : Aids
  A = one_list I.list.words.now I.list.count I.texture.now

  -- i blocks are read: where reading is, and what is left of the samples and the records
  pub record Turned (i : ℕ) (r : Reading) (samples : List ℕ) (records : List (List ℤ)) : Type 0 where
    pub stands : r ≡ record { rest = r.rest; line = from.line + i; sheet = after i S }
    pub going :
        Going record_line (record_line_meaning S.n A (length I.table.now)) unchanged m from.line tt from.rest.now i tt r.rest.now
        (λ l. (samples ≡ placed_in_turn S M (in_turn l) samples₀ i) × (records ≡ records_over l records₀))

  pub turned-start : Turned 0 from samples₀ records₀
  turned-start =
      record {
        stands = rw (add-zero from.line, add-zero S.placed);
        going =
            going_start record_line (record_line_meaning S.n A (length I.table.now)) unchanged m from.line tt from.rest.now
            (in-turn-none S M (in_turn []) samples₀, refl);
      }

  module _ {i : ℕ} {r : Reading} {samples : List ℕ} {records : List (List ℤ)} (now : Turned i r samples records) where
    -- the line as the loop counts it
    step-told :
        {x : Lined Record} → x ≡ line r.line (record_line r.rest.now) (meaning_in r.sheet I) read
        → x ≡ line (from.line + i) (record_line r.rest.now) (record_line_meaning S.n A (length I.table.now) tt) read
    step-told {x} e = subst (λ (q : Reading). x ≡ line q.line (record_line r.rest.now) (meaning_in q.sheet I) read) now.stands e

    -- the next record can be placed, and its line's number is small
    pub turned-begun :
        {n k : ℕ} → Begun I from n k → i < m → length samples ≡ n
        → (Fits r.sheet (material_in r.sheet.n I) (length samples)) × (r.line ≤ 10000)
    turned-begun {n} b h e =
        let l : i < missing S = omega (arith, b.empty) in
        let few = few-blocks S b.placeable.is_open in (
          rw e
              (subst (λ (q : Reading). Fits q.sheet (material_in q.sheet.n I) n) (sym now.stands)
              (placeable-after S n M i b.placeable l)),
          omega (arith, b.low, ap (λ (q : Reading). q.line) now.stands, few),
        )

    pub turned_more :
        {f : Record} {next : Reading} {drawn : List ℕ} {v : List ℤ} → i < m → i < length records₀
        → Steps I r samples drawn (Ok (f, next)) → v ≡ fields_of f → Turned (i + 1) next drawn (set records i v)
    turned_more {f} {next} {drawn} {v} h room st same =
        let number : next.line ≡ from.line + (i + 1) = omega (arith, st.stood.0, ap (λ (q : Reading). q.line) now.stands) in
        let sheet = after_more S i (ap (λ (q : Reading). q.sheet) now.stands) st.stood.1 in
        let placed = subst (λ (q : Reading). drawn ≡ placed_samples q.sheet (material_in q.sheet.n I) samples f) now.stands st.stood.2 in
        record {
          stands = reading-is next number sheet;
          going =
              going_more record_line (record_line_meaning S.n A (length I.table.now)) unchanged m from.line tt from.rest.now now.going h
              (λ l. (drawn ≡ placed_in_turn S M (in_turn l) samples₀ (i + 1)) × (set records i v ≡ records_over l records₀))
              (step-told st.told) refl
              (λ l c k. (placed-more S M samples₀ l f c k.0 placed, stored_more l f records₀ c k.1 room same));
        }

    pub turned-refused :
        {e : LineRefusal} {drawn : List ℕ} {new : List ℕ × List (List ℤ)} → i < m → Steps I r samples drawn (Err e)
        → ReadsAll I from samples₀ new (Err e)
    turned-refused {e} h st =
        let q : record_lines S.n A (length I.table.now) m from.line from.rest.now ≡ refused_at (number_of e.refusal) e.line =
        going-refused record_line (record_line_meaning S.n A (length I.table.now)) unchanged m from.line tt from.rest.now now.going h (step-told st.told) in
        record { told = rw q; done = tt }

    -- all blocks are read: something is left, or nothing is
    module _ {n : ℕ} (begun : Begun I from n (length records₀)) (last : i ≡ m) where
      all : record_lines S.n A (length I.table.now) m from.line from.rest.now ≡ read now.going.values r.rest.now
      all = going_end record_line (record_line_meaning S.n A (length I.table.now)) unchanged m from.line tt from.rest.now now.going (omega (arith, last))

      end-line : r.line ≡ from.line + m
      end-line = omega (arith, last, ap (λ (q : Reading). q.line) now.stands)

      left : (samples, records) ≡ placed_all M S samples₀ now.going.values
      left = rw (← last) (ap₂ (λ x y. (x, y)) now.going.kept.0 (stored_all (map fields_of now.going.values) records₀ now.going.kept.1 (omega (arith, last, begun.room, now.going.count))))

      pub turned-end : (x : Result Unit LineRefusal) → end_lined x ≡ ended r.line tt r.rest.now → ReadsAll I from samples₀ (samples, records) (sheet_after r x)
      turned-end x h = go r.rest.now refl x h
        where
          go : (s : List ℕ) → r.rest.now ≡ s → (x : Result Unit LineRefusal) → end_lined x ≡ ended r.line tt s
              → ReadsAll I from samples₀ (samples, records) (sheet_after r x)
          go [] q (Ok u) h = record { told = rw (all, q, left); done = ap (λ (q : Reading). q.sheet) now.stands ∙ ap (state_of S.n S.width S.height) (omega (arith, last, begun.empty)) }
          go [] q (Err e) h = refused-read h
          go (b ∷ s) q (Ok u) h = refused-read (sym h)
          go (b ∷ s) q (Err e) h = record { told = rw (all, q, ← end-line) (same-refusal (sym h)); done = tt }

-- what reading block by block cites
pub ruleset turns = (turned-start, turned-begun, turned_more)
