-- Composing: no choice or placing that it makes is refused where the checks pass.
use Prim.Native.Nat.{ℕ, ◌*◌, ◌≤◌}
use mathlib.Core.Bool.{Bool, true, false, cond}
use mathlib.Core.List.{List, []}
use mathlib.Core.Logic.{◌⊎◌, inl, inr, ⊎_elim}
use mathlib.Core.Path.{◌≡◌, refl, sym, ap, ◌∙◌}
use native.Mathlib.Omega.{arith}
use borrow.Author.Tests.{lt-ltb}
use lib.ListN.{length}
use Rattle.depth_table.specs.Table.{table_ok}
use Rattle.pattern.proofs.SizeLaws.{one-le-square}
use Rattle.choice.specs.Case.{Case}
use Rattle.choice.specs.Refusal.{choose_refusal}
use Rattle.record.specs.declared.Record.{Record}
use Rattle.choice.specs.Record.{LeastRecord, prediction_of}
use Rattle.choice.specs.Search.{chosen}
use Rattle.choice.proofs.AcceptLaws as accept
use Rattle.choice.proofs.AcceptLaws.{words-at, accepted}
use Rattle.choice.proofs.LeastLaws.{chosen-least}
use Rattle.choice.proofs.AnswerLaws.{refused-for, given-for}
use Rattle.choice.proofs.ReachLaws.{reach-enough}
use Rattle.sheet_grid.specs.Samples.{cut, written}
use Rattle.sheet_grid.proofs.NeighbourLaws.{length-neighbours}
use Rattle.sheet_grid.proofs.SampleLaws.{length_cut}
use Rattle.record.proofs.MeaningLaws.{sound-record}
use Rattle.sheet.specs.State.{area, next_x, next_y, Open, Lengths}
use Rattle.sheet_grid.proofs.GridLaws.{blocks-few}
use Rattle.record.specs.Meaning.{record_refusal}
use Rattle.pattern.specs.Answer.{textured}
use Rattle.arith.specs.Checks.{Answer, given, refused, lent}
use Rattle.arith.proofs.CheckLaws.{lent-refused}
use Rattle.choice.specs.Answer.{choose_answer}
use Rattle.sheet.specs.Place.{next_case, next_texture, draw_refusal, place_refusal_by, place_refusal}
use Rattle.sheet.specs.Compose.{Task, compose_case, chosen_next, chosen_block, composed_next, choice_refusal}
use Rattle.sheet.specs.declared.Sheet.{Sheet}
use Rattle.sheet.specs.Next.{Next}
use Rattle.sheet.proofs.StateLaws.{lengths-do, open_none}

-- ---- lengths

-- texture of a block is none or n * n samples, and lent where the sheet's is
pub texture-length : (S : Sheet) (t : List ℕ) → (length (next_texture S t) ≡ 0) ⊎ (length (next_texture S t) ≡ S.n * S.n)
texture-length S t = go (textured t) _ (length_cut S.n S.width _ _ t)
  where
    go : (b : Bool) (l : List ℕ) {k : ℕ} → length l ≡ k → (length (cond b l []) ≡ 0) ⊎ (length (cond b l []) ≡ k)
    go true l e = inr e
    go false l e = inl refl

pub textured-next : (S : Sheet) (t : List ℕ) → 1 ≤ S.n → textured (next_texture S t) ≡ textured t
textured-next S t h = go (textured t) _ (rw (length_cut S.n S.width _ _ t) (one-le-square h))
  where
    go : (b : Bool) (l : List ℕ) → 1 ≤ length l → textured (cond b l []) ≡ b
    go true l h = lt-ltb 0 (length l) h
    go false l h = refl

-- ---- a record that was chosen is not refused

module _ (C : Case) (none : choose_refusal C ≡ 0) where
  abbrev best : Record
  best = (chosen C).0

  chosen-sound : record_refusal C.n C.list C.count (textured C.texture) (length C.table) best ≡ 0
  chosen-sound =
      let a = accepted C none in
      let w = (chosen-least C a.some).within in
      let p = (reach-enough C).passes none best w in
      sound-record C.n C.list C.count (textured C.texture) (length C.table) best
      (record {
        names =
            ⊎_elim
            (λ p. inl (p.0, p.1, words-at C.n C.list C.count a.words best.entry p.1))
            (λ p. inr (p.0, p.1, lt-ltb 0 (length C.texture) p.2))
            w.pattern_in;
        allowed = p.0;
        usable = p.1.0;
      })

-- ---- the choice for a block is refused where composing is

module _ (S : Sheet) (T : Task) (s : List ℕ) (o : Open S) (words : T.material.count ≤ length T.material.list) (few : T.material.count ≤ 9999) (sound : table_ok T.material.table ≡ true) where
  pub choose-refusal : choose_refusal (compose_case S T s) ≡ choice_refusal S T
  unfolding choose_refusal choice_refusal
  choose-refusal =
      rw (
        o.size,
        accept.lengths-do S.n (length T.material.list) T.material.count _ _ _
            (record {
              bordered = length-neighbours S.n S.width S.placed s;
              square = length_cut S.n S.width (next_x S) (next_y S) T.original;
              optional = texture-length S T.material.texture;
              inside = words;
              few = few;
            }),
        sound,
        textured-next S T.material.texture (omega (arith, o.low)),
      )

  -- ---- and the record chosen is placed

  module _ (none : choice_refusal S T ≡ 0) where
    pub chosen-best : LeastRecord (compose_case S T s) (chosen_next S T s) (chosen (compose_case S T s)).1
    chosen-best = chosen-least (compose_case S T s) (accepted (compose_case S T s) (choose-refusal ∙ none)).some

    pub chosen-record :
        record_refusal S.n T.material.list T.material.count (textured T.material.texture) (length T.material.table) (chosen_next S T s) ≡ 0
    chosen-record =
        rw (sym (textured-next S T.material.texture (omega (arith, o.low)))) (chosen-sound (compose_case S T s) (choose-refusal ∙ none))

    pub chosen-placed :
        Lengths S (length s) (length T.material.list) T.material.count (length T.material.texture)
        → place_refusal S (length s) T.material (chosen_next S T s) ≡ 0
    unfolding place_refusal_by
    chosen-placed l = open_none S _ (table_ok T.material.table) _ o (lengths-do S _ _ _ _ l) sound ∙ chosen-record

-- ---- one block: the choice is made, and its record drawn

module _ (C : Case) {r : Record} {cost count : ℕ} (e : given (r, cost, count) ≡ choose_answer C) where
  -- a record that was chosen is not refused
  pub chosen-accepted : draw_refusal C r ≡ 0
  chosen-accepted = let m = given-for C e in rw m.1 (chosen-sound C m.0)

  -- it is drawn
  pub chosen-drawn :
      (w x y : ℕ) (s : List ℕ) {u : List ℕ} → u ≡ lent (draw_refusal C r) (written C.n w x y (prediction_of C r) s) s
      → u ≡ chosen_block C.n w x y C s
  unfolding chosen_block
  chosen-drawn w x y s q = let m = given-for C e in rw m.0 (rw (m.1, chosen-sound C m.0) at q)

-- a choice that is refused alters nothing
pub chosen-never :
    (C : Case) (w x y : ℕ) (s : List ℕ) {k : ℕ} → refused k ≡ choose_answer C → s ≡ chosen_block C.n w x y C s
unfolding chosen_block
chosen-never C w x y s e = lent-refused (choose_refusal C) _ s (refused-for C e).1

-- the original samples of a sheet with a block to place have a part for it
pub original-next :
    (S : Sheet) (l : List ℕ) → Open S → length l ≡ area S → next_texture S l ≡ cut S.n S.width (next_x S) (next_y S) l
original-next S l o e = rw (lt-ltb 0 (length l) (omega (arith, e, o.missing, blocks-few S.n S.width S.height)))

-- the choice for the next place, from what the code has in hand
pub choose-next :
    (S : Sheet) (T : Task) (s : List ℕ) {n w x y : ℕ} → Next S n w x y → length T.original ≡ area S
    → {C : Case} {a : Answer (Record × ℕ × ℕ)} {u : List ℕ} → C ≡ next_case S T.material (next_texture S T.original) T.reach s
    → a ≡ choose_answer C → u ≡ chosen_block C.n w x y C s
    → (a ≡ choose_answer (compose_case S T s)) × (u ≡ composed_next S T s)
choose-next S T s at whole {C} e p q =
    let f : C ≡ compose_case S T s = e ∙ ap (λ (l : List ℕ). next_case S T.material l T.reach s) (original-next S T.original at.is_open whole) in
    (p ∙ ap choose_answer f, rw (at.wide, at.column, at.row) at (rw f at q))
