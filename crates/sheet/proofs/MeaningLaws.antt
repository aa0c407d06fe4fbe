-- The pattern of a record that is drawn for a case, and what drawing answers and leaves.
use Prim.Native.Nat.{ℕ, zero, suc, ◌*◌, ◌<◌}
use mathlib.Core.Bool.{Bool, true, not}
use mathlib.Core.List.{List}
use mathlib.Core.Path.{◌≡◌, refl, sym, ap, ◌∙◌}
use native.Mathlib.Omega.{arith}
use borrow.Author.Tests.{eq-eqb, ne_eqb, lt-ltb, ltb-true}
use lib.Dec.{eqb, ltb}
use lib.IntN.{ℤ}
use lib.ListN.{length}
use Rattle.arith.specs.Checks.{Answer, given, refused, lent}
use Rattle.arith.proofs.BitLaws.{bits-lt}
use Rattle.arith.proofs.CheckLaws.{lent-given, lent-refused}
use Rattle.depth_table.specs.Table.{some_value}
use Rattle.pattern.specs.Answer.{textured, samples_refusal, contour_answer}
use Rattle.pattern.specs.Contour.{contour_of}
use Rattle.pattern.specs.Size.{size_ok, word_ok}
use Rattle.choice.specs.Case.{Case}
use Rattle.choice.specs.Record.{pattern_of, prediction_of}
use Rattle.prediction.specs.Block.{predicted}
use Rattle.sheet_grid.specs.Samples.{written}
use Rattle.record.specs.declared.Record.{Record}
use Rattle.record.specs.Meaning.{Named, listed, contour, pattern_named, record_meaning}
use Rattle.record.proofs.MeaningLaws.{record-sound, meaning-given, meaning-refused, contour-lit, pattern-fits}
use Rattle.sheet.specs.Place.{Drawable, draw_refusal}

-- no contour has a bit from n * n up
pub contour-fits : (n : ℕ) (t : List ℕ) → word_ok n (contour_of n t) ≡ true
unfolding contour_of
contour-fits n t = lt-ltb _ _ (bits-lt _ (n * n))

-- and the contour of n * n samples is not refused
pub contour-given : (n : ℕ) (t : List ℕ) → size_ok n ≡ true → length t ≡ n * n → contour_answer n t ≡ given (contour_of n t)
unfolding contour_answer samples_refusal
contour-given n t size full = rw (size, eq-eqb _ _ full)

-- texture is lent where it is not empty
not-zero : (k : ℕ) → not (eqb k 0) ≡ ltb 0 k
not-zero zero = refl
not-zero (suc k) = rw (ne_eqb (suc k) 0 (λ z. omega arith), lt-ltb 0 (suc k) (omega arith))

pub textured-by : (t : List ℕ) {empty : Bool} → empty ≡ eqb (length t) 0 → not empty ≡ textured t
textured-by t e = rw e (not-zero (length t))

module _ (C : Case) (r : Record) where
  -- what the record means
  abbrev pub meaning : Answer Named
  meaning = record_meaning C.n C.list C.count (textured C.texture) (length C.table) r

  -- a pattern of the list
  pub case-listed : {w : ℕ} → given (listed w) ≡ meaning → w ≡ pattern_of C r
  case-listed e =
      sym (ap (pattern_named (contour_of C.n C.texture)) (meaning-given C.n C.list C.count (textured C.texture) (length C.table) r e).1)

  -- the contour of the texture
  pub case-contour : given contour ≡ meaning → contour_of C.n C.texture ≡ pattern_of C r
  case-contour e =
      sym (ap (pattern_named (contour_of C.n C.texture)) (meaning-given C.n C.list C.count (textured C.texture) (length C.table) r e).1)

  -- a record that means something is not refused
  pub case-named : {x : Named} → given x ≡ meaning → draw_refusal C r ≡ 0
  case-named e = (meaning-given C.n C.list C.count (textured C.texture) (length C.table) r e).0

  -- the texture is whole where the contour is meant, whatever the table
  pub case-lit :
      (values : ℕ) {m : ℕ} → given contour ≡ record_meaning C.n C.list C.count (textured C.texture) values r
      → (0 < length C.texture → length C.texture ≡ m) → length C.texture ≡ m
  case-lit values e lit =
      lit (ltb-true 0 (length C.texture) (contour-lit C.n C.list C.count (textured C.texture) values r e))

  -- a record that is not refused can be drawn: its pattern marks samples of the block only, and its offsets are allowed
  module _ (none : draw_refusal C r ≡ 0) where
    pub case-drawable : {w : ℕ} → w ≡ pattern_of C r → some_value C.table ≡ true → Drawable C.n w C.table r.off0 r.off1
    case-drawable p some =
        let q = record-sound C.n C.list C.count (textured C.texture) (length C.table) r none in
        let fits = pattern-fits C.n C.list C.count (textured C.texture) (length C.table) r _ (contour-fits C.n C.texture) none in
        record { inside = rw p fits; valued = some; allowed = q.allowed; usable = q.usable }

    -- and what is drawn is its prediction
    pub case-drawn :
        (w i j : ℕ) (s : List ℕ) {word : ℕ} {u : List ℕ} {z0 z1 : ℤ} → word ≡ pattern_of C r → z0 ≡ r.off0 → z1 ≡ r.off1
        → u ≡ written C.n w i j (predicted C.n word C.neighbours C.table z0 z1) s
        → (0 ≡ draw_refusal C r) × (u ≡ lent (draw_refusal C r) (written C.n w i j (prediction_of C r) s) s)
    case-drawn w i j s word f0 f1 q = (sym none, rw (word, f0, f1) at q ∙ lent-given (draw_refusal C r) _ s none)

  -- the record is refused
  pub case-refused : {k : ℕ} (w i j : ℕ) (s : List ℕ) → refused k ≡ meaning → (k ≡ draw_refusal C r) × (s ≡ lent (draw_refusal C r) (written C.n w i j (prediction_of C r) s) s)
  case-refused w i j s e =
      let m = meaning-refused C.n C.list C.count (textured C.texture) (length C.table) r e in
      (m.0, lent-refused (draw_refusal C r) _ s (λ z. m.1 (m.0 ∙ z)))
