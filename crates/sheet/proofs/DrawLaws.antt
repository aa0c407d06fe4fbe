-- What the steps of drawing answer and leave.
use Prim.Native.Nat.{ℕ, ◌*◌, ◌<◌}
use mathlib.Core.Bool.{true, cond}
use mathlib.Core.List.{List, []}
use mathlib.Core.Logic.{⊎_elim}
use mathlib.Core.Path.{◌≡◌, ap, ◌∙◌}
use native.Mathlib.Omega.{arith}
use borrow.Author.Tests.{eq-eqb}
use lib.IntN.{ℤ}
use lib.ListN.{length}
use Rattle.std.specs.Prelude.{Result, IsOk}
use Rattle.arith.specs.Checks.{lent}
use Rattle.choice.proofs.ToldLaws.{told-ok}
use Rattle.depth_table.specs.Table.{some_value}
use Rattle.pattern.specs.declared.refusals.Refusal.{Refusal}
use Rattle.pattern.specs.Refusal.{refusal_in, told}
use Rattle.pattern.specs.Answer.{samples_refusal, textured}
use Rattle.pattern.specs.Size.{size_ok}
use Rattle.pattern.proofs.SizeLaws.{size-bounds}
use Rattle.block.specs.Block.{capacity, block_of, samples_of}
use Rattle.block.specs.Answer.{block_after, samples_after}
use Rattle.block.proofs.BlockLaws.{samples-again}
use Rattle.prediction.specs.Answer.{lengths_ok, predict_refusal_by, predict_answer_by, predict_block_by, predict_values_answer, predict_values_block}
use Rattle.prediction.specs.Block.{predicted}
use Rattle.prediction.proofs.BlockLaws.{length-predicted}
use Rattle.choice.specs.Case.{Case}
use Rattle.choice.specs.Record.{prediction_of}
use Rattle.record.specs.declared.Record.{Record}
use Rattle.sheet_grid.specs.Neighbours.{neighbours}
use Rattle.sheet_grid.specs.Counts.{left_count, top_count, counted}
use Rattle.sheet_grid.specs.Samples.{written, cut, cut_block}
use Rattle.sheet_grid.proofs.NeighbourLaws.{length-neighbours}
use Rattle.sheet_grid.proofs.PlacedLaws.{neighbours-counted}
use Rattle.sheet_grid.proofs.SampleLaws.{cut-block}
use Rattle.sheet.specs.Place.{Material, Drawable, next_texture, place_case, placed_samples, draw_refusal, material_refusal}
use Rattle.sheet.specs.declared.Sheet.{Sheet}
use Rattle.sheet.specs.Next.{Next}
use Rattle.sheet.proofs.RefusalLaws.{accepted-ok}
use Rattle.sheet.proofs.ComposeLaws.{textured-next, texture-length}

-- ---- the block of a pattern, drawn by way of an array and a block

-- nothing is refused of what can be drawn
pub drawable-none :
    {n w neighbours samples : ℕ} {t : List ℕ} {off0 off1 : ℤ} → size_ok n ≡ true → neighbours ≡ 4 * n → samples ≡ n * n → Drawable n w t off0 off1
    → predict_refusal_by (some_value t) n w neighbours (length t) off0 off1 samples ≡ 0
unfolding predict_refusal_by lengths_ok
drawable-none size near full p =
    rw (size, eq-eqb _ _ near, eq-eqb _ _ full, p.valued, p.inside, p.allowed, p.usable)

module _ (n word : ℕ) (near t : List ℕ) (off0 off1 : ℤ) (size : size_ok n ≡ true) (near-full : length near ≡ 4 * n) (able : Drawable n word t off0 off1) where
  -- what prediction leaves
  pub drawable-whole :
      (held : List ℕ) {new : List ℕ} {w : ℕ} → length held ≡ n * n → w ≡ word
      → new ≡ predict_values_block n w near t off0 off1 held → new ≡ predicted n word near t off0 off1
  unfolding predict_block_by
  drawable-whole held full same e = rw same at e ∙ rw (drawable-none size near-full full able)

  -- prediction refuses nothing
  pub drawable-ok :
      {samples w : ℕ} (r : Result ℕ Refusal) → samples ≡ n * n → w ≡ word
      → told (λ marks. marks) r ≡ predict_values_answer n w near t off0 off1 samples → IsOk r
  unfolding predict_answer_by
  drawable-ok r full same e = told-ok (λ marks. marks) r (rw (same, drawable-none size near-full full able) at e)

  -- as a block
  pub drawable-block :
      (new : List ℕ) (old : List (List ℕ)) {b : List (List ℕ)} → new ≡ predicted n word near t off0 off1 → b ≡ block_after n new old
      → samples_of n b ≡ predicted n word near t off0 off1
  unfolding block_after samples_refusal
  drawable-block new old {b} same f =
      let full : length new ≡ n * n = ap length same ∙ length-predicted n word near t off0 off1 in
      let block : b ≡ block_of capacity n new = f ∙ rw (size, eq-eqb _ _ full) in
      ap (samples_of n) block ∙ samples-again capacity n new (size-bounds n size).1 full ∙ same

-- the same offsets
pub drawable-as :
    {n w : ℕ} {t : List ℕ} {off0 off1 y z : ℤ} → off0 ≡ y → off1 ≡ z → Drawable n w t off0 off1 → Drawable n w t y z
drawable-as e f p = rw (e, f) at p

-- ---- the samples of a block, and a block of samples

-- samples of the right number make a block, and are written
pub whole-ok :
    {A : Type 0} (n : ℕ) (l : List ℕ) (r : Result A Refusal) → size_ok n ≡ true → length l ≡ n * n → refusal_in r ≡ samples_refusal n (length l)
    → IsOk r
unfolding samples_refusal
whole-ok n l r size full e = accepted-ok r (e ∙ rw (size, eq-eqb _ _ full))

-- the samples of a block that is cut
pub cut-whole :
    (n w x y : ℕ) (s : List ℕ) {b : List (List ℕ)} (held : List ℕ) {new : List ℕ} → size_ok n ≡ true → b ≡ cut_block n w x y s
    → length held ≡ n * n → new ≡ samples_after n b held → new ≡ cut n w x y s
unfolding samples_after samples_refusal
cut-whole n w x y s {b} held size e full p =
    p ∙ rw (size, eq-eqb _ _ full) (ap (samples_of n) e ∙ cut-block n w x y s (size-bounds n size).1)

-- ---- the next block: its neighbours, and its part of samples that are lent

module _ (S : Sheet) {n w x y : ℕ} (at : Next S n w x y) where
  pub near-next :
      (s : List ℕ) {near : List ℕ} → near ≡ counted n w x y (left_count n x) (top_count n w x y) s → near ≡ neighbours S.n S.width S.placed s
  near-next s e =
      rw (neighbours-counted S.n S.width S.placed s (omega (arith, at.is_open.low)) at.is_open.wide)
      (rw (at.size, at.wide, at.column, at.row) at e)

  pub near-full :
      (s : List ℕ) {near : List ℕ} → near ≡ counted n w x y (left_count n x) (top_count n w x y) s → length near ≡ 4 * n
  near-full s e = rw at.size (ap length (near-next s e) ∙ length-neighbours S.n S.width S.placed s)

  pub part-next : (l : List ℕ) {part : List ℕ} → part ≡ cond (textured l) (cut n w x y l) [] → part ≡ next_texture S l
  part-next l e = rw (at.size, at.wide, at.column, at.row) at e

  pub part-full :
      (l : List ℕ) {part : List ℕ} → part ≡ cond (textured l) (cut n w x y l) [] → 0 < length part → length part ≡ n * n
  part-full l e h =
      let same = ap length (part-next l e) in
      rw at.size (⊎_elim (λ z. absurd (omega (arith, h, same, z))) (λ z. same ∙ z) (texture-length S l))

  -- ---- what is drawn for it

  pub draw-next :
      (M : Material) (s : List ℕ) (r : Record) {C : Case} {t : ℕ} {u : List ℕ} → C ≡ place_case S M s → t ≡ draw_refusal C r
      → u ≡ lent (draw_refusal C r) (written C.n w x y (prediction_of C r) s) s
      → (t ≡ material_refusal S M r) × (u ≡ lent (material_refusal S M r) (placed_samples S M s r) s)
  unfolding placed_samples
  draw-next M s r e p q =
      let d : draw_refusal (place_case S M s) r ≡ material_refusal S M r = rw (textured-next S M.texture (omega (arith, at.is_open.low))) in
      ((rw e at p) ∙ d, rw (d, at.wide, at.column, at.row) at (rw e at q))
