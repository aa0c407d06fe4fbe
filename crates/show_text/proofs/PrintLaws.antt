-- Printing a sheet and a refusal part by part, with room for each.
use Prim.Native.Nat.{ℕ, suc, zero, ◌+◌, ◌*◌, ◌≤◌, ◌<◌}
use mathlib.Core.Path.{◌≡◌, refl, sym, ◌∙◌, ap, ap₂, subst}
use mathlib.Core.Bool.{true}
use mathlib.Core.List.{List, ◌++◌}
use native.Mathlib.Nat.{mul-le-mul, zero-mul}
use native.Mathlib.Omega.{arith}
use borrow.Author.Tests.{lt-ltb}
use lib.ListN.{length, get_or, length-append}
use Rattle.arith.specs.Lists.{list_of}
use Rattle.record_print.specs.declared.cursor.Cursor.{Cursor}
use Rattle.record_text.specs.Numeral.{numeral_end}
use Rattle.record_text.specs.Field.{number_text}
use Rattle.record_text.specs.Line.{depth_title}
use Rattle.record_text.specs.Lines.{texts}
use Rattle.record_text.proofs.LengthLaws.{number_short, number-le}
use Rattle.record_text.proofs.LinesLaws.{texts-more, texts-length}
use Rattle.record_print.specs.Put.{Put, Written, printed_if, number_printable}
use Rattle.record_print.proofs.PutLaws.{put_written, printed-written}
use Rattle.record_print.proofs.WriteSteps.{written-length, written_then}
use Rattle.sheet_grid.specs.Grid.{most_samples}
use Rattle.show_text.specs.Printed.{sides_title, refusal_title, pair_text, byte_after, sample_text, rows_text, sides_text, sheet_text, refusal_text}

-- ---- two numbers on a line

pub pair-written :
    {l₀ l₁ l₂ : List ℕ} (c₀ c₁ c₂ : Cursor) (a b : ℕ) → a < numeral_end → b < numeral_end → c₀.at + 12 ≤ length l₀
    → Put l₀ l₁ c₀ (printed_if (number_printable a) (number_text 32 a)) c₁ → Put l₁ l₂ c₁ (printed_if (number_printable b) (number_text 10 b)) c₂
    → Written l₀ l₂ c₀.at (pair_text a b) c₂.at
pair-written c₀ c₁ c₂ a b ha hb room p q =
    let w = printed-written {b = number_printable a} {from = c₀} {next = c₁} (lt-ltb a numeral_end ha) (omega (arith, number-le 32 a)) p in
    let v =
    printed-written {b = number_printable b} {from = c₁} {next = c₂} (lt-ltb b numeral_end hb)
    (omega (arith, number-le 32 a, number-le 10 b, w.place, written-length w)) q in
    written_then w v

-- a title at the start, and room for the pair after it
module _ (t l₀ : List ℕ) {l₁ : List ℕ} {c : Cursor} (room : length t + 12 ≤ length l₀) (title : Put l₀ l₁ (record { at = 0 }) t c) where
  pub title-written : Written l₀ l₁ 0 t c.at
  title-written = put_written {from = record { at = 0 }} {next = c} (omega arith) title

  pub title-room : c.at + 12 ≤ length l₁
  title-room = omega (arith, title-written.place, written-length title-written)

-- ---- a refusal

-- its text is short: its title, and then its two numbers
pub refusal-short : (number line : ℕ) → length (refusal_text number line) ≤ 25
unfolding refusal_text refusal_title
refusal-short number line = simp length-append (omega (arith, number-le 32 number, number-le 10 line))

pub refusal-written :
    {l₀ l₁ l₂ : List ℕ} {p q : ℕ} (number line : ℕ) → Written l₀ l₁ 0 refusal_title p → Written l₁ l₂ p (pair_text number line) q → Written l₀ l₂ 0 (refusal_text number line) q
unfolding refusal_text
refusal-written number line a b = written_then a b

-- ---- the lines before the sample rows

-- a sheet has at most 16,384 samples
pub samples-few : (width height : ℕ) → width ≤ 128 → height ≤ 128 → width * height ≤ most_samples
samples-few width height w h = mul-le-mul {n₂ = 128} {m₂ = 128} w h

module _ (width height : ℕ) (w : width ≤ 128) (h : height ≤ 128) where
  -- at most 27 bytes, written one after the other
  pub sides-short : length (sides_text width height) ≤ 27
  unfolding sides_text sides_title depth_title
  sides-short = simp length-append (omega (arith, number_short 32 2 width (omega arith), number_short 10 2 height (omega arith)))

  pub sides-written :
      {l₀ l₁ l₂ l₃ : List ℕ} (c₁ c₂ c₃ : Cursor) → 27 ≤ length l₀ → Written l₀ l₁ 0 sides_title c₁.at
      → Written l₁ l₂ c₁.at (pair_text width height) c₂.at → Put l₂ l₃ c₂ depth_title c₃ → Written l₀ l₃ 0 (sides_text width height) c₃.at
  unfolding sides_text
  sides-written c₁ c₂ c₃ r a b p =
      let d =
      put_written {from = c₂} {next = c₃}
      (omega (
        arith,
        sides-short,
        length-append sides_title (pair_text width height ++ depth_title),
        length-append (pair_text width height) depth_title,
        a.place,
        b.place,
        written-length a,
        written-length b,
      )) p in
      written_then a (written_then b d)

  -- room for the rows after them
  pub rows_room :
      {l₀ l₁ : List ℕ} {p : ℕ} → 27 + 4 * (width * height) ≤ length l₀ → Written l₀ l₁ 0 (sides_text width height) p
      → (width * height ≤ most_samples) × (p + 4 * (width * height) ≤ length l₁)
  rows_room r a = (samples-few width height w h, omega (arith, sides-short, a.place, written-length a))

-- the whole text of a sheet
pub sheet-written :
    {l₀ l₁ l₂ : List ℕ} {p q : ℕ} (width height : ℕ) (samples : List ℕ) → Written l₀ l₁ 0 (sides_text width height) p → Written l₁ l₂ p (rows_text width height samples) q
    → Written l₀ l₂ 0 (sheet_text width height samples) q
unfolding sheet_text
sheet-written width height samples a b = written_then a b

-- ---- the sample rows

-- where there is a sample, rows have a width
pub some-width : (width height i : ℕ) → i < width * height → 0 < width
some-width zero height i h = absurd (omega (arith, zero-mul height))
some-width (suc width) height i h = omega arith

-- every sample has a numeral
pub sample-printed : (v : ℕ) → v < 256 → number_printable v ≡ true
sample-printed v h = lt-ltb v numeral_end (omega arith)

-- a sample and the byte after it are at most 4 bytes
pub samples-short : (width : ℕ) (samples : List ℕ) → ((i : ℕ) → get_or samples i 0 < 256) → (m j : ℕ) → j < m → length (sample_text width samples j) ≤ 4
samples-short width samples h m j l = number_short _ 2 (get_or samples j 0) (let q = h j in omega arith)

-- sheets of the same samples
texts-same :
    {A B : Type 0} (text : A → List ℕ) (f : ℕ → A) (other : B → List ℕ) (g : ℕ → B) (k : ℕ) → ((i : ℕ) → i < k → text (f i) ≡ other (g i))
    → texts text (list_of f k) ≡ texts other (list_of g k)
unfolding texts list_of
texts-same text f other g zero h = refl
texts-same text f other g (suc k) h =
    texts-more text f k ∙ ap₂ (λ (x y : List ℕ). x ++ y) (texts-same text f other g k (λ i l. h i (omega arith))) (h k (omega arith)) ∙ sym (texts-more other g k)

pub sheet-same :
    (width height : ℕ) (s t : List ℕ) → ((i : ℕ) → i < width * height → get_or s i 0 ≡ get_or t i 0) → sheet_text width height s ≡ sheet_text width height t
unfolding sheet_text rows_text
sheet-same width height s t h =
    ap (λ (x : List ℕ). sides_text width height ++ x)
    (texts-same (sample_text width s) (λ i. i) (sample_text width t) (λ i. i) (width * height) (λ i l. ap (number_text (byte_after width i)) (h i l)))

-- a sheet's text is as long as its samples allow
pub sheet-short :
    (width height : ℕ) (samples : List ℕ) → width ≤ 128 → height ≤ 128 → ((i : ℕ) → get_or samples i 0 < 256) → length (sheet_text width height samples) ≤ 27 + 4 * (width * height)
unfolding sheet_text rows_text
sheet-short width height samples w h small =
    omega (
      arith,
      length-append (sides_text width height) (texts (sample_text width samples) (list_of (λ i. i) (width * height))),
      sides-short width height w h,
      texts-length (sample_text width samples) (λ i. i) 4 (width * height) (samples-short width samples small (width * height)),
    )

-- the loop has printed all of them
pub rows_all :
    {l₀ l : List ℕ} {at p : ℕ} (width height : ℕ) (samples : List ℕ) (i : ℕ) → i ≡ width * height
    → Written l₀ l at (texts (sample_text width samples) (list_of (λ k. k) i)) p → Written l₀ l at (rows_text width height samples) p
unfolding rows_text
rows_all {l₀} {l} {at} {p} width height samples i e w = subst (λ (k : ℕ). Written l₀ l at (texts (sample_text width samples) (list_of (λ j. j) k)) p) e w
