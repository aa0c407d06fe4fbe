-- What is shown, from what reading answers and leaves.
use Prim.Native.Nat.{ℕ, ◌*◌, ◌≤◌, ◌<◌}
use mathlib.Core.Path.{◌≡◌, refl, sym, ◌∙◌, ap, subst}
use mathlib.Core.List.{List, ◌++◌}
use native.Mathlib.Omega.{arith}
use borrow.Author.Tests.{le-leb}
use lib.IntN.{ℤ, pos}
use lib.ListN.{length, get_or, take, drop, replicate, length-append, length-replicate, get_or-append}
use lib.Seq.{take_at}
use Rattle.arith.specs.Checks.{given}
use Rattle.arith.proofs.CheckLaws.{given-means}
use Rattle.sheet.specs.declared.Sheet.{Sheet}
use Rattle.sheet.specs.State.{area, blocks_of, finished}
use Rattle.sheet.proofs.InTurnLaws.{length-in-turn}
use Rattle.record_text.specs.Numeral.{numeral_end}
use Rattle.record_text.specs.Lines.{Lined, refused_at, read}
use Rattle.record_print.specs.Put.{Written}
use Rattle.record_print.proofs.PutLaws.{written-whole}
use Rattle.sheet_grid.specs.Grid.{most_samples, most_blocks}
use Rattle.show_text.specs.Printed.{sheet_text, refusal_text}
use Rattle.show_text.proofs.PrintLaws.{sheet-same}
use Rattle.std.proofs.Common.{Ok, Err}
use Rattle.pattern.specs.Refusal.{number_of}
use Rattle.pattern.proofs.AnswerLaws.{number-some}
use Rattle.record_read.specs.declared.reading.FileBack.{FileBack}
use Rattle.record_read.specs.declared.lines.LineRefusal.{LineRefusal}
use Rattle.record_file.specs.Reading.{File, Aids}
use Rattle.record_read.specs.Back.{Back, Lent, lent_of, empty_sheet, material_in, in_turn, samples_in, samples_back, back_told, file_back, leaving, reading, Reads}
use Rattle.show_text.specs.Showing.{size_in, aids_for, text_by, read_with, shown_text, text_bytes, show_refusal, show_answer, show_after}
use Rattle.record_file.proofs.LineBounds.{Below, line_end, read_below}
use Rattle.show_text.proofs.SampleLaws.{file-fits, text-short}

-- ---- what reading answers and leaves

-- a refused line
pub back-refused : (x : Lined File) (e : LineRefusal) → back_told (Err e) ≡ file_back x → x ≡ refused_at (number_of e.refusal) e.line
back-refused (refused_at n k) e h = rw (ap (λ (b : Back). b.refusal) h, ap (λ (b : Back). b.line) h)
back-refused (read F s) e h = absurd (number-some e.refusal (ap (λ (b : Back). b.refusal) h))

-- a sheet, with the samples that reading left
pub record SheetBack (A : Aids) (x : Lined File) (S : Sheet) (samples : List ℕ) : Type 0 where
  pub some : 0 < S.width
  pub width : S.width ≤ 128
  pub height : S.height ≤ 128
  pub few : S.width * S.height ≤ most_samples
  pub held : S.width * S.height ≤ length samples
  pub same : sheet_text S.width S.height samples ≡ text_by A x

-- the samples in the first places are those of the sheet
module _ (A : Aids) (F : File) (old : List ℕ) where
  drawn-length : length (samples_in A F) ≡ area (empty_sheet F)
  drawn-length =
      length-in-turn (empty_sheet F) (material_in A F) (in_turn F.records) (replicate (area (empty_sheet F)) 0) (blocks_of (empty_sheet F))
      ∙ length-replicate (area (empty_sheet F)) 0

  drawn-held : F.width * F.height ≤ length (samples_back A F old)
  unfolding samples_back
  drawn-held = omega (arith, drawn-length, length-append (samples_in A F) (drop (F.width * F.height) old))

  drawn-at : (i : ℕ) → i < F.width * F.height → get_or (samples_back A F old) i 0 ≡ get_or (samples_in A F) i 0
  unfolding samples_back
  drawn-at i h = get_or-append (samples_in A F) (drop (F.width * F.height) old) 0 i (omega (arith, drawn-length))

-- what is answered and left where no line is refused
pub back_read :
    (A : Aids) (s : List ℕ) (r : Back) (samples old : List ℕ) → r ≡ file_back (read_with A s) → r.refusal ≡ 0
    → samples ≡ leaving (read_with A s) (λ F. samples_back A F old) old → SheetBack A (read_with A s) r.sheet samples
back_read A s r samples old e h d = go (read_with A s) refl e d
  where
    go : (x : Lined File) → read_with A s ≡ x → r ≡ file_back x → samples ≡ leaving x (λ F. samples_back A F old) old → SheetBack A x r.sheet samples
    go (refused_at n k) q e d =
        let b : (0 < n) × (k < line_end) = subst (λ (x : Lined File). Below line_end x) q (read_below A most_samples most_blocks s) in
        absurd (omega (arith, h, b.0, ap (λ (c : Back). c.refusal) e))
    go (read F t) q e d =
        let f = file-fits A most_samples most_blocks F s t q in
        let S : r.sheet ≡ finished (empty_sheet F) = ap (λ (c : Back). c.sheet) e in
        rw (S, d)
        (record {
          some = f.some;
          width = f.width;
          height = f.height;
          few = f.samples;
          held = drawn-held A F old;
          same = sheet-same F.width F.height (samples_back A F old) (samples_in A F) (drawn-at A F old);
        })

-- as much is lent to it as a sheet can have
abbrev pub lent : Lent
lent = lent_of (replicate most_samples 0) (replicate most_blocks (replicate 4 (pos 0)))

module _ (A : Aids) (s : List ℕ) where
  pub lent-read : reading A lent s ≡ read_with A s
  lent-read = rw (length-replicate {A = ℕ} most_samples 0, length-replicate {A = List ℤ} most_blocks (replicate 4 (pos 0)))

  -- what was answered where a line is refused, and the line can be printed
  pub refused-shown :
      {after : Lent} (e : LineRefusal) → Reads A lent s (back_told (Err e)) after
      → (refusal_text (number_of e.refusal) e.line ≡ text_by A (read_with A s)) × (e.line < numeral_end)
  refused-shown e r =
      let is : read_with A s ≡ refused_at (number_of e.refusal) e.line = back-refused (read_with A s) e (r.answered ∙ ap file_back lent-read) in
      let b : (0 < number_of e.refusal) × (e.line < line_end) = subst (λ (x : Lined File). Below line_end x) is (read_below A most_samples most_blocks s) in
      (sym (ap (text_by A) is), omega (arith, b.1))

  -- and what was answered and left where none is
  pub sheet-shown : {after : Lent} (b : FileBack) → Reads A lent s (back_told (Ok b)) after → SheetBack A (read_with A s) b.sheet after.samples
  sheet-shown {after} b r =
      let drawn : Lined File → List ℕ = λ x. leaving x (λ F. samples_back A F lent.samples) lent.samples in
      back_read A s (back_told (Ok b)) after.samples lent.samples (r.answered ∙ ap file_back lent-read) refl (r.drawn ∙ ap drawn lent-read)

-- ---- the answer

-- no text is longer than the space that is asked for
pub shown-short : (s : List ℕ) → length (shown_text s) ≤ text_bytes
unfolding shown_text
shown-short s = text-short (aids_for (size_in s)) most_samples most_blocks s

module _ (s old : List ℕ) where
  -- the text was written
  pub show-given :
      {new : List ℕ} {k : ℕ} → text_bytes ≤ length old → Written old new 0 (shown_text s) k → (given k ≡ show_answer s (length old)) × (new ≡ show_after s old)
  unfolding show_answer show_after
  show-given {new} {k} h w =
      let e : k ≡ length (shown_text s) = omega (arith, w.place) in
      let q = written-whole (omega (arith, shown-short s)) w in
      rw (le-leb text_bytes (length old) h) (ap given e, q ∙ ap (λ (j : ℕ). shown_text s ++ drop j old) e)

  -- for a caller: the answered length counts bytes of the lent space, and those are the text
  pub shown-inside :
      {new : List ℕ} {k : ℕ} → given k ≡ show_answer s (length old) → new ≡ show_after s old → (take k new ≡ shown_text s) × ((k ≤ length new) × (k ≡ length (take k new)))
  unfolding show_answer show_after
  shown-inside {new} {k} a e =
      let g = given-means (show_refusal (length old)) (length (shown_text s)) k (sym a) in
      let is : new ≡ shown_text s ++ drop (length (shown_text s)) old = e ∙ rw g.0 in
      let first : take k new ≡ shown_text s = ap (take k) is ∙ take_at (shown_text s) (drop (length (shown_text s)) old) k g.1 in
      (first, (omega (arith, ap length is, length-append (shown_text s) (drop (length (shown_text s)) old), g.1), sym (ap length first ∙ g.1)))

-- with the list for the file's own size
pub shown-as : (s : List ℕ) {n : ℕ} {A : Aids} → n ≡ size_in s → A ≡ aids_for n → text_by A (read_with A s) ≡ shown_text s
unfolding shown_text
shown-as s e q = rw (q, e)
