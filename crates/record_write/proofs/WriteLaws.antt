-- The steps of writing: one line more in a loop, and the whole text part by part.
use Prim.Native.Nat.{ℕ, ◌+◌, ◌*◌, ◌≤◌, ◌<◌}
use mathlib.Core.Path.{◌≡◌, refl, sym, subst}
use mathlib.Core.Bool.{true}
use mathlib.Core.List.{List, append_assoc}
use native.Mathlib.Omega.{arith}
use borrow.Author.Tests.{lt-ltb}
use lib.ListN.{length, get_or, length-append}
use lib.Seq.{sets}
use Rattle.arith.specs.Checks.{refused, given}
use Rattle.arith.specs.Lists.{list_of}
use Rattle.arith.proofs.CheckLaws.{answer-given, lent-refused, lent-given, refused-by}
use Rattle.arith.proofs.ListLaws.{list_of-own}
use Rattle.record_print.specs.declared.cursor.Cursor.{Cursor}
use Rattle.record.specs.declared.Record.{Record}
use Rattle.record_text.specs.declared.fields.SizeFields.{SizeFields}
use Rattle.sheet.specs.declared.Sheet.{Sheet}
use Rattle.pattern.specs.Refusal.{number_of}
use Rattle.pattern.specs.declared.refusals.Refusal.{Refusal}
use Rattle.pattern.proofs.AnswerLaws.{number-some}
use Rattle.record_text.specs.Numeral.{numeral_end}
use Rattle.record_text.specs.Line.{size_title, depth_title, record_title, size_text, value_text, record_text}
use Rattle.record_text.specs.Lines.{texts}
use Rattle.record_text.proofs.LengthLaws.{head-length, value-line-length, record-line-length}
use Rattle.record_text.proofs.LinesLaws.{texts-length}
use Rattle.record_print.specs.Put.{Put, Written, printed_if, number_printable, size_printable, record_printable}
use Rattle.record_print.proofs.PutLaws.{put_written, printed-written, size-printed, record-printed}
use Rattle.record_print.proofs.WriteSteps.{written-length, written_then, written_as}
use Rattle.record_file.specs.Writing.{Source, Small, HeadFits, space_for, write_refusal, written_text, write_answer, write_after}
use Rattle.record_file.specs.Text.{size_fields_of, head_text, file_text}
use Rattle.record_file.proofs.MeaningLaws.{small-printable}

-- ---- table values

pub value-printed : (v : ℕ) → v < 256 → number_printable v ≡ true
value-printed v h = lt-ltb v numeral_end (omega arith)

pub values-short : (t : List ℕ) → ((i : ℕ) → get_or t i 0 < 256) → (m j : ℕ) → j < m → length (value_text (get_or t j 0)) ≤ 4
values-short t h m j l = value-line-length (get_or t j 0) (let q = h j in omega arith)

-- the loop has written all of them
pub values-all : {l₀ l : List ℕ} {at p : ℕ} (t : List ℕ) (i : ℕ) → i ≡ length t → Written l₀ l at (texts value_text (list_of (λ j. get_or t j 0) i)) p → Written l₀ l at (texts value_text t) p
values-all {l₀} {l} {at} {p} t i e w = subst (λ (x : List ℕ). Written l₀ l at (texts value_text x) p) (list_of-own t 0 i (sym e)) w

-- ---- records

pub record-is-printed : (r : Record) → Small r → record_printable r ≡ true
record-is-printed r s = record-printed r (small-printable r s)

pub record-short : (r : Record) → Small r → length (record_text r) ≤ 32
record-short r s = record-line-length r (omega (arith, s.kind)) (omega (arith, s.entry)) (omega (arith, s.off0)) (omega (arith, s.off1))

-- ---- the first three lines

module _ (S : Sheet) (values : ℕ) (fits : HeadFits S values) where
  abbrev header : SizeFields
  header = size_fields_of S.n S.width S.height values

  pub header-length : length size_title + length (size_text header) + length depth_title + length record_title ≤ 80
  header-length = head-length header (omega (arith, fits.n)) (omega (arith, fits.width)) (omega (arith, fits.height)) (omega (arith, fits.table))

  header-printed : size_printable header ≡ true
  header-printed =
      size-printed header
      (omega (arith, fits.n), (omega (arith, fits.width), (omega (arith, fits.height), (omega (arith, fits.table), tt))))

  pub head-written :
      {l₀ l₁ l₂ l₃ : List ℕ} (c₀ c₁ c₂ c₃ : Cursor) → c₀.at ≡ 0 → 80 ≤ length l₀ → Put l₀ l₁ c₀ size_title c₁
      → Put l₁ l₂ c₁ (printed_if (size_printable header) (size_text header)) c₂ → Put l₂ l₃ c₂ depth_title c₃
      → Written l₀ l₃ c₀.at (head_text S.n S.width S.height values) c₃.at
  unfolding head_text
  head-written c₀ c₁ c₂ c₃ z room p1 p2 p3 =
      let w1 = put_written {from = c₀} {next = c₁} (omega (arith, header-length)) p1 in
      let w2 = printed-written {b = size_printable header} {from = c₁} {next = c₂} header-printed (omega (arith, header-length, w1.place, written-length w1)) p2 in
      let w3 = put_written {from = c₂} {next = c₃} (omega (arith, header-length, w1.place, w2.place, written-length w1, written-length w2)) p3 in
      written_then w1 (written_then w2 w3)

  pub head-short : length (head_text S.n S.width S.height values) + length record_title ≤ 80
  unfolding head_text
  head-short = simp length-append (omega (arith, header-length))

-- ---- the whole text

pub values_length : (t : List ℕ) → ((i : ℕ) → get_or t i 0 < 256) → length (texts value_text t) ≤ 4 * length t
values_length t h =
    subst (λ (l : List ℕ). length (texts value_text l) ≤ 4 * length t) (list_of-own t 0 (length t) refl)
    (texts-length value_text (λ j. get_or t j 0) 4 (length t) (values-short t h (length t)))

module _
    (S : Sheet) (t : List ℕ) (m : ℕ) (fits : HeadFits S (length t)) {l₀ l₁ : List ℕ} {a : ℕ} (space : space_for (length t) m ≤ length l₀)
    (head : Written l₀ l₁ 0 (head_text S.n S.width S.height (length t)) a)
  where
    pub room-values : a + 4 * length t ≤ length l₁
    room-values = omega (arith, head.place, written-length head, head-short S (length t) fits)

    module _ {l₂ : List ℕ} {b : ℕ} (values : Written l₁ l₂ a (texts value_text t) b) (short : b ≤ a + 4 * length t) where
      pub room-title : b + length record_title ≤ length l₂
      room-title = omega (arith, head.place, written-length head, written-length values, head-short S (length t) fits)

      module _ {l₃ : List ℕ} {c : ℕ} (title : Written l₂ l₃ b record_title c) where
        pub room-records : c + 32 * m ≤ length l₃
        room-records =
            omega (
              arith,
              head.place,
              title.place,
              written-length head,
              written-length values,
              written-length title,
              head-short S (length t) fits,
            )

        pub file-written :
            {l₄ : List ℕ} {d : ℕ} (records : List Record) → Written l₃ l₄ c (texts record_text records) d
            → Written l₀ l₄ 0 (file_text S.n S.width S.height t records) d
        unfolding file_text head_text
        file-written records w =
            written_as (written_then head (written_then values (written_then title w))) (simp append_assoc)

-- ---- the answer

module _ (W : Source) (list : List ℕ) (count records : ℕ) where
  -- a refusal is answered, and nothing is written
  pub refusal-answered :
      (space : ℕ) (r : Refusal) → number_of r ≡ write_refusal W list count records space → write_answer W list count records space ≡ refused (number_of r)
  unfolding write_answer
  refusal-answered space r e = sym (refused-by (length (written_text W)) e (number-some r))

  pub refusal-left : (old : List ℕ) → (write_refusal W list count records (length old) ≡ 0 → ⊥) → write_after W list count records old ≡ old
  unfolding write_after
  refusal-left old h = sym (lent-refused (write_refusal W list count records (length old)) (sets old 0 (written_text W)) old h)

  -- where nothing is refused, the text's length is answered, and the text is written
  pub length-answered : (space : ℕ) → 0 ≡ write_refusal W list count records space → write_answer W list count records space ≡ given (length (written_text W))
  unfolding write_answer
  length-answered space e = sym (answer-given (write_refusal W list count records space) (length (written_text W)) (sym e))

  pub text-left : (old : List ℕ) → 0 ≡ write_refusal W list count records (length old) → write_after W list count records old ≡ sets old 0 (written_text W)
  unfolding write_after
  text-left old e = sym (lent-given (write_refusal W list count records (length old)) (sets old 0 (written_text W)) old (sym e))

-- what writing cites
pub ruleset answered = (refusal-answered, refusal-left, number-some, length-answered, text-left)
