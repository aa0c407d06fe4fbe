-- Document 01, "House file": both round trips, for every list, count, table and records.
use Prim.Native.Nat.{ℕ, ◌≤◌, ◌<◌}
use mathlib.Core.Path.{◌≡◌, refl, sym, ◌∙◌, ap}
use mathlib.Core.Bool.{Bool, true, false}
use mathlib.Core.List.{List, [], ◌∷◌}
use mathlib.Core.Logic.{◌⊎◌}
use native.Mathlib.Omega.{arith}
use borrow.Author.Tests.{leb-true, lt-ltb, le-leb}
use lib.Dec.{leb}
use lib.ListN.{length, get_or}
use Rattle.arith.specs.Checks.{refusal}
use Rattle.arith.specs.Lists.{list_of}
use Rattle.arith.proofs.Bools.{both_of}
use Rattle.arith.proofs.ListLaws.{length-list_of, list_of-at, list_of-ext, list_of-own}
use Rattle.depth_table.proofs.TableLaws.{table-sound}
use Rattle.depth_table.specs.Table.{most_values, table_ok, bytes, rising}
use Rattle.sheet.specs.declared.Sheet.{Sheet}
use Rattle.sheet_grid.specs.Grid.{most_samples, most_blocks, blocks}
use Rattle.sheet.specs.State.{state_of, area, blocks_of}
use Rattle.pattern.specs.Size.{size_ok}
use Rattle.pattern.specs.Answer.{count_ok, textured}
use Rattle.pattern.proofs.AnswerLaws.{count-is, is-count, is-texture}
use Rattle.pattern.proofs.SizeLaws.{size-each, each-size}
use Rattle.arith.proofs.CheckLaws.{passes}
use Rattle.record.specs.declared.Record.{Record}
use Rattle.record_text.specs.Lines.{Lined, read, judged}
use Rattle.record_text.proofs.LinesLaws.{refused-read}
use Rattle.record.specs.Record.{no_record}
use Rattle.record_file.specs.Text.{file_text, size_fields_of}
use Rattle.record_file.specs.Reading.{File, file_of, Aids, size_checks, size_meaning, file_lines, lists_ok, read_lengths_ok, ReadLengths, read_file}
use Rattle.record_file.specs.Writing.{Source, source_of, space_for, write_refusal, written_text}
use Rattle.record_file.proofs.MeaningLaws.{written-sound, read-sound}
use Rattle.record_file.proofs.FileLaws.{FileSound, FileRead, size_small, file-reads, file-wrote}
use Rattle.record_file.proofs.RefusalLaws.{accepted-parts, parts-accepted}

-- the lengths that reading checks first
module _ (samples records : ℕ) (A : Aids) where
  abbrev counted : ℕ → Bool
  counted n = count_ok (length (A.list n)) (A.count n)

  pub read-lengths : read_lengths_ok samples records (lists_ok A) ≡ true → ReadLengths samples records A
  unfolding read_lengths_ok
  read-lengths h =
      let a = both_of (leb most_samples samples) _ h in
      let b = both_of (leb most_blocks records) _ a.1 in
      let c : (n : ℕ) → size_ok n ≡ true → (A.count n ≤ length (A.list n)) × (A.count n ≤ 9999) =
      λ n s. count-is (length (A.list n)) (A.count n) (each-size counted n b.1 s) in
      record {
        samples_lent = leb-true _ _ a.0;
        records_lent = leb-true _ _ b.0;
        inside = λ n s. (c n s).0;
        few = λ n s. (c n s).1;
      }

  pub lengths_read : ReadLengths samples records A → read_lengths_ok samples records (lists_ok A) ≡ true
  unfolding read_lengths_ok
  lengths_read r =
      rw (le-leb _ _ r.samples_lent, le-leb _ _ r.records_lent)
      (size-each counted (λ n s. is-count (length (A.list n)) (A.count n) (r.inside n s) (r.few n s)))

-- what a source holds, as a file
abbrev pub held_by : Source → File
held_by W = file_of W.sheet.n W.sheet.width W.sheet.height W.table (list_of W.record-at (blocks_of W.sheet))

-- a table is sound by its parts
pub parts-table : (t : List ℕ) → 1 ≤ length t → length t ≤ most_values → bytes t ≡ true → rising 0 t ≡ true → table_ok t ≡ true
unfolding table_ok
parts-table t a b c d = rw (lt-ltb 0 (length t) a, le-leb _ _ b, c, d)

module _
    (W : Source) (A : Aids) (records space : ℕ)
    (accepted : write_refusal W (A.list W.sheet.n) (A.count W.sheet.n) records space ≡ 0)
    (fits : (length A.texture ≡ 0) ⊎ (length A.texture ≡ area W.sheet))
    (lent : (i : ℕ) → i < blocks_of W.sheet → (W.record-at i).kind ≡ 1 → 0 < length A.texture)
  where
    abbrev list : List ℕ
    list = A.list W.sheet.n

    abbrev count : ℕ
    count = A.count W.sheet.n

    abbrev texture : List ℕ
    texture = A.texture

    held-sound : FileSound A (held_by W)
    unfolding size_meaning
    held-sound =
        let p = accepted-parts W list count records space accepted in
        let t = table-sound W.table p.sound in
        record {
          size = passes (size_checks (length texture) (size_fields_of W.sheet.n W.sheet.width W.sheet.height (length W.table))) 0
              (p.size, (p.sides, (is-texture (length texture) (area W.sheet) fits, (rw (le-leb _ _ t.some) (le-leb _ _ t.few), tt))));
          values = t.small;
          rises = t.rises;
          whole = length-list_of W.record-at (blocks_of W.sheet);
          each = λ i h.
              let k : i < blocks_of W.sheet = omega (arith, length-list_of W.record-at (blocks_of W.sheet)) in
              rw (list_of-at W.record-at no_record (blocks_of W.sheet) i k)
              (read-sound W.sheet.n list count (textured texture) (length W.table) (W.record-at i) (λ e. lt-ltb 0 (length texture) (lent i k e)) (p.each i k));
        }

    -- A written file, read with the same list and count for its size, and with texture where it holds kind 1, gives back what was written.
    pub written-then-read :
        (samples records_lent : ℕ) → ReadLengths samples records_lent A → read_file A samples records_lent (written_text W) ≡ read (held_by W) []
    unfolding read_file
    written-then-read samples records_lent r =
        let p = accepted-parts W list count records space accepted in
        rw (lengths_read samples records_lent A r) (file-reads A (held_by W) p.lengths.few held-sound)

-- ---- and back

judged-read : {B : Type 0} (b : Bool) (next : Lined B) {x : B} {t : List ℕ} → judged (refusal ((b, 2) ∷ []) 0) 0 next ≡ read x t → (b ≡ true) × (next ≡ read x t)
judged-read true next q = (refl, q)
judged-read false next q = refused-read q

-- what an accepted file says
pub read-parts :
    (A : Aids) (samples lent : ℕ) (F : File) (s t : List ℕ) → read_file A samples lent s ≡ read F t
    → ReadLengths samples lent A × FileRead A F s t
unfolding read_file
read-parts A samples lent F s t q =
    let p = judged-read (read_lengths_ok samples lent (lists_ok A)) (file_lines A s) q in
    (read-lengths samples lent A p.0, file-wrote A F s t p.1)

-- the finished state of a file
abbrev pub sheet_of : File → Sheet
sheet_of F = state_of F.n F.width F.height (blocks F.n F.width F.height)

-- A file that is accepted is byte for byte the one that is written of what was read: writing refuses nothing, and its text is the file.
module _
    (A : Aids) (samples lent : ℕ) (F : File) (s t : List ℕ) (accepted : read_file A samples lent s ≡ read F t)
    (at : ℕ → Record) (same : (i : ℕ) → i < length F.records → at i ≡ get_or F.records i no_record)
  where
    pub read-then-text : written_text (source_of (sheet_of F) F.table at) ≡ s
    read-then-text =
        let p = (read-parts A samples lent F s t accepted).1 in
        let w = p.sound.whole in
        let e : list_of at (blocks F.n F.width F.height) ≡ F.records =
        list_of-ext at (λ i. get_or F.records i no_record) (blocks F.n F.width F.height) (λ i l. same i (omega (arith, w)))
        ∙ list_of-own F.records no_record (blocks F.n F.width F.height) w in
        ap (file_text F.n F.width F.height F.table) e ∙ sym p.text

    pub read-then-written :
        (records space : ℕ) → length F.records ≤ records → space_for (length F.table) (length F.records) ≤ space
        → write_refusal (source_of (sheet_of F) F.table at) (A.list F.n) (A.count F.n) records space ≡ 0
    read-then-written records space enough room =
        let q = read-parts A samples lent F s t accepted in
        let f = q.1.sound in
        let w = f.whole in
        let z = size_small (length A.texture) (size_fields_of F.n F.width F.height (length F.table)) f.size in
        parts-accepted (source_of (sheet_of F) F.table at) (A.list F.n) (A.count F.n) records space
        (record {
          size = z.size;
          lengths = record { inside = q.0.inside F.n z.size; few = q.0.few F.n z.size; enough = rw w at enough; room = rw w at room };
          sides = z.sides;
          done = refl;
          sound = parts-table F.table z.some z.values f.values f.rises;
          each = λ i l.
              let k : i < length F.records = omega (arith, w) in
              rw (same i k) (written-sound F.n (A.list F.n) (A.count F.n) (textured A.texture) (length F.table) (get_or F.records i no_record) (f.each i k));
        })
