-- Both round trips, on what the calls answer and leave.
use Prim.Native.Nat.{ℕ, ◌+◌, ◌≤◌, ◌<◌}
use mathlib.Core.Path.{◌≡◌, refl, sym, ◌∙◌, ap, subst}
use mathlib.Core.List.{List, [], ◌++◌, map}
use native.Mathlib.Omega.{arith}
use borrow.Author.Tests.{le-leb}
use lib.IntN.{ℤ}
use lib.ListN.{length, get_or, take, drop, replicate, length-append, length-map, get_or-append}
use lib.Seq.{sets, sets-eq, take_at}
use Rattle.arith.specs.Checks.{given}
use Rattle.arith.proofs.CheckLaws.{answer-given, lent-given, given-means}
use Rattle.arith.proofs.ListLaws.{list_of-at, map_at}
use Rattle.depth_table.proofs.TableLaws.{table-bytes}
use Rattle.record.specs.declared.Record.{Record}
use Rattle.sheet.specs.declared.Sheet.{Sheet}
use Rattle.sheet.specs.State.{after, area, blocks_of, finished}
use Rattle.sheet.specs.Place.{place_refusal, place_answer, place_after, placed_in_turn}
use Rattle.sheet.specs.Compose.{Task, compose_refusal}
use Rattle.sheet.proofs.InTurnLaws.{placed-in-turn}
use Rattle.record_text.specs.Lines.{Lined, refused_at, read}
use Rattle.record.specs.Record.{no_record}
use Rattle.record.specs.Lent.{record_at, record_in, fields_of}
use Rattle.record.proofs.LentLaws.{record-back}
use Rattle.depth_table.specs.Table.{most_values}
use Rattle.pattern.specs.Answer.{textured}
use Rattle.sheet_grid.specs.Grid.{most_samples, most_blocks}
use Rattle.record_file.specs.Reading.{File, Aids, read_lengths_ok, ReadLengths}
use Rattle.record_file.specs.Writing.{Source, source_of, space_for, write_refusal, written_text, write_answer, write_after}
use Rattle.record_file.proofs.FileLaws.{size_small}
use Rattle.record_file.proofs.MeaningLaws.{record-small}
use Rattle.record_file.proofs.LineBounds.{Below, line_end, blocks-few, read_below}
use Rattle.record_file.proofs.RefusalLaws.{accepted-parts, accepted-head, accepted-small}
use Rattle.record_file.proofs.RoundTrip.{read-lengths, held_by, sheet_of, written-then-read, read-then-text, read-then-written, read-parts}
use Rattle.record_read.specs.Back.{file_back, in_turn, records_over, samples_back, Lent, reading}
use Rattle.record_read.proofs.EmptyLaws.{empty-same}
use Rattle.record_read.proofs.RestLaws.{in-turn-none, in-turn-ext, file-accepted}
use Rattle.record_read.proofs.BackLaws.{table-first}
use Rattle.round_trip.specs.Law.{TextureFits, Enough, emptied, material_by, drawn_to, placed_by, ReadsBack, ReadWritesBack}
use Rattle.round_trip.specs.Law.{samples_composed, records_composed, task_by, WrittenAndRead, ComposedReadsBack, ComposedFrom}
use Rattle.round_trip.specs.Law.{ContinuedReadsBack, RoundTrips}
use Rattle.round_trip.proofs.LengthLaws.{text-fits, small-lendable}
use Rattle.round_trip.proofs.ComposedSheet.{composed-means, ready, record-accepted, composed-room, each-accepted, composed-drawn, lengths, accepted-writes, accepted-fits}

-- ---- what is written

module _ (W : Source) (list : List ℕ) (count records : ℕ) (old : List ℕ) (accepted : write_refusal W list count records (length old) ≡ 0) where
  text-room : length (written_text W) ≤ length old
  text-room =
      let p = accepted-parts W list count records (length old) accepted in
      omega (
        arith,
        p.lengths.room,
        text-fits W (accepted-head W list count records (length old) p) (table-bytes W.table p.sound) (accepted-small W list count records (length old) p),
      )

  -- the lent bytes afterwards: the text, and past it the old content
  text-left : write_after W list count records old ≡ written_text W ++ drop (length (written_text W)) old
  unfolding write_after
  text-left =
      let e : 0 + length (written_text W) ≡ length (written_text W) = omega arith in
      sym (lent-given (write_refusal W list count records (length old)) (sets old 0 (written_text W)) old accepted)
      ∙ sets-eq (written_text W) old 0 (omega (arith, text-room))
      ∙ ap (λ (k : ℕ). written_text W ++ drop k old) e

  text-answered : write_answer W list count records (length old) ≡ given (length (written_text W))
  unfolding write_answer
  text-answered = sym (answer-given (write_refusal W list count records (length old)) (length (written_text W)) accepted)

-- ---- what is written reads back

enough-read : (A : Aids) (L : Lent) → Enough A L → ReadLengths (length L.samples) (length L.records) A
unfolding read_lengths_ok
enough-read A L e =
    read-lengths (length L.samples) (length L.records) A
    (rw (le-leb most_samples (length L.samples) e.samples, le-leb most_blocks (length L.records) e.records) e.lists)

module _
    (W : Source) (A : Aids) (records k : ℕ) (old : List ℕ) (L : Lent)
    (answer : write_answer W (A.list W.sheet.n) (A.count W.sheet.n) records (length old) ≡ given k)
    (fits : TextureFits W A.texture) (enough : Enough A L)
  where
    abbrev list : List ℕ
    list = A.list W.sheet.n

    abbrev count : ℕ
    count = A.count W.sheet.n

    abbrev file : List ℕ
    file = take k (write_after W list count records old)

    answer-parts : (write_refusal W list count records (length old) ≡ 0) × (length (written_text W) ≡ k)
    unfolding write_answer
    answer-parts = given-means (write_refusal W list count records (length old)) (length (written_text W)) k answer

    file-is : file ≡ written_text W
    file-is =
        ap (take k) (text-left W list count records old answer-parts.0)
        ∙ take_at (written_text W) (drop (length (written_text W)) old) k answer-parts.1

    file-read : reading A L file ≡ read (held_by W) []
    file-read =
        ap (reading A L) file-is
        ∙ written-then-read W A records (length old) answer-parts.0 fits.size fits.lent (length L.samples) (length L.records)
        (enough-read A L enough)

    -- the samples of the file are those of the written records
    samples-placed : samples_back A (held_by W) L.samples ≡ placed_by A W ++ drop (area W.sheet) L.samples
    unfolding samples_back
    samples-placed =
        let S = emptied W.sheet in
        ap (λ (s : List ℕ). s ++ drop (area W.sheet) L.samples)
        (in-turn-ext S (material_by A W) (in_turn (held_by W).records) W.record-at (replicate (area S) 0) (blocks_of S)
        (list_of-at W.record-at no_record (blocks_of S)))

    -- `place` accepts each record on its turn
    placed-next :
        (s : List ℕ) → length s ≡ area W.sheet → (i : ℕ) → i < blocks_of W.sheet
        → (place_answer (after i (emptied W.sheet)) (drawn_to A W s i) (material_by A W) (W.record-at i) ≡ given (after (i + 1) (emptied W.sheet)))
        × (place_after (after i (emptied W.sheet)) (drawn_to A W s i) (material_by A W) (W.record-at i) ≡ drawn_to A W s (i + 1))
    placed-next s long i h =
        let F = held_by W in
        let p = accepted-parts W list count records (length old) answer-parts.0 in
        let q = read-parts A (length L.samples) (length L.records) F file [] file-read in
        let e : place_refusal (after i (emptied W.sheet)) (area W.sheet) (material_by A W) (W.record-at i) ≡ 0 =
        rw (list_of-at W.record-at no_record (blocks_of W.sheet) i h) at (file-accepted A F q.1.sound (record { inside = q.0.inside F.n p.size; few = q.0.few F.n p.size }) i h) in
        placed-in-turn (emptied W.sheet) (material_by A W) W.record-at s i (rw long e)

    pub reads-back : ReadsBack W A L file
    reads-back =
        let p = accepted-parts W list count records (length old) answer-parts.0 in
        record {
          answer = ap file_back file-read ∙ rw p.done refl;
          records = rw file-read refl;
          samples = rw file-read samples-placed;
          placed = placed-next;
          same = empty-same W.sheet.n W.sheet.width W.sheet.height p.size p.sides (material_by A W) W.record-at;
        }

-- ---- what is accepted is what is written of it

module _ (A : Aids) (L : Lent) (F : File) (s t old : List ℕ) (accepted : reading A L s ≡ read F t) where
  -- the lent records afterwards
  abbrev kept : List (List ℤ)
  kept = records_over F.records L.records

  abbrev writes : List ℕ → Type 0
  writes table =
      let W = source_of (sheet_of F) table (record_at kept) in
      (write_answer W (A.list F.n) (A.count F.n) (length kept) (length old) ≡ given (length s))
      × (write_after W (A.list F.n) (A.count F.n) (length kept) old ≡ s ++ drop (length s) old)

  records-room : length F.records ≤ length L.records
  records-room =
      let p = read-parts A (length L.samples) (length L.records) F s t accepted in
      omega (arith, p.0.records_lent, p.1.sound.whole, blocks-few (length A.texture) _ p.1.sound.size)

  kept-room : length F.records ≤ length kept
  kept-room = omega (arith, length-append (map fields_of F.records) (drop (length F.records) L.records), length-map F.records fields_of)

  -- the record at each place is the file's
  left_is : (i : ℕ) → i < length F.records → record_at kept i ≡ get_or F.records i no_record
  left_is i h =
      let p = read-parts A (length L.samples) (length L.records) F s t accepted in
      let size = (size_small (length A.texture) _ p.1.sound.size).size in
      let r = get_or F.records i no_record in
      let small = record-small F.n (A.list F.n) (A.count F.n) (textured A.texture) (length F.table) r (p.0.few F.n size) (p.1.sound.each i h) in
      ap record_in
      (get_or-append (map fields_of F.records) (drop (length F.records) L.records) [] i (omega (arith, length-map F.records fields_of))
      ∙ map_at fields_of F.records i [] no_record h)
      ∙ record-back r (small-lendable r small)

  writes-it : space_for (length F.table) (length F.records) ≤ length old → writes F.table
  writes-it space =
      let W = source_of (sheet_of F) F.table (record_at kept) in
      let lent = length L.records in
      let text = read-then-text A (length L.samples) lent F s t accepted (record_at kept) left_is in
      let none = read-then-written A (length L.samples) lent F s t accepted (record_at kept) left_is (length kept) (length old) kept-room space in (
        text-answered W (A.list F.n) (A.count F.n) (length kept) old none ∙ ap (λ (x : List ℕ). given (length x)) text,
        text-left W (A.list F.n) (A.count F.n) (length kept) old none ∙ ap (λ (x : List ℕ). x ++ drop (length x) old) text,
      )

  -- the table comes back from the array that holds its values before zeros
  table-back : take (length F.table) (sets (replicate most_values 0) 0 F.table) ≡ F.table
  table-back =
      let p = read-parts A (length L.samples) (length L.records) F s t accepted in
      table-first F.table (size_small (length A.texture) _ p.1.sound.size).values

  pub writes-back : space_for (length F.table) (blocks_of (sheet_of F)) ≤ length old → writes (take (length F.table) (sets (replicate most_values 0) 0 F.table))
  writes-back space =
      let p = read-parts A (length L.samples) (length L.records) F s t accepted in
      subst writes (sym table-back) (writes-it (rw (← p.1.sound.whole) at space))

-- where the answer's refusal is 0, a file was read
record WasRead (x : Lined File) : Type 0 where
  file : File
  rest : List ℕ
  is : x ≡ read file rest

was_read : (x : Lined File) → Below line_end x → (file_back x).refusal ≡ 0 → WasRead x
was_read (refused_at n k) h e = absurd (omega (arith, h.0))
was_read (read F s) h e = record { file = F; rest = s; is = refl }

read-writes : ReadWritesBack
read-writes A L s old none space =
    let r = was_read (reading A L s) (read_below A (length L.samples) (length L.records) s) none in
    rw r.is (writes-back A L r.file s r.rest old r.is (rw r.is at space))

-- ---- a composed sheet reads back

continued : ContinuedReadsBack
continued S F A table original reach C L k records first old at from answer enough space lent =
    let means = composed-means S T C answer in
    subst
    (λ (X : Sheet).
    blocks_of X ≤ records → space_for (length table) (blocks_of X) ≤ length old
    → WrittenAndRead (source_of X table at) A records old L (samples_composed S T C))
    means.1 (go means.0) enough space
  where
    T : Task
    T = task_by A S.n table original reach

    go :
        compose_refusal S (length C.samples) T (length C.records) ≡ 0 → blocks_of S ≤ records
        → space_for (length table) (blocks_of S) ≤ length old
        → WrittenAndRead (source_of (finished S) table at) A records old L (samples_composed S T C)
    go none enough space =
        let M = T.material in
        let W = source_of (finished S) table at in
        let some : 0 < blocks_of S = omega (arith, (ready S T C none).is_open.missing) in
        let each = each-accepted S T C first at from none in
        let written = text-answered W M.list M.count records old (accepted-writes S M first at some each records (length old) enough space) in
        let back = reads-back W A records (length (written_text W)) old L written (accepted-fits S M first at some each) lent in
        record {
          size = length (written_text W);
          written = written;
          back = back;
          samples =
              back.samples
              ∙ ap (λ (s : List ℕ). s ++ drop (area S) L.samples)
              (sym (composed-drawn S T C first at from none ∙ back.same first (lengths S M first at some each).whole));
        }

-- a sheet without a block is composed from its first block on
new-sheet : (S : Sheet) (T : Task) (C : Lent) → S.placed ≡ 0 → ComposedFrom S T C C.samples (record_at (records_composed S T C))
new-sheet S T C e =
    let f : ℕ → Record = record_at (records_composed S T C) in
    record {
      accepted = λ i h. absurd (omega (arith, e));
      lent =
          subst (λ (k : ℕ). C.samples ≡ placed_in_turn (emptied S) T.material f C.samples k) (sym e)
          (in-turn-none (emptied S) T.material f C.samples);
      composed = λ i h. let q : S.placed + i ≡ i = omega (arith, e) in ap (record_at (records_composed S T C)) q;
    }

composed : ComposedReadsBack
composed S F A table original reach C L k old e answer space lent =
    let T = task_by A S.n table original reach in
    let means = composed-means S T C answer in
    continued S F A table original reach C L k (length (records_composed S T C)) C.samples old (record_at (records_composed S T C)) (new-sheet S T C e) answer
    (rw (← means.1) (omega (arith, e, composed-room S T C means.0))) space lent

-- All round trips hold.
pub round-trips : RoundTrips
round-trips =
    record {
      written_reads_back = reads-back;
      read_writes_back = read-writes;
      composed_reads_back = composed;
      continued_reads_back = continued;
      composed_accepted = λ S F T C k answer. record-accepted S T C (composed-means S T C answer).0;
    }
