-- Both inverse laws of the whole text: reading gives what was printed, and what is read was printed so.
use Prim.Native.Nat.{ℕ, ◌+◌, ◌*◌, ◌≤◌, ◌<◌}
use mathlib.Core.Path.{◌≡◌, refl, ap, sym, subst, ◌∙◌}
use mathlib.Core.Bool.{true}
use mathlib.Core.List.{List, [], ◌++◌, append-nil}
use native.Mathlib.Omega.{arith}
use borrow.Author.Tests.{leb-true}
use lib.Dec.{leb}
use lib.ListN.{length, get_or}
use Rattle.arith.proofs.Bools.{both_of}
use Rattle.arith.proofs.CheckLaws.{holds}
use Rattle.depth_table.specs.Table.{most_values, bytes, rising}
use Rattle.pattern.specs.Size.{greatest_size, size_ok}
use Rattle.pattern.proofs.SizeLaws.{size-bounds}
use Rattle.sheet_grid.specs.Grid.{longest, blocks, side_ok}
use Rattle.sheet.specs.State.{state_of, sides_ok}
use Rattle.sheet.proofs.SideLaws.{side-bounds}
use Rattle.record_text.specs.declared.fields.SizeFields.{SizeFields}
use Rattle.record.specs.declared.Record.{Record}
use Rattle.record_text.specs.Printable.{SizePrintable}
use Rattle.record_text.specs.Parsed.{exactly}
use Rattle.record_text.specs.Line.{size_title, depth_title, record_title, size_line, size_text, value_line, value_text, record_line, record_text}
use Rattle.record_text.specs.Lines.{read, no_meaning, many_lines, texts, Each}
use Rattle.record_text.specs.Items.{Item}
use Rattle.record_text.proofs.ParsedLaws.{exactly_reads, exactly-wrote}
use Rattle.record_text.proofs.LineLaws.{size-line, value-line, record-line}
use Rattle.record_text.proofs.LinesLaws.{line_read, line-parts, lines-read, lines-parts, ended-parts}
use Rattle.record_text.proofs.ItemLaws.{many-item}
use Rattle.record_text.proofs.LengthLaws.{value-le, record-le}
use Rattle.record.specs.Record.{no_record}
use Rattle.record_file.specs.Text.{size_fields_of, file_text}
use Rattle.record_file.specs.Reading.{File, file_of, Aids, size_checks, size_meaning, value_meaning, low_after, record_line_meaning, unchanged}
use Rattle.record_file.specs.Reading.{value_lines, record_lines, last_lines, head_lines, front_lines, blocks_in, file_lines}
use Rattle.record_file.proofs.MeaningLaws.{SoundValue, SoundRecord, values-sound, sound-values, each-made, each_at, record-small, small-printable}

-- what is sound in a file
pub record FileSound (A : Aids) (F : File) : Type 0 where
  pub size : size_meaning (length A.texture) (size_fields_of F.n F.width F.height (length F.table)) ≡ 0
  pub values : bytes F.table ≡ true
  pub rises : rising 0 F.table ≡ true
  pub whole : length F.records ≡ blocks F.n F.width F.height
  pub each : (i : ℕ) → i < length F.records → record_line_meaning F.n A (length F.table) tt (get_or F.records i no_record) ≡ 0

abbrev pub text_of : File → List ℕ
text_of F = file_text F.n F.width F.height F.table F.records

-- ---- how far the numbers of line 2 go

pub record SizeSmall (z : SizeFields) : Type 0 where
  pub size : size_ok z.n ≡ true
  pub sides : sides_ok (state_of z.n z.width z.height 0) ≡ true
  pub low : 4 ≤ z.n
  pub n : z.n ≤ greatest_size
  pub width : z.width ≤ longest
  pub height : z.height ≤ longest
  pub some : 1 ≤ z.values
  pub values : z.values ≤ most_values

pub size_small : (texture : ℕ) (z : SizeFields) → size_meaning texture z ≡ 0 → SizeSmall z
unfolding size_meaning
size_small texture z h =
    let c = (holds (size_checks texture z) 0 h).0 in
    let e = both_of (leb 1 z.values) (leb z.values most_values) c.1.1.1.0 in
    let n = size-bounds z.n c.0 in
    let s = both_of (side_ok z.n z.width) (side_ok z.n z.height) c.1.0 in
    record {
      size = c.0;
      sides = c.1.0;
      low = n.0;
      n = n.1;
      width = (side-bounds z.n z.width s.0).1;
      height = (side-bounds z.n z.height s.1).1;
      some = leb-true 1 z.values e.0;
      values = leb-true z.values most_values e.1;
    }

size-printable : (z : SizeFields) → SizeSmall z → SizePrintable z
size-printable z s = (omega (arith, s.n), (omega (arith, s.width), (omega (arith, s.height), (omega (arith, s.values), tt))))

-- ---- the values, and the records, as items: at most 6 bytes a value, and 26 a record

pub value-item :
    (m k : ℕ) → Item (λ low s. many_lines value_line value_meaning low_after m k low s) (texts value_text) (λ low l. (length l ≡ m) × Each SoundValue low_after low l) (6 * m)
value-item = many-item 6 value-line value-le value_meaning low_after

pub record-item :
    (n : ℕ) (A : Aids) (values m k : ℕ)
    → Item (λ c s. many_lines record_line (record_line_meaning n A values) unchanged m k c s) (texts record_text)
    (λ c l. (length l ≡ m) × Each (SoundRecord n A values) unchanged c l) (26 * m)
record-item n A values = many-item 26 record-line record-le (record_line_meaning n A values) unchanged

-- ---- what is printed is read

module _ (A : Aids) (F : File) (few : A.count F.n ≤ 9999) (ok : FileSound A F) where
  abbrev header : SizeFields
  header = size_fields_of F.n F.width F.height (length F.table)

  sound-records : Each (SoundRecord F.n A (length F.table)) unchanged tt F.records
  sound-records =
      each-made (SoundRecord F.n A (length F.table) tt) unchanged no_record F.records
      (λ i h. let m = ok.each i h in (small-printable _ (record-small F.n (A.list F.n) (A.count F.n) _ _ _ few m), m))

  last-read : last_lines F.n A (length F.table) (blocks_in header) (5 + length F.table) (texts record_text F.records) ≡ read F.records []
  last-read =
      ap (λ (s : List ℕ). last_lines F.n A (length F.table) (blocks_in header) (5 + length F.table) s) (sym (append-nil (texts record_text F.records)))
      ∙ lines-read _ ((record-item F.n A (length F.table) (blocks_in header) (5 + length F.table)).reads tt F.records [] (ok.whole, sound-records))

  head_read : (s : List ℕ) → head_lines (length A.texture) (size_title ++ (size_text header ++ (depth_title ++ s))) ≡ read header s
  head_read s =
      line_read 1 no_meaning _ (exactly_reads size_title _) refl
      ∙ line_read 2 (size_meaning (length A.texture)) _
      (size-line.reads header _ (size-printable header (size_small (length A.texture) header ok.size))) ok.size
      ∙ line_read 3 no_meaning _ (exactly_reads depth_title s) refl

  front_read :
      (s : List ℕ)
      → front_lines (length A.texture) (size_title ++ (size_text header ++ (depth_title ++ (texts value_text F.table ++ (record_title ++ s))))) ≡ read (header, F.table) s
  front_read s =
      lines-read _ (head_read (texts value_text F.table ++ (record_title ++ s)))
      ∙ lines-read _ ((value-item (length F.table) 4).reads 0 F.table (record_title ++ s) (refl, values-sound F.table 0 ok.values ok.rises))
      ∙ line_read (4 + length F.table) no_meaning _ (exactly_reads record_title s) refl

  pub file-reads : file_lines A (text_of F) ≡ read F []
  unfolding file_lines file_text
  file-reads = lines-read _ (front_read (texts record_text F.records)) ∙ lines-read _ last-read

-- ---- what is read was printed so

-- the parts of a text, put together
join :
    (A : Aids) (F : File) (z : SizeFields) (table : List ℕ) (records : List Record) (s s1 s2 s3 s4 s5 s6 : List ℕ)
    → s ≡ size_title ++ s1 → s1 ≡ size_text z ++ s2 → s2 ≡ depth_title ++ s3 → s3 ≡ texts value_text table ++ s4 → s4 ≡ record_title ++ s5
    → s5 ≡ texts record_text records ++ s6 → s6 ≡ [] → length table ≡ z.values → file_of z.n z.width z.height table records ≡ F
    → s ≡ text_of F
unfolding file_text
join A F z table records s s1 s2 s3 s4 s5 s6 e1 e2 e3 e4 e5 e6 e7 c e_f =
    rw (← e_f, c, e1, e2, e3, e4, e5, e6, e7, append-nil (texts record_text records))

sound-as :
    (A : Aids) (F : File) (z : SizeFields) (table : List ℕ) (records : List Record)
    → size_meaning (length A.texture) z ≡ 0 → length table ≡ z.values → Each SoundValue low_after 0 table
    → length records ≡ blocks z.n z.width z.height
    → Each (SoundRecord z.n A z.values) unchanged tt records
    → file_of z.n z.width z.height table records ≡ F → FileSound A F
sound-as A F z table records h c v l r e_f =
    let w = sound-values table 0 v in
    rw (← e_f)
    (record {
      size = rw c h;
      values = w.0;
      rises = w.1;
      whole = l;
      each = λ i k. rw c (each_at (SoundRecord z.n A z.values tt) unchanged no_record records r i k).1;
    })

-- what was read
pub record FileRead (A : Aids) (F : File) (s t : List ℕ) : Type 0 where
  pub text : s ≡ text_of F
  pub nothing_left : t ≡ []
  pub sound : FileSound A F

-- two readings of the same
same_read : {A : Type 0} {a b : A} {s t : List ℕ} → read a s ≡ read b t → (a ≡ b) × (s ≡ t)
same_read e = (cc, cc)

-- the parts of the lines before the records
pub record FrontParts (texture : ℕ) (s : List ℕ) (z : SizeFields) (table t : List ℕ) : Type 0 where
  pub s1 : List ℕ
  pub s2 : List ℕ
  pub s3 : List ℕ
  pub s4 : List ℕ
  pub e1 : s ≡ size_title ++ s1
  pub e2 : s1 ≡ size_text z ++ s2
  pub e3 : s2 ≡ depth_title ++ s3
  pub e4 : s3 ≡ texts value_text table ++ s4
  pub e5 : s4 ≡ record_title ++ t
  pub size : size_meaning texture z ≡ 0
  pub count : length table ≡ z.values
  pub each : Each SoundValue low_after 0 table

pub front-parts : (texture : ℕ) (s : List ℕ) (z : SizeFields) (table t : List ℕ) → front_lines texture s ≡ read (z, table) t → FrontParts texture s z table t
front-parts texture s z table t q =
    let h = lines-parts _ (head_lines texture s) (z, table) t q in
    let p1 = line-parts 1 no_meaning _ (exactly size_title s) h.value h.rest h.first in
    let p2 = line-parts 2 (size_meaning texture) _ (size_line p1.rest) h.value h.rest p1.then in
    let p3 = line-parts 3 no_meaning _ (exactly depth_title p2.rest) h.value h.rest p2.then in
    let h' = same_read p3.then in
    let p4 = lines-parts _ (value_lines h.value.values 4 h.rest) (z, table) t h.then in
    let p5 = line-parts (4 + h.value.values) no_meaning _ (exactly record_title p4.rest) (z, table) t p4.then in
    let z' = same_read p5.then in
    let w2 = size-line.wrote p2.value p1.rest p2.rest p2.form in
    let w4 = (value-item h.value.values 4).wrote 0 p4.value h.rest p4.rest p4.first in
    let ez : p2.value ≡ z = h'.0 ∙ ap (λ (f : SizeFields × List ℕ). f.0) z'.0 in
    let et : p4.value ≡ table = ap (λ (f : SizeFields × List ℕ). f.1) z'.0 in
    record {
      s1 = p1.rest;
      s2 = p2.rest;
      s3 = p3.rest;
      s4 = p4.rest;
      e1 = exactly-wrote size_title s p1.rest p1.value p1.form;
      e2 = w2.0 ∙ ap (λ (y : SizeFields). size_text y ++ p2.rest) ez;
      e3 = exactly-wrote depth_title p2.rest p3.rest p3.value p3.form;
      e4 = h'.1 ∙ w4.0 ∙ ap (λ (y : List ℕ). texts value_text y ++ p4.rest) et;
      e5 = exactly-wrote record_title p4.rest p5.rest p5.value p5.form ∙ ap (λ (y : List ℕ). record_title ++ y) z'.1;
      size = ap (size_meaning texture) (sym ez) ∙ p2.sound;
      count = ap length (sym et) ∙ w4.1.0 ∙ ap (λ (f : SizeFields × List ℕ). f.0.values) z'.0;
      each = subst (Each SoundValue low_after 0) et w4.1.1;
    }

pub file-wrote : (A : Aids) (F : File) (s t : List ℕ) → file_lines A s ≡ read F t → FileRead A F s t
unfolding file_lines
file-wrote A F s t q =
    let f = lines-parts _ (front_lines (length A.texture) s) F t q in
    let z = f.value.0 in
    let table = f.value.1 in
    let m = blocks_in z in
    let p = front-parts (length A.texture) s z table f.rest f.first in
    let l = lines-parts _ (last_lines z.n A z.values m (5 + z.values) f.rest) F t f.then in
    let r = lines-parts _ (record_lines z.n A z.values m (5 + z.values) f.rest) l.value l.rest l.first in
    let e = ended-parts (5 + z.values + m) r.value l.value r.rest l.rest r.then in
    let g = same_read l.then in
    let e_f : file_of z.n z.width z.height table r.value ≡ F = ap (file_of z.n z.width z.height table) e.0 ∙ g.0 in
    let w = (record-item z.n A z.values m (5 + z.values)).wrote tt r.value f.rest r.rest r.first in
    record {
      text =
          join A F z table r.value s p.s1 p.s2 p.s3 p.s4 f.rest r.rest p.e1 p.e2 p.e3 p.e4 p.e5 w.0 e.1
          p.count e_f;
      nothing_left = sym g.1 ∙ e.2;
      sound = sound-as A F z table r.value p.size p.count p.each w.1.0 w.1.1 e_f;
    }
