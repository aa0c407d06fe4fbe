-- What is shown of a file depends only on its first bytes: one more than the longest sound file can need.
use Prim.Native.Nat.{ℕ, ◌+◌, ◌*◌, ◌≤◌, ◌<◌}
use mathlib.Core.Path.{◌≡◌, refl, sym, ◌∙◌, ap}
use mathlib.Core.List.{List, ◌++◌}
use native.Mathlib.Decide.{dec_lt}
use native.Mathlib.Omega.{arith}
use lib.ListN.{length, take, drop, length-append, take-append-drop}
use lib.Seq.{length-take-le, take_all}
use Rattle.depth_table.specs.Table.{most_values}
use Rattle.record_text.specs.declared.fields.SizeFields.{SizeFields}
use Rattle.record_text.specs.Parsed.{Parsed, bad_form, found, and_then, exactly}
use Rattle.record_text.specs.Line.{size_title, depth_title, record_title, size_line}
use Rattle.record_text.specs.Lines.{Lined, refused_at, read, no_meaning}
use Rattle.record_text.specs.Items.{extended, TakesAtMost}
use Rattle.record_text.proofs.ItemLaws.{onward, parsed-same, within_more, none_within, ended-within, line-within, lines-within}
use Rattle.record_text.proofs.LengthLaws.{size-le}
use Rattle.record_text.proofs.LineLaws.{size-line}
use Rattle.record_text.proofs.ParsedLaws.{exactly-codec, exactly-wrote}
use Rattle.record_file.specs.Reading.{File, Aids, size_meaning, head_lines, table_lines, front_lines, blocks_in, rest_lines, file_lines, read_file}
use Rattle.record_file.proofs.FileLaws.{size_small, value-item, record-item, front-parts, file-wrote}
use Rattle.record_file.proofs.LineBounds.{blocks-few, head-sound}
use Rattle.sheet_grid.specs.Grid.{most_samples, most_blocks}
use Rattle.show_text.specs.Showing.{size_by, size_in, aids_for, text_by, shown_text, file_space, file_bytes}

-- ---- the lines of a file take few bytes: at most 25, 24, 6, 6 for each of 256 values, 21, 26 for each of 1,024 records

size-title-length : length size_title ≤ 25
unfolding size_title
size-title-length = omega arith

depth-title-length : length depth_title ≤ 6
unfolding depth_title
depth-title-length = omega arith

record-title-length : length record_title ≤ 21
unfolding record_title
record-title-length = omega arith

head-within : (texture : ℕ) → TakesAtMost (25 + (24 + (6 + 0))) (head_lines texture)
head-within texture =
    line-within 1 25 (24 + (6 + 0)) (exactly-codec size_title) (λ _. size-title-length) no_meaning _ (λ _ _.
    line-within 2 24 (6 + 0) size-line size-le (size_meaning texture) _ (λ z _.
    line-within 3 6 0 (exactly-codec depth_title) (λ _. depth-title-length) no_meaning _ (λ _ _. none_within z)))

table-within : (z : SizeFields) → z.values ≤ most_values → TakesAtMost (6 * most_values + (21 + 0)) (table_lines z)
table-within z h =
    lines-within {b = 6 * most_values} (within_more (omega arith) ((value-item z.values 4).within 0)) _ (λ s u table _.
    line-within (4 + z.values) 21 0 (exactly-codec record_title) (λ _. record-title-length) no_meaning _ (λ _ _. none_within (z, table)))

front-within : (texture : ℕ) → TakesAtMost (25 + (24 + (6 + 0)) + (6 * most_values + (21 + 0))) (front_lines texture)
front-within texture =
    lines-within (head-within texture) (λ z s. table_lines z s)
    (λ s u z e. table-within z (size_small texture z (head-sound texture s z u e)).values)

rest-within : (A : Aids) (z : SizeFields) → blocks_in z ≤ most_blocks → TakesAtMost (26 * most_blocks + 1) (rest_lines A z)
rest-within A z h =
    lines-within {b = 26 * most_blocks} (within_more (omega arith) ((record-item z.n A z.values (blocks_in z) (5 + z.values)).within tt)) _
    (λ s u l _. ended-within _ l)

file-within : (A : Aids) → TakesAtMost file_space (file_lines A)
unfolding file_lines
file-within A =
    within_more (omega arith)
    (lines-within (front-within (length A.texture)) _ (λ s u f e.
    let p = front-parts (length A.texture) s f.0 f.1 u e in
    lines-within (rest-within A f.0 (blocks-few (length A.texture) f.0 p.size)) _ (λ _ _ l _. none_within _)))

-- ---- so what follows them is never read

module _ (s t : List ℕ) (long : file_space < length s) where
  -- bytes that are too many for a sound file are refused, whatever follows
  lines_same : (A : Aids) → file_lines A (s ++ t) ≡ file_lines A s
  lines_same A = (file-within A).same s t (omega arith) ∙ go (file_lines A s) refl
    where
      go : (x : Lined File) → file_lines A s ≡ x → extended t x ≡ x
      go (refused_at n k) e = refl
      go (read F u) e = absurd (omega (arith, (file-within A).left s u F e, ap length (file-wrote A F s u e).nothing_left))

  -- so the whole reading is the same, and the size that it is done with
  reading-same : (A : Aids) (samples records : ℕ) → read_file A samples records (s ++ t) ≡ read_file A samples records s
  unfolding read_file
  reading-same A samples records = rw (lines_same A)

  size_same : size_in (s ++ t) ≡ size_in s
  unfolding size_in
  size_same =
      ap (λ (x : Parsed (Unit {0})). size_by (and_then x (λ _ u. size_line u))) (parsed-same (exactly-codec size_title) 25 (λ _. size-title-length) s t (omega arith))
      ∙ go (exactly size_title s) refl
    where
      by : (x : Parsed SizeFields) → size_by (onward t x) ≡ size_by x
      by bad_form = refl
      by (found z u) = refl

      go : (x : Parsed (Unit {0})) → exactly size_title s ≡ x → size_by (and_then (onward t x) (λ _ u. size_line u)) ≡ size_by (and_then x (λ _ u. size_line u))
      go bad_form e = refl
      go (found a u) e =
          let w = exactly-wrote size_title s u a e in
          ap size_by (parsed-same size-line 24 size-le u t (omega (arith, ap length w, length-append size_title u, size-title-length))) ∙ by (size_line u)

  shown-same : shown_text (s ++ t) ≡ shown_text s
  unfolding shown_text
  shown-same = rw size_same (ap (text_by (aids_for (size_in s))) (reading-same (aids_for (size_in s)) most_samples most_blocks))

-- What is shown of the first 33,873 bytes of a longer file is what is shown of the file.
pub first-bytes : (s : List ℕ) → shown_text (take file_bytes s) ≡ shown_text s
first-bytes s = go (dec_lt file_space (length s))
  where
    go : Dec (file_space < length s) → shown_text (take file_bytes s) ≡ shown_text s
    go (yes h) =
        let e = length-take-le file_bytes s h in
        sym (shown-same (take file_bytes s) (drop file_bytes s) (omega (arith, e))) ∙ ap shown_text (take-append-drop file_bytes s)
    go (no h) = ap shown_text (take_all file_bytes s (omega arith))
