-- How far a file goes: its blocks, and the refusals of reading, of which none has the number 0 or a line past the one after the last of
-- 256 values and 1,024 records.
use Prim.Native.Nat.{ℕ, zero, suc, ◌+◌, ◌≤◌, ◌<◌}
use mathlib.Core.Path.{◌≡◌, refl, sym, ◌∙◌, ap}
use mathlib.Core.List.{List, [], ◌∷◌}
use native.Mathlib.Omega.{arith}
use lib.ListN.{length}
use Rattle.arith.specs.Checks.{refusal}
use Rattle.depth_table.specs.Table.{most_values}
use Rattle.sheet_grid.specs.Grid.{most_blocks}
use Rattle.sheet_grid.proofs.GridLaws.{records-few}
use Rattle.record_text.specs.declared.fields.SizeFields.{SizeFields}
use Rattle.record_text.specs.Parsed.{Parsed, Parser, bad_form, found, exactly}
use Rattle.record_text.specs.Line.{size_title, depth_title, record_title, size_line, value_line, record_line}
use Rattle.record_text.specs.Lines.{Lined, refused_at, read, judged, line, lines_then, no_meaning, many_lines, ended}
use Rattle.record_text.proofs.LinesLaws.{line-parts}
use Rattle.record_file.specs.Reading.{Aids, size_meaning, value_meaning, low_after, record_line_meaning, unchanged, value_lines, record_lines}
use Rattle.record_file.specs.Reading.{head_lines, table_lines, front_lines, blocks_in, rest_lines, file_lines, lists_ok, read_lengths_ok, read_file}
use Rattle.record_file.proofs.FileLaws.{size_small, front-parts}

-- ---- a sheet has at most 1,024 blocks

pub blocks-few : (texture : ℕ) (z : SizeFields) → size_meaning texture z ≡ 0 → blocks_in z ≤ most_blocks
blocks-few texture z h =
    let s = size_small texture z h in
    records-few z.n z.width z.height s.low s.width s.height

-- ---- refusals

-- a refusal with a number other than 0 at a line below b
abbrev pub Below : {A : Type 0} → ℕ → Lined A → Type 0
Below b (refused_at n k) = (0 < n) × (k < b)
Below b (read a s) = Unit {0}

module _ (b : ℕ) where
  judged-below : {B : Type 0} (k n : ℕ) (next : Lined B) → k < b → (n ≡ 0 → Below b next) → Below b (judged n k next)
  judged-below k zero next h f = f refl
  judged-below k (suc n) next h f = (omega arith, h)

  line-below :
      {A B : Type 0} (k : ℕ) (p : Parsed A) (meaning : A → ℕ) (next : A → List ℕ → Lined B) → k < b
      → ((a : A) (s : List ℕ) → meaning a ≡ 0 → Below b (next a s)) → Below b (line k p meaning next)
  line-below k bad_form meaning next h f = (omega arith, h)
  line-below k (found a s) meaning next h f = judged-below k (meaning a) (next a s) h (f a s)

  lines-below :
      {A B : Type 0} (x : Lined A) (next : A → List ℕ → Lined B) → Below b x → ((a : A) (s : List ℕ) → x ≡ read a s → Below b (next a s))
      → Below b (lines_then x next)
  lines-below (refused_at n k) next h f = h
  lines-below (read a s) next h f = f a s refl

  many_below :
      {S A : Type 0} (p : Parser A) (meaning : S → A → ℕ) (step : S → A → S) (m k : ℕ) (c : S) (s : List ℕ) → k + m ≤ b
      → Below b (many_lines p meaning step m k c s)
  unfolding many_lines
  many_below p meaning step zero k c s h = tt
  many_below p meaning step (suc m) k c s h =
      line-below k (p s) (meaning c) _ (omega arith)
      (λ a t _. lines-below (many_lines p meaning step m (suc k) (step c a) t) _ (many_below p meaning step m (suc k) (step c a) t (omega arith)) (λ l u _. tt))

  ended-below : {A : Type 0} (k : ℕ) (a : A) (s : List ℕ) → k < b → Below b (ended k a s)
  ended-below k a [] h = tt
  ended-below k a (x ∷ s) h = (omega arith, h)

-- the first line that is never reported: one more than the line after the last record of the longest file
abbrev pub line_end : ℕ
line_end = 5 + most_values + most_blocks + 1

head-below : (texture : ℕ) (s : List ℕ) → Below line_end (head_lines texture s)
head-below texture s =
    line-below line_end 1 (exactly size_title s) no_meaning _ (omega arith) (λ _ t _.
    line-below line_end 2 (size_line t) (size_meaning texture) _ (omega arith) (λ z u _.
    line-below line_end 3 (exactly depth_title u) no_meaning _ (omega arith) (λ _ v _. tt)))

-- the numbers of a size line that was read are sound
pub head-sound : (texture : ℕ) (s : List ℕ) (z : SizeFields) (t : List ℕ) → head_lines texture s ≡ read z t → size_meaning texture z ≡ 0
head-sound texture s z t q =
    let p1 = line-parts 1 no_meaning _ (exactly size_title s) z t q in
    let p2 = line-parts 2 (size_meaning texture) _ (size_line p1.rest) z t p1.then in
    let p3 = line-parts 3 no_meaning _ (exactly depth_title p2.rest) z t p2.then in
    ap (size_meaning texture) (sym (same p3.then)) ∙ p2.sound
  where
    same : {a b : SizeFields} {s t : List ℕ} → read a s ≡ read b t → a ≡ b
    same e = cc

table_below : (z : SizeFields) (s : List ℕ) → z.values ≤ most_values → Below line_end (table_lines z s)
table_below z s h =
    lines-below line_end (value_lines z.values 4 s) _ (many_below line_end value_line value_meaning low_after z.values 4 0 s (omega arith)) (λ table t _.
    line-below line_end (4 + z.values) (exactly record_title t) no_meaning _ (omega arith) (λ _ u _. tt))

pub front_below : (texture : ℕ) (s : List ℕ) → Below line_end (front_lines texture s)
front_below texture s =
    lines-below line_end (head_lines texture s) _ (head-below texture s)
    (λ z t e. table_below z t (size_small texture z (head-sound texture s z t e)).values)

rest_below : (A : Aids) (z : SizeFields) (s : List ℕ) → z.values ≤ most_values → blocks_in z ≤ most_blocks → Below line_end (rest_lines A z s)
rest_below A z s v m =
    lines-below line_end (record_lines z.n A z.values (blocks_in z) (5 + z.values) s) _
    (many_below line_end record_line (record_line_meaning z.n A z.values) unchanged (blocks_in z) (5 + z.values) tt s (omega arith))
    (λ l t _. ended-below line_end _ l t (omega arith))

file-below : (A : Aids) (s : List ℕ) → Below line_end (file_lines A s)
unfolding file_lines
file-below A s =
    lines-below line_end (front_lines (length A.texture) s) _ (front_below (length A.texture) s) (λ f t e.
    let p = front-parts (length A.texture) s f.0 f.1 t e in
    lines-below line_end (rest_lines A f.0 t) _
    (rest_below A f.0 t (size_small (length A.texture) f.0 p.size).values (blocks-few (length A.texture) f.0 p.size))
    (λ l u _. tt))

-- reading refuses with a number other than 0, at a line before that
pub read_below : (A : Aids) (samples records : ℕ) (s : List ℕ) → Below line_end (read_file A samples records s)
unfolding read_file
read_below A samples records s =
    judged-below line_end 0 (refusal ((read_lengths_ok samples records (lists_ok A), 2) ∷ []) 0) (file_lines A s) (omega arith) (λ _. file-below A s)
