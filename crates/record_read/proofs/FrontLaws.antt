-- The lines before the records as the code reads them.
use Rattle.std.proofs.Common.{ℕ, ◌+◌, ◌≤◌, ◌≡◌, refl, sym, List}
use Rattle.std.specs.Borrow.{Bor}
use Rattle.arrayvec.specs.ArrayVec.{ArrayVec}
use Rattle.depth_table.specs.Table.{most_values}
use Rattle.record_text.specs.declared.fields.SizeFields.{SizeFields}
use Rattle.record_text.specs.Parsed.{Parsed, bad_form, found, exactly}
use Rattle.record_text.specs.Line.{record_title}
use Rattle.record_text.specs.Lines.{refused_at, read, line, no_meaning}
use Rattle.record_text.proofs.LinesLaws.{refused-read}
use Rattle.record_file.specs.Reading.{head_lines, value_lines, front_lines}
use Rattle.record_file.proofs.FileLaws.{size_small, front-parts}
use Rattle.record_file.proofs.LineBounds.{head-sound}
use Rattle.record_read.specs.declared.head.Head.{Head}
use Rattle.record_read.specs.Told.{head_fields}
use Rattle.record_read.specs.Step.{FrontRead}

-- the size line's count is at most that of a table
pub head_few : (texture : ℕ) (s : List ℕ) (h : Head) (t : List ℕ) → read (head_fields h) t ≡ head_lines texture s → h.values ≤ most_values
head_few texture s h t e = (size_small texture (head_fields h) (head-sound texture s (head_fields h) t (sym e))).values

-- the title after the values
pub title-bad : {A : Type 0} (j : ℕ) (a : A) {n k : ℕ} (p : Parsed (Unit {0})) → refused_at n k ≡ line j p no_meaning read → refused_at n k ≡ line j p no_meaning (λ _ s. read a s)
title-bad j a bad_form e = cc
title-bad j a (found _ t) e = refused-read e

pub title-read : {A : Type 0} (j : ℕ) (a : A) {t : List ℕ} (p : Parsed (Unit {0})) → read tt t ≡ line j p no_meaning read → read a t ≡ line j p no_meaning (λ _ s. read a s)
title-read j a bad_form e = refused-read (sym e)
title-read j a (found _ t) e = cc

module _ (texture : ℕ) (s : List ℕ) (z : SizeFields) (u : List ℕ) (head : read z u ≡ head_lines texture s) where
  -- a value's line is refused
  pub values-refused : {n k : ℕ} → refused_at n k ≡ value_lines z.values 4 u → refused_at n k ≡ front_lines texture s
  values-refused e = rw (← head, ← e) refl

  module _ (table : List ℕ) (v : List ℕ) (values : read table v ≡ value_lines z.values 4 u) where
    pub title-refused : {n k : ℕ} → refused_at n k ≡ line (4 + z.values) (exactly record_title v) no_meaning read → refused_at n k ≡ front_lines texture s
    title-refused e = rw (← head, ← values) (title-bad (4 + z.values) (z, table) (exactly record_title v) e)

    pub front_read : (t : List ℕ) → read tt t ≡ line (4 + z.values) (exactly record_title v) no_meaning read → read (z, table) t ≡ front_lines texture s
    front_read t e = rw (← head, ← values) (title-read (4 + z.values) (z, table) (exactly record_title v) e)

pub front-is :
    (texture : ℕ) (s : List ℕ) (h : Head) (u : List ℕ) → read (head_fields h) u ≡ head_lines texture s → (table : ArrayVec ℕ) (v : List ℕ)
    → read table.items v ≡ value_lines h.values 4 u
    → (t : Bor (List ℕ)) → read tt t.now ≡ line (4 + h.values) (exactly record_title v) no_meaning read
    → FrontRead texture s (record { sheet = h.sheet; table = table; rest = t })
front-is texture s h u head table v values t e =
    let z = head_fields h in
    let r = front_read texture s z u head table.items v values t.now e in
    let p = front-parts texture s z table.items t.now (sym r) in
    record { is = rw p.count r; sound = record { size = rw p.count p.size; empty = h.empty } }
