-- Laws that no proof cites: docs/PORT.md names them.
use Prim.Native.Nat.{ℕ, suc, ◌+◌, ◌≤◌, ◌<◌}
use mathlib.Core.Path.{◌≡◌, refl, sym, ◌∙◌, ap}
use mathlib.Core.List.{List, ◌++◌}
use native.Mathlib.Omega.{arith}
use lib.ListN.{length, length-set, get_or, set, take, drop}
use lib.Seq.{take-suc, drop-cons, set_at, append_snoc, length-take-le}
use Rattle.pattern.specs.Size.{for_size}
use Rattle.record.specs.declared.Record.{Record}
use Rattle.record_text.specs.Lines.{Lined, refused_at, read}
use Rattle.record_file.specs.Reading.{File, Aids, aids_of}
use Rattle.record_read.specs.declared.front.Front.{Front}
use Rattle.record_read.specs.Back.{Back, Lent, Leaves, leaving, material_for, samples_back}
use Rattle.record_read.specs.Step.{one_list, begun_at, block_lines, sheet_lines, table_of, with_front}

module _ {A : Type 0} (from to : List A) (m : ℕ) where
  -- i values are copied to l, as the loop has it
  abbrev pub Copying : List A → ℕ → Type 0
  Copying l i = (l ≡ take i from ++ drop i to) × (i ≤ m) × (length l ≡ length to)

  pub copy_more :
      (d : A) (i : ℕ) {l : List A} {v : A} → Copying l i → i < m → m ≤ length to → m ≤ length from → v ≡ get_or from i d
      → Copying (set l i v) (i + 1)
  copy_more d i {l} {v} c h k j q =
      let n : suc i ≡ i + 1 = omega arith in
      let o : i < length to = omega arith in
      let p : i < length from = omega arith in
      let set-in = set_at (take i from) (get_or to i d) (drop (suc i) to) (get_or from i d) i (length-take-le i from (omega arith)) in (
        ap (set l i) q
            ∙ ap (λ (x : List A). set x i (get_or from i d)) c.0
            ∙ rw (drop-cons to i d o, set-in)
            (sym (append_snoc (take i from) (get_or from i d) (drop (suc i) to))
            ∙ ap (λ (x : List A). x ++ drop (suc i) to) (sym (take-suc from i d p))
            ∙ ap (λ (j : ℕ). take j from ++ drop j to) n),
        omega arith,
        length-set l i v ∙ c.2,
      )

-- the list for the size in the file stands for all three
lent-as :
    (A B : Aids) (f : Front) (old : List ℕ) {new : List ℕ} → material_for A f.sheet.n (table_of f) ≡ material_for B f.sheet.n (table_of f)
    → (x : Lined (List Record)) → new ≡ leaving (with_front f x) (λ F. samples_back B F old) old
    → new ≡ leaving (with_front f x) (λ F. samples_back A F old) old
unfolding samples_back
lent-as A B f old e (refused_at n k) h = h
lent-as A B f old e (read l v) h = rw e h

pub read_as :
    (words4 words8 words16 : List ℕ) (count4 count8 count16 : ℕ) (texture : List ℕ) (f : Front)
    {words : List ℕ} {count : ℕ} {before after : Lent} {r : Back} {x : Lined File}
    → let A = aids_of words4 count4 words8 count8 words16 count16 texture in
    let B = one_list words count texture in
    words ≡ for_size f.sheet.n words4 words8 words16 → count ≡ for_size f.sheet.n count4 count8 count16 → x ≡ sheet_lines A f
    → Leaves B (sheet_lines B f) before r after → Leaves A x before r after
read_as words4 words8 words16 count4 count8 count16 texture f {before = before} e g q h =
    let n = f.sheet.n in
    let A = aids_of words4 count4 words8 count8 words16 count16 texture in
    let B = one_list (for_size n words4 words8 words16) (for_size n count4 count8 count16) texture in
    let l = rw (e, g) at h in
    rw q
    (record {
      answered = l.answered;
      kept = l.kept;
      drawn = lent-as A B f before.samples refl (block_lines B (length (table_of f)) (begun_at f)) l.drawn;
    })
