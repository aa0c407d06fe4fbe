-- Both inverse laws of each line, field by field.
use Prim.Native.Nat.{ℕ, zero, suc, ◌<◌}
use mathlib.Core.Path.{◌≡◌, refl, sym, ◌∙◌, ap}
use mathlib.Core.Bool.{Bool, true, false}
use mathlib.Core.List.{List, [], ◌∷◌, ◌++◌, append_assoc}
use native.Mathlib.Omega.{arith}
use lib.IntN.{ℤ, pos, negsuc, nat_abs}
use lib.ListN.{length, get_or}
use mir.Syntax.{w32}
use mir.Val.{to_z, of_z}
use Rattle.record.specs.declared.Record.{Record}
use Rattle.record_text.specs.Parsed.{Parsed, bad_form, found, and_then, mapped}
use Rattle.record_text.specs.Field.{signed, signed_text}
use Rattle.record_text.specs.Line.{end_of, line_of, line_text, number_at, size_form, size_named, size_numbers, size_line, size_text, value_line, value_text, record_form, record_named, record_numbers, record_line, record_text}
use Rattle.record_text.specs.Codec.{Codec, NumberPrintable, FieldPrintable}
use Rattle.record_text.specs.Printable.{LinePrintable, SizePrintable, RecordPrintable}
use Rattle.record_text.proofs.ParsedLaws.{bad-found, more_parts, mapped-codec}
use Rattle.record_text.proofs.SignLaws.{field_back}
use Rattle.record_text.proofs.FieldLaws.{number-codec, signed-codec}

-- ---- a line of fields

end-small : {A : Type 0} (l : List A) → end_of l < 48
end-small [] = omega arith
end-small (a ∷ l) = omega arith

-- a form and its numbers end together
end_same : (form : List Bool) (l : List ℤ) → LinePrintable form l → end_of form ≡ end_of l
end_same [] [] h = refl
end_same [] (z ∷ l) h = absurd h
end_same (m ∷ form) [] h = absurd h
end_same (m ∷ form) (z ∷ l) h = refl

line_reads : (form : List Bool) (l : List ℤ) (t : List ℕ) → LinePrintable form l → line_of form (line_text l ++ t) ≡ found l t
line_reads [] [] t h = refl
line_reads [] (z ∷ l) t h = absurd h
line_reads (m ∷ form) [] t h = absurd h
line_reads (m ∷ form) (z ∷ l) t h =
    rw (append_assoc, end_same form l h.1, (signed-codec m (end_of l) (end-small l)).reads z (line_text l ++ t) h.0, line_reads form l t h.1)

line_wrote : (form : List Bool) (l : List ℤ) (s t : List ℕ) → line_of form s ≡ found l t → (s ≡ line_text l ++ t) × LinePrintable form l
line_wrote [] l s t p =
    let e : [] ≡ l = cc in
    let k : s ≡ t = cc in
    rw (← e) (k, tt)
line_wrote (m ∷ form) l s t p =
    let r = more_parts (signed m (end_of form)) (line_of form) s l t p in
    let a = (signed-codec m (end_of form) (end-small form)).wrote r.value s r.rest r.one in
    let b = line_wrote form r.others r.rest t r.two in
    rw (r.whole, ← end_same form r.others b.1, append_assoc) (a.0 ∙ ap (λ (u : List ℕ). signed_text (end_of form) r.value ++ u) b.0, (a.1, b.1))

pub line-codec : (form : List Bool) → Codec (line_of form) line_text (LinePrintable form)
line-codec form = record { reads = line_reads form; wrote = line_wrote form }

-- ---- the numbers of a line by name are all of its numbers

-- those from place k on, by their form
abbrev rebuilt : List Bool → List ℤ → ℕ → List ℤ
rebuilt [] l k = []
rebuilt (true ∷ form) l k = number_at l k ∷ rebuilt form l (suc k)
rebuilt (false ∷ form) l k = pos (nat_abs (number_at l k)) ∷ rebuilt form l (suc k)

rebuilt-next : (form : List Bool) (z : ℤ) (l : List ℤ) (k : ℕ) → rebuilt form (z ∷ l) (suc k) ≡ rebuilt form l k
rebuilt-next [] z l k = refl
rebuilt-next (true ∷ form) z l k = ap (λ (x : List ℤ). number_at l k ∷ x) (rebuilt-next form z l (suc k))
rebuilt-next (false ∷ form) z l k = ap (λ (x : List ℤ). pos (nat_abs (number_at l k)) ∷ x) (rebuilt-next form z l (suc k))

rebuilt-same : (form : List Bool) (l : List ℤ) → LinePrintable form l → rebuilt form l 0 ≡ l
rebuilt-same [] [] h = refl
rebuilt-same [] (z ∷ l) h = absurd h
rebuilt-same (m ∷ form) [] h = absurd h
rebuilt-same (true ∷ form) (z ∷ l) h = ap (λ (x : List ℤ). z ∷ x) (rebuilt-next form z l 0 ∙ rebuilt-same form l h.1)
rebuilt-same (false ∷ form) (pos n ∷ l) h = ap (λ (x : List ℤ). pos n ∷ x) (rebuilt-next form (pos n) l 0 ∙ rebuilt-same form l h.1)
rebuilt-same (false ∷ form) (negsuc n ∷ l) h = absurd h.0

-- each of them can be printed in its field
pub printable-at : (form : List Bool) (l : List ℤ) → LinePrintable form l → (k : ℕ) → k < length form → FieldPrintable (get_or form k false) (number_at l k)
printable-at [] [] h k q = absurd (omega arith)
printable-at [] (z ∷ l) h k q = absurd h
printable-at (m ∷ form) [] h k q = absurd h
printable-at (m ∷ form) (z ∷ l) h zero q = h.0
printable-at (m ∷ form) (z ∷ l) h (suc k) q = printable-at form l h.1 k (omega arith)

-- and stands for itself in a word of the machine
pub number-back : (form : List Bool) (l : List ℤ) → LinePrintable form l → (k : ℕ) → k < length form → to_z w32 (of_z w32 (number_at l k)) ≡ number_at l k
number-back form l h k q = field_back (get_or form k false) (number_at l k) (printable-at form l h k q)

-- ---- the lines

-- a table value's line
pub value-line : Codec value_line value_text NumberPrintable
unfolding value_line value_text
value-line = number-codec 10 (omega arith)

-- the size line
pub size-line : Codec size_line size_text SizePrintable
unfolding size_line size_text
size-line = mapped-codec size_named size_numbers (rebuilt-same size_form) (λ h. refl) (line-codec size_form)

-- a record's line
pub record-line : Codec record_line record_text RecordPrintable
unfolding record_line record_text
record-line = mapped-codec record_named record_numbers (rebuilt-same record_form) (λ r. refl) (line-codec record_form)

-- ---- the size line read by the names of a record's

module _ (s : List ℕ) where
  pub size-other : mapped record_named (line_of size_form) s ≡ bad_form → size_line s ≡ bad_form
  unfolding size_line
  size-other e = go (line_of size_form s) e
    where
      go : (x : Parsed (List ℤ)) → and_then x (λ l t. found (record_named l) t) ≡ bad_form → and_then x (λ l t. found (size_named l) t) ≡ bad_form
      go bad_form e = refl
      go (found l t) e = bad-found (sym e)

  -- and what it says of the last two, which have no minus
  pub record SizeBy (r : Record) (t : List ℕ) : Type 0 where
    pub third : FieldPrintable false r.off0
    pub fourth : FieldPrintable false r.off1
    pub third_back : to_z w32 (of_z w32 r.off0) ≡ r.off0
    pub fourth_back : to_z w32 (of_z w32 r.off1) ≡ r.off1
    pub line : size_line s ≡ found (record { n = r.kind; width = r.entry; height = nat_abs r.off0; values = nat_abs r.off1 }) t

  pub size-by : (r : Record) (t : List ℕ) → mapped record_named (line_of size_form) s ≡ found r t → SizeBy r t
  unfolding size_line
  size-by r t e = go (line_of size_form s) refl e
    where
      go : (x : Parsed (List ℤ)) → line_of size_form s ≡ x → and_then x (λ l u. found (record_named l) u) ≡ found r t → SizeBy r t
      go bad_form q e = bad-found e
      go (found l u) q e =
          let er : record_named l ≡ r = cc in
          let et : u ≡ t = cc in
          let h = (line_wrote size_form l s u q).1 in
          rw (← er, ← et)
          (record {
            third = printable-at size_form l h 2 (omega arith);
            fourth = printable-at size_form l h 3 (omega arith);
            third_back = number-back size_form l h 2 (omega arith);
            fourth_back = number-back size_form l h 3 (omega arith);
            line = rw q;
          })
