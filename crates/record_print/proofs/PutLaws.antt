-- Writing a text where there is room, and a text that is made apart first.
use Prim.Native.Nat.{ℕ, ◌+◌, ◌≤◌, ◌<◌}
use mathlib.Core.Path.{◌≡◌, refl, sym, ◌∙◌, ap, subst}
use mathlib.Core.Bool.{Bool, true, false}
use mathlib.Core.List.{List, [], ◌∷◌, ◌++◌}
use native.Mathlib.Omega.{arith}
use lib.IntN.{ℤ, pos, negsuc, nat_abs}
use lib.ListN.{length, take, drop}
use lib.Seq.{sets-eq, take_at}
use lib.Dec.{leb}
use borrow.Author.Tests.{le-leb, lt-ltb}
use Rattle.record_print.specs.declared.cursor.Cursor.{Cursor}
use Rattle.record_text.specs.declared.fields.SizeFields.{SizeFields}
use Rattle.record.specs.declared.Record.{Record}
use Rattle.record_text.specs.Numeral.{numeral_end}
use Rattle.record_text.specs.Codec.{FieldPrintable}
use Rattle.record_text.specs.Line.{size_form, size_numbers, record_form, record_numbers}
use Rattle.record_text.specs.Printable.{LinePrintable, SizePrintable, RecordPrintable}
use Rattle.record_print.specs.Put.{Put, Written, Made, printed_if, line_printable, size_printable, record_printable}
use Rattle.record_print.proofs.WriteSteps.{written-length}

-- where there is room, all of a text is written
pub put-room :
    (old new text : List ℕ) (from next : Cursor) → from.at + length text ≤ length old → Written old new from.at text next.at → Put old new from text next
put-room old new text from next h w =
    let e = le-leb (from.at + length text) (length old) h in
    record { lent = rw e w.lent; place = rw e w.place }

-- and back, for whoever knows that there is room
pub put_written :
    {old new text : List ℕ} {from next : Cursor} → from.at + length text ≤ length old → Put old new from text next → Written old new from.at text next.at
put_written {old} {new} {text} {from} {next} h w =
    let e = le-leb (from.at + length text) (length old) h in
    record { lent = w.lent ∙ rw e; place = w.place ∙ rw e }

-- the same of a line whose values can be printed
pub printed-written :
    {b : Bool} {old new text : List ℕ} {from next : Cursor} → b ≡ true → from.at + length text ≤ length old → Put old new from (printed_if b text) next
    → Written old new from.at text next.at
printed-written {b} {old} {new} {text} {from} {next} e h w =
    put_written h (subst (λ (x : Bool). Put old new from (printed_if x text) next) e w)

-- what is written from the start, and past it the old content
pub written-whole : {old new text : List ℕ} {next : ℕ} → length text ≤ length old → Written old new 0 text next → new ≡ text ++ drop next old
written-whole {old} {new} {text} {next} h w =
    let e : 0 + length text ≡ next = sym w.place in
    w.lent ∙ sets-eq text old 0 (omega arith) ∙ ap (λ (k : ℕ). text ++ drop k old) e

-- a text of values that can be printed is put as it is
pub put-printable :
    {b : Bool} {old new text : List ℕ} {from next : Cursor} → b ≡ true → Put old new from text next → Put old new from (printed_if b text) next
put-printable e w = rw e w

-- and nothing is put where there is no room for it
pub put-none :
    {b : Bool} {old : List ℕ} {from : Cursor} (text : List ℕ) (n : ℕ) → b ≡ true → n ≡ length text → leb (from.at + n) (length old) ≡ false
    → Put old old from (printed_if b text) from
put-none {old = old} {from} text n e q h =
    let none : leb (from.at + length text) (length old) ≡ false = ap (λ (k : ℕ). leb (from.at + k) (length old)) (sym q) ∙ h in
    put-printable e (record { lent = rw none refl; place = rw none refl })

-- ---- a text made from the start of bytes of its own, and then put

pub written-made : {old new text : List ℕ} {len : ℕ} → length text ≤ length old → Written old new 0 text len → Made new text len
written-made {old} {new} {text} {len} h w = record {
  inside = omega (arith, w.place, written-length w);
  is = ap (take len) (w.lent ∙ sets-eq text old 0 (omega arith)) ∙ take_at text (drop (0 + length text) old) len (omega (arith, w.place));
}

-- ---- which lines can be printed

-- a line whose form is right can
pub line-printed : (form : List Bool) (l : List ℤ) → LinePrintable form l → line_printable l ≡ true
line-printed [] [] h = refl
line-printed [] (z ∷ l) h = absurd h
line-printed (m ∷ form) [] h = absurd h
line-printed (m ∷ form) (z ∷ l) h = rw (lt-ltb (nat_abs z) numeral_end (small m z h.0)) (line-printed form l h.1)
  where
    small : (m : Bool) (z : ℤ) → FieldPrintable m z → nat_abs z < numeral_end
    small true z h = h
    small false (pos n) h = h
    small false (negsuc n) h = absurd h

pub size-printed : (h : SizeFields) → SizePrintable h → size_printable h ≡ true
unfolding size_printable
size-printed h p = line-printed size_form (size_numbers h) p

pub record-printed : (r : Record) → RecordPrintable r → record_printable r ≡ true
unfolding record_printable
record-printed r p = line-printed record_form (record_numbers r) p
