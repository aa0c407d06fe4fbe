-- Laws that no proof cites: docs/PORT.md or docs/DESIGN-PASS.md names them.
use Prim.Native.Nat.{ℕ, suc, ◌+◌, ◌≤◌, ◌<◌}
use mathlib.Core.Path.{◌≡◌, refl, sym, ◌∙◌, ap, subst}
use mathlib.Core.Bool.{Bool, true, false, cond}
use mathlib.Core.List.{List, [], ◌∷◌, ◌++◌}
use native.Mathlib.Omega.{arith}
use native.Mathlib.Numerals.{add-one}
use lib.Dec.{eqb}
use lib.IntN.{ℤ, pos, negsuc, nat_abs}
use lib.ListN.{length, get_or, drop, set, length-append, drop_of_length-le}
use lib.Seq.{sets, drop-cons}
use Rattle.record_print.specs.declared.cursor.Cursor.{Cursor}
use Rattle.record_text.specs.Numeral.{signed_numeral, numeral_end}
use Rattle.std.specs.Fmt.{signed_decimal}
use Rattle.record_text.specs.Field.{signed_text}
use Rattle.record_text.specs.Line.{end_byte, line_text, number_at}
use Rattle.record_text.proofs.LineSteps.{end-at}
use Rattle.record_text.proofs.ReadSteps.{at_place}
use Rattle.record_print.specs.Put.{Put, Written, Made, printed_if, line_printable}
use Rattle.record_print.proofs.WriteSteps.{written-length, sets-append}
use lib.IntN.{negsuc}
use lib.Dec.{ltb}
use lib.Signed.{lt_z}
use borrow.Author.Tests.{le-ltb, ltb-false}
use Rattle.arith.proofs.Bools.{clash}
use Rattle.record_print.proofs.PutLaws.{written-made, put-printable}
use Rattle.record_print.proofs.DecimalLaws.{numeral_decimal}

-- whether the magnitude is below `numeral_end`, by two comparisons
pub within_low : (z : ℤ) → lt_z (negsuc 99999) z ≡ false → false ≡ ltb (nat_abs z) numeral_end
within_low (pos n) e = clash e
within_low (negsuc n) e = sym (le-ltb (suc n) numeral_end (omega (arith, ltb-false n 99999 e)))

-- ---- a text copied byte by byte: i of them are

pub copy_step :
    (l text : List ℕ) (at i v : ℕ) → i < length text → v ≡ get_or text i 0
    → sets (set l (at + i) v) (at + (i + 1)) (drop (i + 1) text) ≡ sets l (at + i) (drop i text)
copy_step l text at i v h e =
    let z : at + (i + 1) ≡ suc (at + i) = omega arith in
    rw (e, z, at_place text i h)

-- no text is made of a line with a number that has no numeral
pub none_made : (line text : List ℕ) (b : Bool) → b ≡ false → Made line (printed_if b text) 0
none_made line text b e = rw e (record { inside = omega arith; is = refl })

-- and all of one whose numbers have
pub all_made : {bytes text : List ℕ} {len : ℕ} (b : Bool) → b ≡ true → Made bytes text len → Made bytes (printed_if b text) len
all_made b e m = rw e m

-- the same numbers, named otherwise
pub line_as :
    (l m : List ℤ) {old new : List ℕ} {from next : Cursor} → Put old new from (printed_if (line_printable l) (line_text l)) next → l ≡ m
    → Put old new from (printed_if (line_printable m) (line_text m)) next
line_as l m {old} {new} {from} {next} w e = subst (λ (x : List ℤ). Put old new from (printed_if (line_printable x) (line_text x)) next) e w

-- ---- a line written number by number: those from place k on are left

-- the numbers that are left, written to the bytes as they are, give what the whole line gives
pub record Left (numbers : List ℤ) (old : List ℕ) (k : ℕ) (line : List ℕ) (p : ℕ) : Type 0 where
  pub lent : sets line p (line_text (drop k numbers)) ≡ sets old 0 (line_text numbers)
  pub place : p + length (line_text (drop k numbers)) ≡ length (line_text numbers)
  pub room : length line ≡ length old

module _ (numbers : List ℤ) (old : List ℕ) (k : ℕ) (line : List ℕ) (p : ℕ) (left : Left numbers old k line p) where
  module _ (h : k < length numbers) where
    abbrev here : List ℕ
    here = signed_text (end_byte (eqb (k + 1) (length numbers))) (number_at numbers k)

    here-left : line_text (drop k numbers) ≡ here ++ line_text (drop (suc k) numbers)
    here-left = rw (drop-cons numbers k (pos 0) h, end-at numbers k h)

    -- there is room for the next one, and then it is written
    pub left-room : length (line_text numbers) ≤ length old → p + length here ≤ length line
    left-room r = omega (arith, left.place, left.room, ap length here-left, length-append here (line_text (drop (suc k) numbers)))

    pub left-more : {line' : List ℕ} {q : ℕ} → Written line line' p here q → Left numbers old (k + 1) line' q
    left-more {line'} {q} w =
        rw (add-one k)
        (record {
          lent = rw (w.lent, w.place, ← sets-append here (line_text (drop (suc k) numbers)) line p, ← here-left) left.lent;
          place = omega (arith, left.place, w.place, ap length here-left, length-append here (line_text (drop (suc k) numbers)));
          room = written-length w ∙ left.room;
        })

  -- all are written
  left-none : length numbers ≤ k → Written old line 0 (line_text numbers) p
  left-none h =
      let e = ap line_text (drop_of_length-le numbers h) in
      record { lent = ap (sets line p) (sym e) ∙ left.lent; place = omega (arith, left.place, ap length e) }

  pub line_made :
      length numbers ≤ k → length (line_text numbers) ≤ length old → line_printable (drop k numbers) ≡ line_printable numbers
      → Made line (printed_if (line_printable numbers) (line_text numbers)) p
  line_made h r e =
      all_made (line_printable numbers) (sym e ∙ ap line_printable (drop_of_length-le numbers h)) (written-made r (left-none h))

-- one byte written
pub written_byte : (l : List ℕ) (p b : ℕ) → Written l (set l p b) p (b ∷ []) (p + 1)
written_byte l p b = record { lent = refl; place = refl }

-- a choice between one value and itself
cond_same : {A : Type 0} (b : Bool) (x : A) → x ≡ cond b x x
cond_same true x = refl
cond_same false x = refl

-- a text of values that can be printed is put as it was made
pub put-made :
    {b : Bool} {old new made text : List ℕ} {from next : Cursor} → b ≡ true → made ≡ text → Put old new from made next
    → Put old new from (printed_if b text) next
put-made {old = old} {new} {made} {text} {from} {next} e q w = put-printable e (subst (λ (x : List ℕ). Put old new from x next) q w)

-- the decimal text of a signed number that has a numeral is the numeral behind its sign
pub signed_numeral_decimal : (z : ℤ) → nat_abs z < numeral_end → signed_decimal z ≡ signed_numeral z
unfolding signed_numeral
signed_numeral_decimal (pos n) h = numeral_decimal n h
signed_numeral_decimal (negsuc n) h = ap (λ (s : List ℕ). 45 ∷ s) (numeral_decimal (suc n) h)
