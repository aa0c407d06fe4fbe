-- A line of four numbers, its fields written from the last to the first.
use Prim.Native.Nat.{ℕ, zero, suc, ◌+◌, ◌-◌, ◌≤◌, ◌<◌}
use mathlib.Core.Path.{◌≡◌, refl, sym, ◌∙◌, ap, subst}
use mathlib.Core.Bool.{true}
use mathlib.Core.List.{List, [], ◌∷◌, ◌++◌, append_assoc}
use native.Mathlib.Numerals.{add-one}
use native.Mathlib.Omega.{arith}
use lib.Dec.{eqb}
use lib.IntN.{ℤ, pos, negsuc, nat_abs}
use lib.ListN.{length, length-append, get_or, take, drop, drop_of_length-le}
use lib.Seq.{drop-cons, take-take}
use borrow.Author.Tests.{ltb-true, lt-ltb}
use mir.Syntax.{w64}
use mir.Val.{SFits, to_z, of_z}
use mir.ValLaws.{to_z-of_z}
use Rattle.std.specs.List.{list_all}
use Rattle.arith.proofs.Bools.{both_of}
use Rattle.record_text.specs.Numeral.{numeral_end}
use Rattle.record_text.specs.Field.{number_text, signed_text}
use Rattle.record_text.specs.Line.{end_byte, end_of, line_text}
use Rattle.record_text.proofs.LineSteps.{end-at}
use Rattle.record_print.specs.Put.{Written, signed_printable}
use Rattle.record_print.proofs.DecimalLaws.{plain_field}
use Rattle.record_print.proofs.WriteSteps.{written_there, written_as}

-- a number that has a numeral stands for itself in a word of the machine
pub word_back : (z : ℤ) → signed_printable z ≡ true → to_z w64 (of_z w64 z) ≡ z
word_back z h = to_z-of_z w64 z (fits z (ltb-true (nat_abs z) numeral_end h))
  where
    fits : (z : ℤ) → nat_abs z < numeral_end → SFits w64 z
    fits (pos n) h = record { sfits = omega arith }
    fits (negsuc n) h = record { sfits = omega arith }

-- number k of a line, as the code holds it
abbrev pub word : List ℤ → ℕ → ℤ
word l k = to_z w64 (of_z w64 (get_or l k (pos 0)))

-- each number of a line that can be printed has a numeral
printable_at : (l : List ℤ) (k : ℕ) → list_all signed_printable l ≡ true → signed_printable (get_or l k (pos 0)) ≡ true
printable_at [] k h = refl
printable_at (z ∷ l) zero h = (both_of (signed_printable z) (list_all signed_printable l) h).0
printable_at (z ∷ l) (suc k) h = printable_at l k (both_of (signed_printable z) (list_all signed_printable l) h).1

-- the last of four has the number 3
last_of_four : (k : ℕ) → k < 4 → eqb (k + 1) 4 ≡ eqb k 3
last_of_four zero h = refl
last_of_four (suc zero) h = refl
last_of_four (suc (suc zero)) h = refl
last_of_four (suc (suc (suc zero))) h = refl
last_of_four (suc (suc (suc (suc k)))) h = absurd (omega (arith, h))

-- the fields from one on are no longer than all
line-part : (k : ℕ) (l : List ℤ) → length (line_text (drop k l)) ≤ length (line_text l)
line-part zero l = omega arith
line-part (suc k) [] = omega arith
line-part (suc k) (z ∷ l) = omega (arith, line-part k l, length-append (signed_text (end_of l) z) (line_text l))

module _ (l : List ℤ) (four : length l ≡ 4) (printable : list_all signed_printable l ≡ true) where
  -- field k, and those after it
  line-here : (k b : ℕ) → k < 4 → b ≡ end_byte (eqb k 3) → line_text (drop k l) ≡ signed_text b (word l k) ++ line_text (drop (suc k) l)
  line-here k b h e =
      let i : k < length l = omega (arith, four, h) in
      let p = word_back (get_or l k (pos 0)) (printable_at l k printable) in
      let last : eqb (k + 1) (length l) ≡ eqb k 3 = ap (eqb (k + 1)) four ∙ last_of_four k h in
      rw (drop-cons l k (pos 0) i, end-at l k i, last, e, p)

  field-length : (k : ℕ) {n : ℕ} → k < 4 → ((e : ℕ) → n ≡ length (signed_text e (word l k))) → length (line_text (drop k l)) ≡ n + length (line_text (drop (suc k) l))
  field-length k h q =
      let b = end_byte (eqb k 3) in
      omega (arith, ap length (line-here k b h refl), q b, length-append (signed_text b (word l k)) (line_text (drop (suc k) l)))

  -- past the last there is none
  no-field : length (line_text (drop 4 l)) ≡ 0
  no-field = ap (λ (m : List ℤ). length (line_text m)) (drop_of_length-le l {i = 4} (omega (arith, four)))

  -- how long four fields are together
  pub line-length :
      {n₀ n₁ n₂ n₃ : ℕ} → ((e : ℕ) → n₀ ≡ length (signed_text e (word l 0))) → ((e : ℕ) → n₁ ≡ length (signed_text e (word l 1)))
      → ((e : ℕ) → n₂ ≡ length (signed_text e (word l 2))) → ((e : ℕ) → n₃ ≡ length (signed_text e (word l 3)))
      → n₀ + n₁ + n₂ + n₃ ≡ length (line_text l)
  line-length q₀ q₁ q₂ q₃ =
      omega (
        arith,
        field-length 0 (omega arith) q₀,
        field-length 1 (omega arith) q₁,
        field-length 2 (omega arith) q₂,
        field-length 3 (omega arith) q₃,
        no-field,
      )

-- the fields of a line from number k on are written before the place `end`, and nothing else is changed
pub record Ended (old : List ℕ) (end : ℕ) (l : List ℤ) (k : ℕ) (out : List ℕ) (at : ℕ) : Type 0 where
  pub text : drop at out ≡ line_text (drop k l) ++ drop end old
  pub before : take at out ≡ take at old
  pub place : at + length (line_text (drop k l)) ≡ end
  pub room : length out ≡ length old

-- there is one before number i
pub ended-before :
    {old : List ℕ} {end : ℕ} {l : List ℤ} {out : List ℕ} {at : ℕ} (i : ℕ) → 0 < i → Ended old end l i out at → Ended old end l (i - 1 + 1) out at
ended-before {old} {end} {l} {out} {at} i some now =
    let e : i ≡ i - 1 + 1 = omega (arith, some) in
    subst (λ (k : ℕ). Ended old end l k out at) e now

module _
    (old : List ℕ) (end : ℕ) (l : List ℤ) (four : length l ≡ 4) (printable : list_all signed_printable l ≡ true) (k b : ℕ) (out : List ℕ) (at : ℕ)
    (now : Ended old end l (k + 1) out at) (here : k < 4) (ends : b ≡ end_byte (eqb k 3)) where
  field-here : line_text (drop k l) ≡ signed_text b (word l k) ++ line_text (drop (suc k) l)
  field-here = line-here l four printable k b here ends

  after : line_text (drop (k + 1) l) ≡ line_text (drop (suc k) l)
  after = ap (λ (j : ℕ). line_text (drop j l)) (add-one k)

  -- the one before has a numeral and room
  pub ended-room :
      length (line_text l) ≤ end → end ≤ length old → (nat_abs (word l k) < numeral_end) × (length (signed_text b (word l k)) ≤ at) × (at ≤ length out)
  ended-room enough inside =
      let p = printable_at l k printable in (
        rw (word_back (get_or l k (pos 0)) p) (ltb-true (nat_abs (get_or l k (pos 0))) numeral_end p),
        omega (
          arith,
          enough,
          now.place,
          ap length field-here,
          ap length after,
          line-part k l,
          length-append (signed_text b (word l k)) (line_text (drop (suc k) l)),
        ),
        omega (arith, now.place, now.room, inside),
      )

  -- and then it is written
  pub ended-more :
      (out' : List ℕ) (at' : ℕ) → length out' ≡ length out → at' + length (signed_text b (word l k)) ≡ at
      → drop at' out' ≡ signed_text b (word l k) ++ drop at out → take at' out' ≡ take at' out → Ended old end l k out' at'
  ended-more out' at' same start w kept =
      let s = signed_text b (word l k) in
      let less : at' ≤ at = omega (arith, start) in
      record {
        text =
            w
            ∙ ap (λ (t : List ℕ). s ++ t) (now.text ∙ ap (λ (t : List ℕ). t ++ drop end old) after)
            ∙ sym (append_assoc s (line_text (drop (suc k) l)) (drop end old))
            ∙ ap (λ (t : List ℕ). t ++ drop end old) (sym field-here);
        before = kept ∙ sym (take-take at' at out less) ∙ ap (take at') now.before ∙ take-take at' at old less;
        place = omega (arith, start, now.place, ap length field-here, ap length after, length-append s (line_text (drop (suc k) l)));
        room = same ∙ now.room;
      }

-- all are
pub ended-all :
    (old : List ℕ) (from end : ℕ) (l : List ℤ) (i : ℕ) (out : List ℕ) (at : ℕ) → i ≤ 0 → from + length (line_text l) ≡ end → end ≤ length old
    → Ended old end l i out at → Written old out from (line_text l) end
ended-all old from end l (suc i) out at none e h now = absurd (omega (arith, none))
ended-all old from end l zero out at none e h now =
    let start : at ≡ from = omega (arith, e, now.place) in
    subst (λ (k : ℕ). Written old out k (line_text l) end) start (written_there old out (line_text l) at end now.before now.text now.place h)

-- ---- a number of its own

module _ (x : ℕ) {z : ℤ} (small : x < numeral_end) (same : z ≡ pos x) where
  -- in a word of the machine it is itself
  number_back : to_z w64 (of_z w64 z) ≡ pos x
  number_back = ap (λ (y : ℤ). to_z w64 (of_z w64 y)) same ∙ word_back (pos x) (lt-ltb x numeral_end small)

  -- its field has no sign
  pub number_field : (e : ℕ) → signed_text e (to_z w64 (of_z w64 z)) ≡ number_text e x
  number_field e = ap (signed_text e) number_back ∙ plain_field e x

  -- how long it is
  pub number_long : (e : ℕ) {n : ℕ} → n ≡ length (signed_text e (to_z w64 (of_z w64 z))) → n ≡ length (number_text e x)
  number_long e q = q ∙ ap length (number_field e)

  -- it is written before its end
  pub number_placed :
      (e from n at : ℕ) (old out : List ℕ) → n ≡ length (signed_text e (to_z w64 (of_z w64 z))) → from + n ≤ length old
      → at + length (signed_text e (to_z w64 (of_z w64 z))) ≡ from + n → drop at out ≡ signed_text e (to_z w64 (of_z w64 z)) ++ drop (from + n) old
      → take at out ≡ take at old → Written old out from (number_text e x) (from + n)
  number_placed e from n at old out q room start here before =
      let place : at ≡ from = omega (arith, q, start) in
      let there = written_there old out (signed_text e (to_z w64 (of_z w64 z))) at (from + n) before here start room in
      subst (λ (k : ℕ). Written old out k (number_text e x) (from + n)) place (written_as there (number_field e))
