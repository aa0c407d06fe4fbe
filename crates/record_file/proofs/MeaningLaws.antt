-- What is checked of each value and record, line by line and all together, and that sound ones can be printed.
use Prim.Native.Nat.{ℕ, zero, suc, ◌≤◌, ◌<◌}
use mathlib.Core.Path.{◌≡◌, refl}
use mathlib.Core.Bool.{Bool, true, ◌&&◌}
use mathlib.Core.List.{List, [], ◌∷◌}
use mathlib.Core.Logic.{inl, inr, ⊎_elim}
use native.Mathlib.Omega.{arith}
use borrow.Author.Tests.{leb-true, ltb-true}
use lib.Dec.{leb, ltb}
use lib.IntN.{nat_abs}
use lib.ListN.{length, get_or}
use Rattle.arith.proofs.Bools.{both_of}
use Rattle.arith.proofs.CheckLaws.{holds}
use Rattle.depth_table.specs.Table.{bytes, rising}
use Rattle.depth_table.specs.Offset.{offset_ok}
use Rattle.record.specs.declared.Record.{Record}
use Rattle.record.specs.Meaning.{record_refusal}
use Rattle.record.proofs.MeaningLaws.{record-sound, sound-record}
use Rattle.record_text.specs.Codec.{NumberPrintable}
use Rattle.record_text.specs.Printable.{RecordPrintable}
use Rattle.record_text.specs.Lines.{Each}
use Rattle.record_file.specs.Writing.{Small}
use Rattle.record_file.specs.Reading.{Aids, value_meaning, low_after, record_line_meaning}

-- ---- table values

-- a value, and a record, that can be printed, and whose line is not refused
abbrev pub SoundValue : ℕ → ℕ → Type 0
SoundValue low v = NumberPrintable v × (value_meaning low v ≡ 0)

abbrev pub SoundRecord : ℕ → Aids → ℕ → Unit {0} → Record → Type 0
SoundRecord n A values c r = RecordPrintable r × (record_line_meaning n A values c r ≡ 0)

-- values that are bytes and rise are sound line by line
pub values-sound : (t : List ℕ) (low : ℕ) → bytes t ≡ true → rising low t ≡ true → Each SoundValue low_after low t
unfolding bytes rising value_meaning
values-sound [] low b r = tt
values-sound (a ∷ t) low b r =
    let p = both_of (ltb a 256) (bytes t) b in
    let q = both_of (leb low a) (rising (suc a) t) r in
    ((omega (arith, ltb-true a 256 p.0), rw (p.0, q.0)), values-sound t (suc a) p.1 q.1)

-- and back
pub sound-values : (t : List ℕ) (low : ℕ) → Each SoundValue low_after low t → (bytes t ≡ true) × (rising low t ≡ true)
unfolding bytes rising value_meaning
sound-values [] low h = (refl, refl)
sound-values (a ∷ t) low h =
    let p = holds ((ltb a 256 && leb low a, 3) ∷ []) 0 h.0.1 in
    let q = both_of (ltb a 256) (leb low a) p.0.0 in
    let r = sound-values t (suc a) h.1 in
    (rw q.0 r.0, rw q.1 r.1)

-- ---- records

-- what is asked of each value of a list, whatever stands before it
module _ {A : Type 0} (P : A → Type 0) (step : Unit {0} → A → Unit {0}) (d : A) where
  pub each-made : (l : List A) → ((i : ℕ) → i < length l → P (get_or l i d)) → Each (λ (c : Unit {0}) a. P a) step tt l
  each-made [] h = tt
  each-made (a ∷ l) h = (h 0 (omega arith), each-made l (λ i k. h (suc i) (omega arith)))

  pub each_at : (l : List A) → Each (λ (c : Unit {0}) a. P a) step tt l → (i : ℕ) → i < length l → P (get_or l i d)
  each_at [] h i k = absurd (omega arith)
  each_at (a ∷ l) h zero k = h.0
  each_at (a ∷ l) h (suc i) k = each_at l h.1 i (omega arith)

module _ (n : ℕ) (list : List ℕ) (count : ℕ) (lent : Bool) (values : ℕ) (r : Record) where
  -- how far the numbers of a record that is not refused go
  pub record-small : count ≤ 9999 → record_refusal n list count lent values r ≡ 0 → Small r
  unfolding offset_ok
  record-small few h =
      let s = record-sound n list count lent values r h in
      let k : (r.kind ≤ 1) × (r.entry ≤ 9998) =
      ⊎_elim (λ w. (omega (arith, w.0), omega (arith, w.1, few))) (λ w. (omega (arith, w.0), omega (arith, w.1))) s.names in
      let o = both_of (offset_ok r.off0) (offset_ok r.off1) s.allowed in
      record {
        kind = k.0;
        entry = k.1;
        off0 = leb-true (nat_abs r.off0) 255 o.0;
        off1 = leb-true (nat_abs r.off1) 255 o.1;
      }

  -- a record that is sound in reading is sound in writing, which asks for no texture
  pub written-sound : record_refusal n list count lent values r ≡ 0 → record_refusal n list count true values r ≡ 0
  written-sound h =
      let s = record-sound n list count lent values r h in
      sound-record n list count true values r
      (record { names = ⊎_elim (λ w. inl w) (λ w. inr (w.0, w.1, refl)) s.names; allowed = s.allowed; usable = s.usable })

  -- and back, where texture is lent if the kind is 1
  pub read-sound : (r.kind ≡ 1 → lent ≡ true) → record_refusal n list count true values r ≡ 0 → record_refusal n list count lent values r ≡ 0
  read-sound t h =
      let s = record-sound n list count true values r h in
      sound-record n list count lent values r
      (record { names = ⊎_elim (λ w. inl w) (λ w. inr (w.0, w.1, t w.0)) s.names; allowed = s.allowed; usable = s.usable })

pub small-printable : (r : Record) → Small r → RecordPrintable r
small-printable r s = (omega (arith, s.kind), (omega (arith, s.entry), (omega (arith, s.off0), (omega (arith, s.off1), tt))))
