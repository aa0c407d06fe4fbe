-- Laws that no proof cites: docs/PORT.md names them.
use Prim.Native.Nat.{ℕ, zero, suc, ◌+◌, ◌-◌, ◌*◌, ◌^◌, ◌≤◌, ◌<◌}
use mathlib.Core.Path.{◌≡◌, refl, sym, ap, ◌∙◌}
use mathlib.Core.Bool.{Bool, true, false, ◌&&◌}
use mathlib.Core.List.{List}
use native.Mathlib.Omega.{arith}
use native.Mathlib.Nat.{mul_assoc, pow-succ', mul-le-mul_right, le_trans}
use lib.ListN.{length, get_or, drop}
use lib.IntN.{ℤ, pos, negsuc}
use lib.Signed.{mag}
use mir.Syntax.{w32}
use mir.Val.{to_z, of_z}
use lib.Dec.{eqb}
use Rattle.record_text.proofs.SignLaws.{word_back}
use Rattle.record_text.proofs.ReadSteps.{at_place}
use Rattle.record_text.specs.Numeral.{numeral_end}
use Rattle.record_text.specs.Parsed.{bad_form, found, and_then}
use Rattle.record_text.specs.Field.{digit_room, number, after_minus, after_none, signed}

-- one digit more
pub value_grows : (v l d : ℕ) → (l ≡ 0 → ⊥) → d < 10 → (v + 1) * 10 ^ l ≤ numeral_end → (v * 10 + d + 1) * 10 ^ (l - 1) ≤ numeral_end
value_grows v zero d z hd h = absurd (z refl)
value_grows v (suc l) d z hd h =
    let e : suc l - 1 ≡ l = omega arith in
    rw e
    (le_trans (mul-le-mul_right (10 ^ l) (let q : v * 10 + d + 1 ≤ (v + 1) * 10 = omega arith in q)) (rw (mul_assoc (v + 1) 10 (10 ^ l), ← pow-succ' 10 l) h))

-- the first digit leaves room for those that may follow it
pub first_small : (d r : ℕ) → d ≤ 9 → r ≡ digit_room d → (d + 1) * 10 ^ r ≤ numeral_end
first_small zero r h w = rw w (omega arith)
first_small (suc d) r h w = rw w (omega arith)

-- a minus at a place, and a numeral of 0 or of another number after it
module _ (m : Bool) (e : ℕ) (s : List ℕ) (at : ℕ) (h : at < length s) (x : Bool) (test : x ≡ (m && eqb (get_or s at 0) 45)) where
  signed-minus : x ≡ true → signed m e (drop at s) ≡ and_then (number e (drop (at + 1) s)) after_minus
  unfolding signed
  signed-minus b = rw (at_place s at h, ← test, b)

  signed-none : x ≡ false → signed m e (drop at s) ≡ and_then (number e (drop at s)) after_none
  unfolding signed
  signed-none b = rw (at_place s at h, ← test, b)

  pub signed-negative :
      (v : ℕ) (u : List ℕ) (z : ℤ) → x ≡ true → number e (drop (at + 1) s) ≡ found v u → (v ≡ 0 → ⊥) → z ≡ negsuc (v - 1)
      → found z u ≡ signed m e (drop at s)
  signed-negative zero u z b n nz ez = absurd (nz refl)
  signed-negative (suc v) u z b n nz ez = rw (signed-minus b, n, ez) (ap (λ (k : ℕ). found (negsuc k) u) (omega arith))

  pub signed-minus-zero : (v : ℕ) (u : List ℕ) → x ≡ true → number e (drop (at + 1) s) ≡ found v u → v ≡ 0 → bad_form ≡ signed m e (drop at s)
  signed-minus-zero v u b n nz = rw (signed-minus b, n, nz)

  pub signed-minus-bad : x ≡ true → number e (drop (at + 1) s) ≡ bad_form → bad_form ≡ signed m e (drop at s)
  signed-minus-bad b n = rw (signed-minus b, n)

  pub signed-positive : (v : ℕ) (u : List ℕ) (z : ℤ) → x ≡ false → number e (drop at s) ≡ found v u → z ≡ pos v → found z u ≡ signed m e (drop at s)
  signed-positive v u z b n ez = rw (signed-none b, n, ez)

  pub signed-bad : x ≡ false → number e (drop at s) ≡ bad_form → bad_form ≡ signed m e (drop at s)
  signed-bad b n = rw (signed-none b, n)

pub signed_zero :
    (m : Bool) (e : ℕ) (s : List ℕ) (at : ℕ) {x : Bool} {v : ℕ} {u : List ℕ} → at < length s → x ≡ (m && eqb (get_or s at 0) 45) → x ≡ true
    → found v u ≡ number e (drop (at + 1) s) → v ≡ 0 → bad_form ≡ signed m e (drop at s)
signed_zero m e s at {x} {v} {u} h test b n z = signed-minus-zero m e s at h x test v u b (sym n) z

pub signed_below :
    (m : Bool) (e : ℕ) (s : List ℕ) (at : ℕ) {x : Bool} {v : ℕ} {u : List ℕ} {z : ℤ} → at < length s
    → x ≡ (m && eqb (get_or s at 0) 45) → x ≡ true → found v u ≡ number e (drop (at + 1) s) → (v ≡ 0 → ⊥)
    → z ≡ negsuc (v - 1) → mag z < 2 ^ 31 → found (to_z w32 (of_z w32 z)) u ≡ signed m e (drop at s)
signed_below m e s at {x} {v} {u} {z} h test b n nz q f =
    signed-negative m e s at h x test v u (to_z w32 (of_z w32 z)) b (sym n) nz (word_back z (record { sfits = f }) ∙ q)
