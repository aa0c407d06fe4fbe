-- The steps of reading as the code takes them.
use Prim.Native.Nat.{ℕ, zero, suc, ◌+◌, ◌-◌, ◌*◌, ◌^◌, ◌≤◌, ◌<◌}
use mathlib.Core.Path.{◌≡◌, refl, sym, ◌∙◌, ap}
use mathlib.Core.Bool.{Bool, true, false, cond, ◌&&◌}
use mathlib.Core.List.{List, [], ◌∷◌}
use native.Mathlib.Omega.{arith}
use native.Mathlib.Nat.{mul_assoc, pow-succ', mul-le-mul_right, mul-le-mul_left, le_trans, pow-le-pow_right}
use native.Mathlib.Numerals.{add-one}
use lib.ListN.{length, get_or, take, drop, length-drop, drop_of_length-le}
use lib.Seq.{drop-cons, take_all}
use lib.Dec.{ltb, eqb}
use Rattle.std.specs.Prelude.{Option, Some, None, IfSome}
use Rattle.std.specs.Borrow.{Bor}
use Rattle.std.specs.Cmp.Lexicographic.{pointwise}
use Rattle.arith.proofs.Bools.{both_of}
use borrow.Author.Tests.{ltb-true, eq-eqb, ne_eqb}
use Rattle.record_text.specs.Numeral.{numeral_end}
use Rattle.record_text.specs.Parsed.{Parsed, bad_form, found, and_then}
use Rattle.record_text.specs.Field.{digit_in, if_digit, more_digits, digit_room, number, after_minus, after_none, signed}
use Rattle.record_text.specs.Told.{parsed}
use Rattle.record_text.proofs.FieldLaws.{number-wrote}

-- what stands at p, and the rest
pub at_place : (s : List ℕ) (p : ℕ) → p < length s → drop p s ≡ get_or s p 0 ∷ drop (p + 1) s
at_place s p h = drop-cons s p 0 h ∙ ap (λ (n : ℕ). get_or s p 0 ∷ drop n s) (sym (add-one p))

-- ---- is a byte a digit?

module _ {A : Type 0} (b : ℕ) (x : Parsed A) where
  -- a byte that is none
  pub digit_none : (digit_in b < 10 → ⊥) → if_digit b x ≡ bad_form
  digit_none = go (ltb b 48) (ltb b 58) refl
    where
      go : (l u : Bool) → ltb b 58 ≡ u → (cond l 10 (cond u (b - 48) 10) < 10 → ⊥) → cond l bad_form (cond u x bad_form) ≡ bad_form
      go true u q h = refl
      go false true q h = absurd (h (omega (arith, ltb-true b 58 q)))
      go false false q h = refl

  -- and one that is
  pub digit_some : digit_in b < 10 → (if_digit b x ≡ x) × (b - 48 ≡ digit_in b)
  digit_some = go (ltb b 48) (ltb b 58)
    where
      go : (l u : Bool) → cond l 10 (cond u (b - 48) 10) < 10 → (cond l bad_form (cond u x bad_form) ≡ x) × (b - 48 ≡ cond l 10 (cond u (b - 48) 10))
      go true u h = absurd (omega arith)
      go false true h = (refl, refl)
      go false false h = absurd (omega arith)

-- ---- one byte of a run of digits

module _ (e a b : ℕ) (s : List ℕ) where
  -- the byte that ends them
  pub more-stop : (k : ℕ) → b ≡ e → more_digits e k a (b ∷ s) ≡ found a s
  unfolding more_digits
  more-stop zero h = rw (eq-eqb b e h)
  more-stop (suc k) h = rw (eq-eqb b e h)

  -- a byte more where no digit may follow
  pub more-full : (k : ℕ) → (b ≡ e → ⊥) → k ≡ 0 → more_digits e k a (b ∷ s) ≡ bad_form
  unfolding more_digits
  more-full zero h z = rw (ne_eqb b e h)
  more-full (suc k) h z = absurd (omega arith)

  -- a byte that is no digit
  pub more-none : (k : ℕ) → (b ≡ e → ⊥) → (digit_in b < 10 → ⊥) → more_digits e k a (b ∷ s) ≡ bad_form
  unfolding more_digits
  more-none zero h q = rw (ne_eqb b e h)
  more-none (suc k) h q = rw (ne_eqb b e h) (digit_none b _ q)

  -- a digit more
  pub more-next : (k : ℕ) → (b ≡ e → ⊥) → digit_in b < 10 → more_digits e (suc k) a (b ∷ s) ≡ more_digits e k (a * 10 + digit_in b) s
  unfolding more_digits
  more-next k h q =
      let w = digit_some b (more_digits e k (a * 10 + (b - 48)) s) q in
      rw (ne_eqb b e h) (w.0 ∙ ap (λ (d : ℕ). more_digits e k (a * 10 + d) s) w.1)

-- i of at most `most` digits are read: those that are left, and the byte e after them, give what the whole gives
pub record DigitsRead (e most first : ℕ) (s : List ℕ) (i value : ℕ) : Type 0 where
  pub few : i ≤ most
  pub left : more_digits e (most - i) value (drop i s) ≡ more_digits e most first s
  pub small : (value + 1) * 10 ^ (most - i) ≤ numeral_end

module _ {e most first : ℕ} {s : List ℕ} {i value : ℕ} (now : DigitsRead e most first s i value) where
  -- the bytes end
  pub digits_end : length s ≤ i → bad_form ≡ more_digits e most first s
  unfolding more_digits
  digits_end h = rw (drop_of_length-le s h) at now.left

  -- the value stays below `numeral_end` where there is room for a digit more
  pub digits_small : (i ≡ most → ⊥) → value < 10000
  digits_small h =
      omega (arith, now.small, now.few, mul-le-mul_left (value + 1) (pow-le-pow_right {n = 10} (omega arith) {i = 1} {j = most - i} (omega (arith, now.few))))

  module _ (h : i < length s) where
    -- what follows from the byte at i
    here : (r : Parsed ℕ) → more_digits e (most - i) value (get_or s i 0 ∷ drop (i + 1) s) ≡ r → r ≡ more_digits e most first s
    here r p = sym p ∙ ap (more_digits e (most - i) value) (sym (at_place s i h)) ∙ now.left

    -- it ends them
    pub digits_stop : get_or s i 0 ≡ e → found value (take (length s - (i + 1)) (drop (i + 1) s)) ≡ more_digits e most first s
    digits_stop q =
        here (found value (take (length s - (i + 1)) (drop (i + 1) s)))
        (more-stop e value (get_or s i 0) (drop (i + 1) s) (most - i) q
        ∙ ap (found value) (sym (take_all (length s - (i + 1)) (drop (i + 1) s) (omega (arith, length-drop (i + 1) s)))))

    -- no digit may follow
    pub digits_full : (get_or s i 0 ≡ e → ⊥) → i ≡ most → bad_form ≡ more_digits e most first s
    digits_full q z = here bad_form (more-full e value (get_or s i 0) (drop (i + 1) s) (most - i) q (omega arith))

    -- it is no digit
    pub digits_none : (get_or s i 0 ≡ e → ⊥) → (digit_in (get_or s i 0) < 10 → ⊥) → bad_form ≡ more_digits e most first s
    digits_none q n = here bad_form (more-none e value (get_or s i 0) (drop (i + 1) s) (most - i) q n)

    -- it is a digit more
    pub digits_more :
        (d : ℕ) → (get_or s i 0 ≡ e → ⊥) → (i ≡ most → ⊥) → digit_in (get_or s i 0) < 10 → d ≡ digit_in (get_or s i 0)
        → DigitsRead e most first s (i + 1) (value * 10 + d)
    digits_more d q z h r =
        let few = now.few in
        let small = now.small in
        let k : most - i ≡ suc (most - (i + 1)) = omega arith in
        let v : value * 10 + d + 1 ≤ (value + 1) * 10 = omega arith in
        record {
          few = omega arith;
          left =
              here (more_digits e (most - (i + 1)) (value * 10 + d) (drop (i + 1) s))
              (rw (k, r) (more-next e value (get_or s i 0) (drop (i + 1) s) (most - (i + 1)) q h));
          small = le_trans (mul-le-mul_right (10 ^ (most - (i + 1))) v) (rw (mul_assoc (value + 1) 10 (10 ^ (most - (i + 1))), ← pow-succ' 10 (most - (i + 1)), ← k) small);
        }

-- what each step of reading digits says
pub ruleset digit_steps = (digits_end, digits_small, digits_stop, digits_full, digits_none)

-- ---- the first byte of a numeral

-- there is none
pub number_nil : (e : ℕ) (s : List ℕ) → length s ≡ 0 → bad_form ≡ number e s
unfolding number
number_nil e [] h = refl
number_nil e (b ∷ s) h = absurd (omega arith)

-- it is no digit
pub number_none : (e b : ℕ) (s t : List ℕ) → s ≡ b ∷ t → (digit_in b < 10 → ⊥) → bad_form ≡ number e s
unfolding number
number_none e b s t h q = rw h (sym (digit_none b _ q))

-- it is a digit
pub number_digit : (e b : ℕ) (s t : List ℕ) → s ≡ b ∷ t → digit_in b < 10 → more_digits e (digit_room (digit_in b)) (digit_in b) t ≡ number e s
unfolding number
number_digit e b s t h q =
    let w = digit_some b (more_digits e (digit_room (b - 48)) (b - 48) t) q in
    rw (h, ← w.1) (sym w.0)

-- a number that was read has a numeral
pub number_small : (e : ℕ) (s : List ℕ) (r : Option (ℕ × Bor (List ℕ))) → parsed r ≡ number e s → IfSome r (λ p. p.0 < numeral_end)
number_small e s (Some p) h = (number-wrote e p.0 s p.1.now (sym h)).1
number_small e s None h = tt

-- what each step of reading a numeral says
pub ruleset number_steps = (number_nil, number_digit)

-- ---- a signed number

-- the text starts with a minus
pub signed_minus : (e : ℕ) (s t : List ℕ) → pointwise eqb (take 1 s) (45 ∷ []) ≡ true → t ≡ drop 1 s → and_then (number e t) after_minus ≡ signed true e s
unfolding signed
signed_minus e [] t h q = cc
signed_minus e (b ∷ s) t h q = rw (q, (both_of (eqb b 45) true h).0)

-- it does not
pub signed_plain : (e : ℕ) (s : List ℕ) → pointwise eqb (take 1 s) (45 ∷ []) ≡ false → and_then (number e s) after_none ≡ signed true e s
unfolding signed number
signed_plain e [] h = refl
signed_plain e (b ∷ s) h = go (eqb b 45) h
  where
    go : (x : Bool) → x && true ≡ false → and_then (number e (b ∷ s)) after_none ≡ cond x (and_then (number e s) after_minus) (and_then (number e (b ∷ s)) after_none)
    go true h = cc
    go false h = refl

-- a field in which no minus may stand
pub signed_false : (e : ℕ) (s : List ℕ) → signed false e s ≡ and_then (number e s) after_none
unfolding signed number
signed_false e [] = refl
signed_false e (b ∷ s) = refl
