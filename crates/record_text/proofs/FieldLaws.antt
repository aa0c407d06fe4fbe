-- Both inverse laws of a field: a numeral or a signed numeral with the byte after it.
use Prim.Native.Nat.{ℕ, zero, suc, ◌+◌, ◌-◌, ◌*◌, ◌/◌, ◌%◌, ◌^◌, ◌≤◌, ◌<◌, zero-le}
use mathlib.Core.Path.{◌≡◌, refl, sym, ◌∙◌, ap}
use mathlib.Core.Bool.{Bool, true, false, cond}
use mathlib.Core.List.{List, [], ◌∷◌, ◌++◌, append_assoc}
use native.Mathlib.Omega.{arith}
use native.Mathlib.Nat.{pow-suc, suc-add, zero-add, mod-lt, div-add-mod', add-sub_cancel_left, pow-zero, zero-mul, suc-mul, eq-or-lt_of_le}
use mathlib.Core.Logic.{⊎_elim}
use lib.Dec.{ltb, eqb}
use lib.IntN.{ℤ, pos, negsuc}
use borrow.Author.Tests.{ltb-true, ltb-false, eqb-true, lt-ltb, le-ltb, eq-eqb, ne_eqb}
use Rattle.record_text.specs.Numeral.{digits_of, further_digits, numeral, signed_numeral, numeral_end}
use Rattle.record_text.specs.Parsed.{Parsed, bad_form, found, and_then}
use Rattle.record_text.specs.Field.{if_digit, more_digits, digit_room, number, after_minus, after_none, signed, number_text, signed_text}
use Rattle.record_text.specs.Codec.{Codec, NumberPrintable, FieldPrintable}
use Rattle.record_text.proofs.ParsedLaws.{cond-elim, bad-found}
use Rattle.record_text.proofs.NumeralLaws.{ten-pow, ten-mono, digit_lt, digits-below, digit-before, carry, further-le, further-high, further-low, further-is, further-none}

-- ---- what is printed is read

digit-yes : {A : Type 0} (q : ℕ) (x : Parsed A) → q < 10 → if_digit (48 + q) x ≡ x
digit-yes q x h = rw (le-ltb (48 + q) 48 (omega arith), lt-ltb (48 + q) 58 (omega arith))

-- a run of digits
run-reads : (e j k a n : ℕ) (t : List ℕ) → e < 48 → n < 10 ^ j → more_digits e (j + k) a (digits_of j n ++ t) ≡ more_digits e k (a * 10 ^ j + n) t
unfolding more_digits digits_of
run-reads e zero k a n t he h = rw (zero-add k) (ap (λ (x : ℕ). more_digits e k x t) (omega (arith, pow-zero 10)))
run-reads e (suc j) k a n t he h =
    rw (suc-add j k, ne_eqb (48 + n / 10 ^ j) e (omega (arith, digit_lt j n h)))
    (digit-yes (n / 10 ^ j) _ (digit_lt j n h)
    ∙ rw (add-sub_cancel_left 48)
    (run-reads e j k (a * 10 + n / 10 ^ j) (n % 10 ^ j) t he (mod-lt n (ten-pow j))
    ∙ ap (λ (x : ℕ). more_digits e k x t) (carry a (n / 10 ^ j) (n % 10 ^ j) (10 ^ j) n (div-add-mod' n (10 ^ j)) ∙ ap (λ (x : ℕ). a * x + n) (sym (pow-suc 10 j)))))

-- and the byte that ends it
end_reads : (e k a : ℕ) (t : List ℕ) → more_digits e k a (e ∷ t) ≡ found a t
unfolding more_digits
end_reads e zero a t = rw (eq-eqb e e refl)
end_reads e (suc k) a t = rw (eq-eqb e e refl)

-- there is room for as many digits as a numeral has after its first
room-further : (n : ℕ) → further_digits 4 n ≤ digit_room (n / 10 ^ further_digits 4 n)
room-further n = go (n / 10 ^ further_digits 4 n) refl
  where
    small : n / 10 ^ further_digits 4 n ≡ 0 → n / 10 ^ further_digits 4 n * 10 ^ further_digits 4 n ≡ 0
    small e = rw (e, zero-mul (10 ^ further_digits 4 n))

    go : (q : ℕ) → n / 10 ^ further_digits 4 n ≡ q → further_digits 4 n ≤ digit_room q
    go zero e =
        ⊎_elim (λ q. omega (arith, q))
        (λ l. absurd (omega (arith, further-low 4 n l, mod-lt n (ten-pow (further_digits 4 n)), small e, div-add-mod' n (10 ^ further_digits 4 n))))
        (eq-or-lt_of_le (zero-le {n = further_digits 4 n}))
    go (suc q) e = further-le 4 n

-- a number's field
number-reads : (e n : ℕ) (t : List ℕ) → e < 48 → n < numeral_end → number e (numeral n ++ e ∷ t) ≡ found n t
unfolding number numeral digits_of
number-reads e n t he h =
    let m : ℕ = further_digits 4 n in
    let q : ℕ = n / 10 ^ m in
    let hq : q < 10 = digit_lt m n (further-high 4 n h) in
    digit-yes q _ hq
    ∙ rw (add-sub_cancel_left 48 q)
    (ap (λ (k : ℕ). more_digits e k q (digits_of m (n % 10 ^ m) ++ e ∷ t)) (room-is m (digit_room q) (room-further n))
    ∙ run-reads e m (digit_room q - m) q (n % 10 ^ m) (e ∷ t) he (mod-lt n (ten-pow m))
    ∙ end_reads e (digit_room q - m) (q * 10 ^ m + n % 10 ^ m) t
    ∙ ap (λ (x : ℕ). found x t) (div-add-mod' n (10 ^ m)))
  where
    room-is : (m r : ℕ) → m ≤ r → r ≡ m + (r - m)
    room-is m r l = omega arith

-- a signed number's field
signed_reads : (m : Bool) (e : ℕ) (z : ℤ) (t : List ℕ) → e < 48 → FieldPrintable m z → signed m e (signed_numeral z ++ e ∷ t) ≡ found z t
unfolding signed signed_numeral numeral digits_of
signed_reads true e (pos n) t he h =
    rw (ne_eqb (48 + n / 10 ^ further_digits 4 n) 45 (omega arith)) (ap (λ (g : Parsed ℕ). and_then g after_none) (number-reads e n t he h))
signed_reads true e (negsuc n) t he h = rw (number-reads e (suc n) t he h)
signed_reads false e (pos n) t he h = ap (λ (g : Parsed ℕ). and_then g after_none) (number-reads e n t he h)
signed_reads false e (negsuc n) t he h = absurd h

-- ---- what is read is what was printed

digit-found : {A : Type 0} (b : ℕ) (x : Parsed A) (v : A) (t : List ℕ) → if_digit b x ≡ found v t → (48 ≤ b) × (b < 58) × (x ≡ found v t)
digit-found b x v t =
    cond-elim (λ (y : Parsed _). y ≡ found v t → (48 ≤ b) × (b < 58) × (x ≡ found v t)) (ltb b 48) bad_form (cond (ltb b 58) x bad_form)
    (λ e p. bad-found p)
    (λ e. cond-elim (λ (y : Parsed _). y ≡ found v t → (48 ≤ b) × (b < 58) × (x ≡ found v t)) (ltb b 58) x bad_form
    (λ e2 p. (ltb-false b 48 e, ltb-true b 58 e2, p)) (λ e2 p. bad-found p))

-- the digits of n, j of them, stand between those of a and the byte e
record Run (e k a v : ℕ) (s t : List ℕ) : Type 0 where
  j : ℕ
  n : ℕ
  le : j ≤ k
  lt : n < 10 ^ j
  val : v ≡ a * 10 ^ j + n
  text : s ≡ digits_of j n ++ e ∷ t

run_end : (e k a v b : ℕ) (s t : List ℕ) → eqb b e ≡ true → found a s ≡ found v t → Run e k a v (b ∷ s) t
unfolding digits_of
run_end e k a v b s t eq p =
    record { j = 0; n = 0; le = omega arith; lt = omega (arith, pow-zero 10); val = (let av : a ≡ v = cc in omega arith); text = cc (eqb-true b e eq) }

run-wrote : (e k a v : ℕ) (s t : List ℕ) → more_digits e k a s ≡ found v t → Run e k a v s t
unfolding more_digits
run-wrote e k a v [] t = λ p. bad-found p
run-wrote e zero a v (b ∷ s) t =
    cond-elim (λ (y : Parsed ℕ). y ≡ found v t → Run e zero a v (b ∷ s) t) (eqb b e) (found a s) bad_form (λ eq p. run_end e zero a v b s t eq p) (λ eq p. bad-found p)
run-wrote e (suc k) a v (b ∷ s) t =
    cond-elim (λ (y : Parsed ℕ). y ≡ found v t → Run e (suc k) a v (b ∷ s) t) (eqb b e) (found a s) (if_digit b (more_digits e k (a * 10 + (b - 48)) s))
    (λ eq p. run_end e (suc k) a v b s t eq p)
    (λ eq p. let g = digit-found b _ v t p in step (b - 48) (omega (arith, g.0)) g.1 (run-wrote e k (a * 10 + (b - 48)) v s t g.2))
  where
    step : (d : ℕ) → b ≡ 48 + d → b < 58 → Run e k (a * 10 + d) v s t → Run e (suc k) a v (b ∷ s) t
    step d eb hb r = record {
      j = suc r.j;
      n = d * 10 ^ r.j + r.n;
      le = omega arith;
      lt = digits-below d r.j r.n (omega arith) r.lt;
      val = r.val ∙ carry a d r.n (10 ^ r.j) (d * 10 ^ r.j + r.n) refl ∙ ap (λ (x : ℕ). a * x + (d * 10 ^ r.j + r.n)) (sym (pow-suc 10 r.j));
      text = rw (digit-before r.j d r.n r.lt) (cc r.text);
    }

room-le : (d : ℕ) → digit_room d ≤ 4
room-le zero = omega arith
room-le (suc d) = omega arith

further-digit : (d j n : ℕ) → j ≤ digit_room d → d < 10 → n < 10 ^ j → further_digits 4 (d * 10 ^ j + n) ≡ j
further-digit zero j n hj hd h =
    let z : j ≡ 0 = omega arith in
    further-none 4 (0 * 10 ^ j + n) (omega (arith, ap (λ (x : ℕ). 10 ^ x) z)) ∙ sym z
further-digit (suc d) j n hj hd h =
    further-is 4 j (suc d * 10 ^ j + n) hj (omega (arith, suc-mul d (10 ^ j))) (digits-below (suc d) j n hd h)

-- a number's field
pub number-wrote : (e v : ℕ) (s t : List ℕ) → number e s ≡ found v t → (s ≡ numeral v ++ e ∷ t) × (v < numeral_end)
unfolding number numeral
number-wrote e v [] t p = bad-found p
number-wrote e v (b ∷ s) t p =
    let g = digit-found b _ v t p in
    step (b - 48) (omega (arith, g.0)) g.1 (run-wrote e (digit_room (b - 48)) (b - 48) v s t g.2)
  where
    step : (d : ℕ) → b ≡ 48 + d → b < 58 → Run e (digit_room d) d v s t → (b ∷ s ≡ numeral v ++ e ∷ t) × (v < numeral_end)
    step d eb hb r = (
      rw (r.val, further-digit d r.j r.n r.le (omega arith) r.lt, digit-before r.j d r.n r.lt) (cc r.text),
      omega (arith, r.val, digits-below d r.j r.n (omega arith) r.lt, ten-mono {i = suc r.j} {j = 5} (omega (arith, r.le, room-le d))),
    )

-- the numeral behind a sign
record Behind (p : Parsed ℕ) (f : ℕ → List ℕ → Parsed ℤ) (z : ℤ) (t : List ℕ) : Type 0 where
  val : ℕ
  rest : List ℕ
  one : p ≡ found val rest
  two : f val rest ≡ found z t

behind : (p : Parsed ℕ) (f : ℕ → List ℕ → Parsed ℤ) (z : ℤ) (t : List ℕ) → and_then p f ≡ found z t → Behind p f z t
behind bad_form f z t p = bad-found p
behind (found a s) f z t p = record { val = a; rest = s; one = refl; two = p }

-- a numeral without a minus can stand in every field
plain : (m : Bool) (n : ℕ) → n < numeral_end → FieldPrintable m (pos n)
plain true n h = h
plain false n h = h

none-wrote :
    (m : Bool) (e : ℕ) (z : ℤ) (s t : List ℕ) → and_then (number e s) after_none ≡ found z t → (s ≡ signed_numeral z ++ e ∷ t) × FieldPrintable m z
unfolding signed_numeral
none-wrote m e z s t p =
    let r = behind (number e s) after_none z t p in
    above r.val r.rest (number-wrote e r.val s r.rest r.one) r.two
  where
    above : (n : ℕ) (u : List ℕ) → (s ≡ numeral n ++ e ∷ u) × (n < numeral_end) → after_none n u ≡ found z t → (s ≡ signed_numeral z ++ e ∷ t) × FieldPrintable m z
    above n u h p =
        let ez : pos n ≡ z = cc in
        let et : u ≡ t = cc in
        rw (← ez, ← et) (h.0, plain m n h.1)

-- a signed number's field
signed-wrote : (m : Bool) (e : ℕ) (z : ℤ) (s t : List ℕ) → signed m e s ≡ found z t → (s ≡ signed_numeral z ++ e ∷ t) × FieldPrintable m z
unfolding signed signed_numeral
signed-wrote m e z [] t = λ p. bad-found p
signed-wrote false e z (b ∷ s) t = λ p. none-wrote false e z (b ∷ s) t p
signed-wrote true e z (b ∷ s) t =
    cond-elim (λ (y : Parsed ℤ). y ≡ found z t → (b ∷ s ≡ signed_numeral z ++ e ∷ t) × FieldPrintable true z) (eqb b 45) (and_then (number e s) after_minus) (and_then (number e (b ∷ s)) after_none)
    (λ eq p. let r = behind (number e s) after_minus z t p in below r.val r.rest (eqb-true b 45 eq) (number-wrote e r.val s r.rest r.one) r.two)
    (λ eq p. none-wrote true e z (b ∷ s) t p)
  where
    below : (n : ℕ) (u : List ℕ) → b ≡ 45 → (s ≡ numeral n ++ e ∷ u) × (n < numeral_end) → after_minus n u ≡ found z t → (b ∷ s ≡ signed_numeral z ++ e ∷ t) × FieldPrintable true z
    below zero u eb h p = bad-found p
    below (suc n) u eb h p =
        let ez : negsuc n ≡ z = cc in
        let et : u ≡ t = cc in
        rw (← ez, ← et) (cc h.0, h.1)

-- ---- both laws of a field that ends with the byte e, which is no digit

pub number-codec : (e : ℕ) → e < 48 → Codec (number e) (number_text e) NumberPrintable
unfolding number_text
number-codec e he = record {
  reads = λ n t h. rw append_assoc (number-reads e n t he h);
  wrote = λ n s t p. rw append_assoc (number-wrote e n s t p);
}

pub signed-codec : (m : Bool) (e : ℕ) → e < 48 → Codec (signed m e) (signed_text e) (FieldPrintable m)
unfolding signed_text
signed-codec m e he = record {
  reads = λ z t h. rw append_assoc (signed_reads m e z t he h);
  wrote = λ z s t p. rw append_assoc (signed-wrote m e z s t p);
}
