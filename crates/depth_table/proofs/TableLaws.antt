-- Laws of sound tables: counts, values and order; and what the library's look at neighbours says of their order.
use Prim.Native.Nat.{ℕ, zero, suc, ◌+◌, ◌≤◌, ◌<◌}
use mathlib.Core.Path.{◌≡◌, refl, sym}
use mathlib.Core.Bool.{Bool, true, false}
use mathlib.Core.List.{List, [], ◌∷◌}
use mathlib.Core.Logic.{◌⊎◌, ⊎_elim}
use mir.Syntax.{w8}
use mir.Val.{Fits}
use Rattle.std.specs.List.{IsAllAdjacentAnswer}
use native.Mathlib.Omega.{arith}
use native.Mathlib.Numerals.{add-one}
use lib.ListN.{length, get_or}
use lib.Dec.{leb, ltb}
use borrow.Author.Tests.{le-leb, lt-leb, lt-ltb, le-ltb, leb-true, ltb-true, ltb-false}
use Rattle.arith.proofs.Bools.{both_of}
use Rattle.depth_table.specs.Table.{bytes, rising, most_values, some_value, table_ok}

-- ---- bytes

-- values that are each below 256
pub bytes-made : (t : List ℕ) → ((i : ℕ) → get_or t i 0 < 256) → bytes t ≡ true
unfolding bytes
bytes-made [] h = refl
bytes-made (a ∷ t) h = rw (lt-ltb a 256 (h 0)) (bytes-made t (λ i. h (suc i)))

pub bytes-at : (t : List ℕ) → bytes t ≡ true → (i : ℕ) → get_or t i 0 < 256
unfolding bytes
bytes-at [] h i = omega arith
bytes-at (a ∷ t) h zero = ltb-true a 256 (both_of (ltb a 256) (bytes t) h).0
bytes-at (a ∷ t) h (suc i) = bytes-at t (both_of (ltb a 256) (bytes t) h).1 i

-- ---- rising

-- no value is below low
low-at : (t : List ℕ) (low : ℕ) → rising low t ≡ true → (i : ℕ) → i < length t → low ≤ get_or t i 0
unfolding rising
low-at [] low h i l = absurd (omega arith)
low-at (a ∷ t) low h zero l = leb-true low a (both_of (leb low a) (rising (suc a) t) h).0
low-at (a ∷ t) low h (suc i) l =
    let p = both_of (leb low a) (rising (suc a) t) h in
    omega (arith, leb-true low a p.0, low-at t (suc a) p.1 i (omega arith))

-- of two values the later is the greater
pub rising-at : (t : List ℕ) (low : ℕ) → rising low t ≡ true → (i j : ℕ) → i < j → j < length t → get_or t i 0 < get_or t j 0
unfolding rising
rising-at [] low h i j l m = absurd (omega arith)
rising-at (a ∷ t) low h i zero l m = absurd (omega arith)
rising-at (a ∷ t) low h zero (suc j) l m = low-at t (suc a) (both_of (leb low a) (rising (suc a) t) h).1 j (omega arith)
rising-at (a ∷ t) low h (suc i) (suc j) l m =
    rising-at t (suc a) (both_of (leb low a) (rising (suc a) t) h).1 i j (omega arith) (omega arith)

-- values of which the later is always the greater rise
pub rising-made :
    (t : List ℕ) (low : ℕ) → ((i : ℕ) → i < length t → low ≤ get_or t i 0)
    → ((i j : ℕ) → i < j → j < length t → get_or t i 0 < get_or t j 0) → rising low t ≡ true
unfolding rising
rising-made [] low least more = refl
rising-made (a ∷ t) low least more =
    rw (le-leb low a (least 0 (omega arith)))
    (rising-made t (suc a) (λ i l. more 0 (suc i) (omega arith) (omega arith)) (λ i j l m. more (suc i) (suc j) (omega arith) (omega arith)))

-- values of which each is less than the next rise
adjacent_rise :
    (t : List ℕ) (low : ℕ) → (0 < length t → low ≤ get_or t 0 0)
    → ((k : ℕ) → suc k < length t → get_or t k 0 < get_or t (suc k) 0) → rising low t ≡ true
unfolding rising
adjacent_rise [] low least more = refl
adjacent_rise (a ∷ t) low least more =
    rw (le-leb low a (least (omega arith)))
    (adjacent_rise t (suc a) (λ l. more 0 (omega arith)) (λ k l. more (suc k) (omega arith)))

-- what a look at each value and the next answers
pub rising_answered : (t : List ℕ) (r : Bool) → IsAllAdjacentAnswer (λ x y b. b ≡ ltb x y) t r → r ≡ rising 0 t
rising_answered t true h =
    sym (adjacent_rise t 0 (λ l. omega arith) (λ k l. rw add-one at (ltb-true _ _ (sym (h k 0 (omega arith))))))
rising_answered t false h =
    elim (rising 0 t) as (λ b. rising 0 t ≡ b → false ≡ b) [
      | true ↦ λ e. absurd (omega (arith, rising-at t 0 e h.0 (h.0 + 1) (omega arith) h.1, ltb-false _ _ (sym (h.2 0))))
      | false ↦ λ e. refl
    ] refl

-- ---- sound tables

-- what a sound table has
pub record Sound (t : List ℕ) : Type 0 where
  pub some : 1 ≤ length t
  pub few : length t ≤ most_values
  pub small : bytes t ≡ true
  pub rises : rising 0 t ≡ true

pub table-sound : (t : List ℕ) → table_ok t ≡ true → Sound t
unfolding table_ok
table-sound t h =
    let p = both_of (some_value t) _ h in
    let q = both_of (leb (length t) most_values) _ p.1 in
    let r = both_of (bytes t) (rising 0 t) q.1 in
    record { some = ltb-true 0 (length t) p.0; few = leb-true (length t) most_values q.0; small = r.0; rises = r.1 }

-- and what has these is sound
pub table-made : (t : List ℕ) → Sound t → table_ok t ≡ true
unfolding table_ok
table-made t s = rw (lt-ltb 0 (length t) s.some, le-leb (length t) most_values s.few, s.small, s.rises)

-- a table without a value is not sound, and one of more than 256 is not
pub table_empty : (t : List ℕ) → length t < 1 → false ≡ table_ok t
unfolding table_ok
table_empty t h = simp (le-ltb 0 (length t) (omega arith))

pub table_long : (t : List ℕ) → 256 < length t → false ≡ table_ok t
unfolding table_ok
table_long t h = simp (lt-ltb 0 (length t) (omega arith), lt-leb (length t) 256 h)

-- so outside of 1 to 256 values the count decides, and among these the order
pub table_miscounted : (t : List ℕ) → (length t < 1) ⊎ (256 < length t) → false ≡ table_ok t
table_miscounted t = ⊎_elim (table_empty t) (table_long t)

pub table_counted :
    (t : List ℕ) {r : Bool} → ((i : ℕ) → Fits w8 (get_or t i 0)) → 1 ≤ length t → length t ≤ 256 → r ≡ rising 0 t → r ≡ table_ok t
unfolding table_ok
table_counted t h some few e = rw (lt-ltb 0 (length t) some, le-leb (length t) 256 few, bytes-made t (λ i. (h i).fits)) e

-- 1 to 256 values
pub table-counts : (t : List ℕ) → table_ok t ≡ true → (1 ≤ length t) × (length t ≤ most_values)
table-counts t h = let s = table-sound t h in (s.some, s.few)

-- so at least one
pub valued : (t : List ℕ) → true ≡ table_ok t → 0 < length t
valued t h = (table-counts t (sym h)).0

-- each 0 to 255 (past its end a list reads 0)
pub table-bytes : (t : List ℕ) → table_ok t ≡ true → (i : ℕ) → get_or t i 0 < 256
table-bytes t h = bytes-at t (table-sound t h).small

-- strictly rising
pub table-rises : (t : List ℕ) → table_ok t ≡ true → (i j : ℕ) → i < j → j < length t → get_or t i 0 < get_or t j 0
table-rises t h = rising-at t 0 (table-sound t h).rises
