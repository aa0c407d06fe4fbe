-- Laws of a whole number k that is added to natural numbers. They are laws of two natural numbers p and q with k = p - q, so that one law
-- serves both signs.
use Prim.Native.Nat.{ℕ, zero, suc, ◌+◌, ◌/◌, ◌≤◌, ◌<◌}
use mathlib.Core.Path.{◌≡◌, refl, sym, ap, ◌∙◌}
use mathlib.Core.Bool.{Bool, true, false, cond}
use mathlib.Core.List.{List, [], ◌∷◌}
use native.Mathlib.Omega.{arith}
use lib.IntN.{ℤ, pos, negsuc, nat_abs, ◌+ℤ◌}
use lib.ListN.{length, get_or, length-map}
use lib.Seq.{ext_get_or}
use borrow.Author.Tests.{leb-true, le-leb}
use Rattle.arith.specs.Distance.{dist}
use Rattle.arith.specs.Raised.{in_range, raised, raised_list, raised_in_range}
use Rattle.arith.proofs.Bools.{clash, both_of}
use Rattle.arith.proofs.ListLaws.{map_at}
use Rattle.arith.proofs.WholeLaws.{Is, is_same, is-add, is-natural}

-- how far up and how far down a whole number goes
abbrev pub up : ℤ → ℕ
up (pos j) = j
up (negsuc j) = 0

abbrev pub down : ℤ → ℕ
down (pos j) = 0
down (negsuc j) = suc j

-- b is a, more p and less q
pub record Risen (p q a b : ℕ) : Type 0 where
  pub sum : b + q ≡ a + p

-- ---- one number

-- k is how far it goes up, less how far it goes down
up-down : (k : ℤ) → Is k (up k) (down k)
up-down (pos j) = omega arith
up-down (negsuc j) = omega arith

-- and so is a sum
sum_is : (k : ℤ) (a : ℕ) → Is (pos a +ℤ k) (a + up k) (down k)
sum_is k a =
    is_same (pos a +ℤ k) (a + up k) (0 + down k) (a + up k) (down k) (omega arith)
    (is-add (pos a) k a 0 (up k) (down k) (omega arith) (up-down k))

-- a sum in range is the sum as a natural number
range-risen : (most : ℕ) (z : ℤ) {p q a : ℕ} → Is z (a + p) q → in_range most z ≡ true → Risen p q a (nat_abs z)
range-risen most (pos b) e h = record { sum = e }
range-risen most (negsuc b) e h = clash (sym h)

-- and is at most the greatest
range-most : (most : ℕ) (z : ℤ) → in_range most z ≡ true → nat_abs z ≤ most
range-most most (pos b) h = leb-true b most h
range-most most (negsuc b) h = clash (sym h)

-- what is a more p and less q is the sum
risen-is : (k : ℤ) (a b : ℕ) → Risen (up k) (down k) a b → pos a +ℤ k ≡ pos b
risen-is k a b e = is-natural (pos a +ℤ k) (a + up k) (down k) b (sum_is k a) e.sum

-- ---- two numbers that both rise

module _ {p q a a' b b' : ℕ} (e : Risen p q a a') (f : Risen p q b b') where
  -- keep their distance
  pub dist-raised : dist a' b' ≡ dist a b
  dist-raised = omega arith

  -- their mean rises, halves rounded down
  pub mean-raised : Risen p q ((a + b) / 2) ((a' + b') / 2)
  mean-raised = record { sum = omega arith }

  -- and so does the one that a test picks
  pub pick-raised : (c : Bool) → Risen p q (cond c a b) (cond c a' b')
  pick-raised true = e
  pick-raised false = f

-- ---- lists

-- the same at each place of two lists
pub record RisenList (p q : ℕ) (t u : List ℕ) : Type 0 where
  pub same_length : length u ≡ length t
  pub each : (i : ℕ) → i < length t → Risen p q (get_or t i 0) (get_or u i 0)

module _ (most : ℕ) (k : ℤ) where
  -- at each place of a list in range the sum is in range
  range_at : (t : List ℕ) → raised_in_range most k t ≡ true → (i : ℕ) → i < length t → in_range most (pos (get_or t i 0) +ℤ k) ≡ true
  unfolding raised_in_range
  range_at [] h i l = absurd (omega arith)
  range_at (a ∷ t) h zero l = (both_of (in_range most (pos a +ℤ k)) (raised_in_range most k t) h).0
  range_at (a ∷ t) h (suc i) l = range_at t (both_of (in_range most (pos a +ℤ k)) (raised_in_range most k t) h).1 i (omega arith)

  -- and a list is in range where each sum is
  range-made : (t : List ℕ) → ((i : ℕ) → i < length t → in_range most (pos (get_or t i 0) +ℤ k) ≡ true) → raised_in_range most k t ≡ true
  unfolding raised_in_range
  range-made [] h = refl
  range-made (a ∷ t) h = rw (h 0 (omega arith)) (range-made t (λ i l. h (suc i) (omega arith)))

  -- a list whose sums are in range is raised
  pub list-raised : (t : List ℕ) → raised_in_range most k t ≡ true → RisenList (up k) (down k) t (raised_list k t)
  list-raised t h =
      record {
        same_length = length-map t (raised k);
        each = λ i l. rw (map_at (raised k) t i 0 0 l) (range-risen most (pos (get_or t i 0) +ℤ k) (sum_is k (get_or t i 0)) (range_at t h i l));
      }

  -- and none of its values is above the greatest
  pub raised-most : (t : List ℕ) → raised_in_range most k t ≡ true → (i : ℕ) → get_or (raised_list k t) i 0 ≤ most
  unfolding raised_in_range
  raised-most [] h i = omega arith
  raised-most (a ∷ t) h zero = range-most most (pos a +ℤ k) (both_of (in_range most (pos a +ℤ k)) (raised_in_range most k t) h).0
  raised-most (a ∷ t) h (suc i) = raised-most t (both_of (in_range most (pos a +ℤ k)) (raised_in_range most k t) h).1 i

module _ (k : ℤ) (t u : List ℕ) (h : RisenList (up k) (down k) t u) where
  -- a list that is raised is the raised list
  pub raised_is : u ≡ raised_list k t
  raised_is =
      ext_get_or 0 u (raised_list k t) (h.same_length ∙ sym (length-map t (raised k)))
      (λ i l.
      let m : i < length t = omega (arith, h.same_length) in
      sym (map_at (raised k) t i 0 0 m ∙ ap nat_abs (risen-is k (get_or t i 0) (get_or u i 0) (h.each i m))))

  -- and where none of its values is above the greatest, the sums are in range
  pub raised-in-range : (most : ℕ) → ((i : ℕ) → get_or u i 0 ≤ most) → raised_in_range most k t ≡ true
  raised-in-range most few =
      range-made most k t
      (λ i l. ap (in_range most) (risen-is k (get_or t i 0) (get_or u i 0) (h.each i l)) ∙ le-leb (get_or u i 0) most (few i))
