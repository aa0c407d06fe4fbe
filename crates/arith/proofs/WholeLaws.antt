-- Whole numbers as differences of natural numbers.
use Prim.Native.Nat.{ℕ, zero, suc, ◌+◌, ◌-◌, ◌*◌, ◌≤◌, ◌<◌}
use mathlib.Core.Bool.{Bool, true, false, cond}
use mathlib.Core.Path.{◌≡◌, refl, sym, ap, ap₂, ◌∙◌}
use native.Mathlib.Nat.{mul-add, add-mul}
use native.Mathlib.Omega.{arith}
use borrow.Author.Tests.{ltb-true, ltb-false, lt-ltb, le-ltb}
use lib.Dec.{ltb}
use lib.IntN.{ℤ, pos, negsuc, neg_ℤ, sub_ℕ, ◌+ℤ◌, ◌-ℤ◌, ◌*ℤ◌}
use lib.Signed.{lt_z}

-- z is a - b
abbrev pub Is : ℤ → ℕ → ℕ → Type 0
Is (pos n) a b = n + b ≡ a
Is (negsuc n) a b = suc n + a ≡ b

-- a difference of natural numbers
is-sub : (a b : ℕ) → Is (sub_ℕ a b) a b
is-sub a b = go (ltb a b) refl
  where
    go : (t : Bool) → ltb a b ≡ t → Is (cond t (negsuc (b - suc a)) (pos (a - b))) a b
    go true h = let l : a < b = ltb-true a b h in omega arith
    go false h = let l : b ≤ a = ltb-false a b h in omega arith

-- the same of two whole numbers that are natural
pub is-minus : (a b : ℕ) → Is (pos a -ℤ pos b) a b
is-minus a zero = omega arith
is-minus a (suc b) = is-sub a (suc b)

-- the negative has the two exchanged
pub is-neg : (z : ℤ) (a b : ℕ) → Is z a b → Is (neg_ℤ z) b a
is-neg (pos zero) a b h = omega arith
is-neg (pos (suc n)) a b h = omega arith
is-neg (negsuc n) a b h = omega arith

-- the same difference, written otherwise
pub is_same : (z : ℤ) (a b c d : ℕ) → a + d ≡ c + b → Is z a b → Is z c d
is_same (pos n) a b c d e h = omega arith
is_same (negsuc n) a b c d e h = omega arith

-- differences are added part by part
pub is-add : (z w : ℤ) (a b c d : ℕ) → Is z a b → Is w c d → Is (z +ℤ w) (a + c) (b + d)
is-add (pos n) (pos m) a b c d h k = omega arith
is-add (pos n) (negsuc m) a b c d h k = is_same (sub_ℕ n (suc m)) n (suc m) (a + c) (b + d) (omega arith) (is-sub n (suc m))
is-add (negsuc n) (pos m) a b c d h k = is_same (sub_ℕ m (suc n)) m (suc n) (a + c) (b + d) (omega arith) (is-sub m (suc n))
is-add (negsuc n) (negsuc m) a b c d h k = omega arith

-- a product of two sums
expand : (n b m d : ℕ) → (n + b) * (m + d) ≡ n * m + n * d + (b * m + b * d)
expand n b m d = add-mul n b (m + d) ∙ ap₂ ◌+◌ (mul-add n m d) (mul-add b m d)

-- a product of two differences; n and m are their sizes
both : (n m b d : ℕ) → n * m + ((n + b) * d + b * (m + d)) ≡ (n + b) * (m + d) + b * d
both n m b d = omega (arith, expand n b m d, add-mul n b d, mul-add b m d)

-- a product of two whole numbers, multiplied out
pub is_mul : (z w : ℤ) (a b c d : ℕ) → Is z a b → Is w c d → Is (z *ℤ w) (a * c + b * d) (a * d + b * c)
is_mul (pos n) (pos m) a b c d h k = rw (← h, ← k) (both n m b d)
is_mul (pos n) (negsuc m) a b c d h k = rw (← h, ← k) (is-neg (pos (n * suc m)) _ _ (omega (arith, both n (suc m) b c)))
is_mul (negsuc n) (pos m) a b c d h k = rw (← h, ← k) (is-neg (pos (suc n * m)) _ _ (omega (arith, both (suc n) m a d)))
is_mul (negsuc n) (negsuc m) a b c d h k = rw (← h, ← k) (omega (arith, both (suc n) (suc m) a c))

-- the sign
pub is_positive : (z : ℤ) (a b : ℕ) → Is z a b → lt_z (pos 0) z ≡ ltb b a
is_positive (pos zero) a b h = sym (le-ltb b a (omega arith))
is_positive (pos (suc n)) a b h = lt-ltb 0 (suc n) (omega arith) ∙ sym (lt-ltb b a (omega arith))
is_positive (negsuc n) a b h = sym (le-ltb b a (omega arith))

-- a difference that is a natural number
pub is-natural : (z : ℤ) (a b n : ℕ) → Is z a b → n + b ≡ a → z ≡ pos n
is-natural (pos m) a b n h e = let q : m ≡ n = omega arith in ap pos q
is-natural (negsuc m) a b n h e = absurd (omega arith)
