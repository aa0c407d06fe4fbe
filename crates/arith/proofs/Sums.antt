-- Laws of sums.
use Prim.Native.Nat.{ℕ, zero, suc, ◌+◌, ◌*◌, ◌≤◌, ◌<◌}
use mathlib.Core.Path.{◌≡◌, refl, sym, ap, ap₂, ◌∙◌}
use mathlib.Core.Bool.{Bool, true, false, cond}
use mathlib.Core.List.{List, ◌∷◌}
use mathlib.Core.Logic.{⊎_elim}
use native.Mathlib.Nat.{add-zero, add-suc, zero-mul, suc-mul}
use native.Mathlib.Omega.{arith}
use lib.ListN.{length, get_or}
use Rattle.std.specs.List.{sum_by}
use Rattle.std.proofs.lemmas.List.Recursion.{is_sum_by}
use Rattle.arith.specs.Sum.{sum_to}
use Rattle.arith.proofs.LeastLaws.{last-or-below}

-- equal terms have equal sums
pub sum-ext : (f g : ℕ → ℕ) (k : ℕ) → ((i : ℕ) → i < k → f i ≡ g i) → sum_to f k ≡ sum_to g k
unfolding sum_to
sum-ext f g zero h = refl
sum-ext f g (suc k) h = ap₂ ◌+◌ (sum-ext f g k (λ i l. h i (omega arith))) (h k (omega arith))

-- the sum of two sums, term by term
pub sum-add : (f g : ℕ → ℕ) (k : ℕ) → sum_to (λ i. f i + g i) k ≡ sum_to f k + sum_to g k
unfolding sum_to
sum-add f g zero = refl
sum-add f g (suc k) = omega (arith, sum-add f g k)

-- terms of at most b
pub sum-le : (f : ℕ → ℕ) (b k : ℕ) → ((i : ℕ) → i < k → f i ≤ b) → sum_to f k ≤ k * b
unfolding sum_to
sum-le f b zero h = omega arith
sum-le f b (suc k) h = omega (arith, suc-mul k b, sum-le f b k (λ i l. h i (omega arith)), h k (omega arith))

-- a term or nothing
pub term-le : (b : Bool) (x m : ℕ) → x ≤ m → cond b x 0 ≤ m
term-le true x m h = h
term-le false x m h = omega arith

pub sum-none : (k : ℕ) → sum_to (λ _. 0) k ≡ 0
unfolding sum_to
sum-none zero = refl
sum-none (suc k) = omega (arith, sum-none k)

-- the first term apart
pub sum-front : (f : ℕ → ℕ) (k : ℕ) → sum_to f (suc k) ≡ f 0 + sum_to (λ i. f (suc i)) k
unfolding sum_to
sum-front f zero = omega arith
sum-front f (suc k) = omega (arith, sum-front f k)

-- the sum of a list's numbers, place by place
pub sum-listed : (l : List ℕ) → sum_by (λ x. x) l ≡ sum_to (λ k. get_or l k 0) (length l)
unfolding sum_to
sum-listed l =
    sym
    (is_sum_by (λ xs. sum_to (λ k. get_or xs k 0) (length xs)) (λ x. x) refl
    (λ x xs. sum-front (λ k. get_or (x ∷ xs) k 0) (length xs)) l)

-- a sum in two parts
pub sum-append : (f : ℕ → ℕ) (a b : ℕ) → sum_to f (a + b) ≡ sum_to f a + sum_to (λ j. f (a + j)) b
unfolding sum_to
sum-append f a zero = rw add-zero (omega arith)
sum-append f a (suc b) = rw add-suc (omega (arith, sum-append f a b))

-- row by row: m rows of n
pub sum_rows : (f : ℕ → ℕ) (m n : ℕ) → sum_to f (m * n) ≡ sum_to (λ y. sum_to (λ x. f (y * n + x)) n) m
unfolding sum_to
sum_rows f zero n = rw zero-mul
sum_rows f (suc m) n = rw suc-mul (omega (arith, sum-append f (m * n) n, sum_rows f m n))

-- rows or columns first
pub sum-exchange : (g : ℕ → ℕ → ℕ) (m n : ℕ) → sum_to (λ y. sum_to (λ x. g y x) n) m ≡ sum_to (λ x. sum_to (λ y. g y x) m) n
unfolding sum_to
sum-exchange g zero n = sym (sum-none n)
sum-exchange g (suc m) n =
    ap (λ (z : ℕ). z + sum_to (λ x. g m x) n) (sum-exchange g m n)
    ∙ sym (sum-add (λ x. sum_to (λ y. g y x) m) (λ x. g m x) n)

-- ---- terms in pairs

-- one place below n passes a test, and no other
pub record OnlyOne (test : ℕ → Bool) (n : ℕ) : Type 0 where
  pub place : ℕ
  pub inside : place < n
  pub passes : test place ≡ true
  pub only : (k : ℕ) → k < n → test k ≡ true → k ≡ place

by_bool : (b : Bool) (x : ℕ) → (b ≡ true → ⊥) → cond b x 0 ≡ 0
by_bool true x h = absurd (h refl)
by_bool false x h = refl

-- the sum over the one place that passes
pub sum_one : (test : ℕ → Bool) (x n : ℕ) → OnlyOne test n → sum_to (λ k. cond (test k) x 0) n ≡ x
unfolding sum_to
sum_one test x zero o = absurd (omega (arith, o.inside))
sum_one test x (suc n) o =
    ⊎_elim
    (λ e.
    let none = sum-ext (λ k. cond (test k) x 0) (λ _. 0) n (λ k l. by_bool (test k) x (λ q. omega (arith, o.only k (omega arith) q))) in
    ap₂ ◌+◌ (none ∙ sum-none n) (ap (λ (b : Bool). cond b x 0) (ap test (sym e) ∙ o.passes)) ∙ (let z : 0 + x ≡ x = omega arith in z))
    (λ l.
    let last = by_bool (test n) x (λ q. omega (arith, o.only n (omega arith) q)) in
    let before = sum_one test x n (record { place = o.place; inside = l; passes = o.passes; only = λ k h. o.only k (omega arith) }) in
    omega (arith, last, before))
    (last-or-below o.inside)

-- two sums whose terms are paired one to one, equal with equal, are the same
pub sum-paired :
    (f g : ℕ → ℕ) (pair : ℕ → ℕ → Bool) (n : ℕ) → ((i : ℕ) → i < n → OnlyOne (λ j. pair i j) n) → ((j : ℕ) → j < n → OnlyOne (λ i. pair i j) n)
    → ((i j : ℕ) → i < n → j < n → pair i j ≡ true → f i ≡ g j) → sum_to f n ≡ sum_to g n
sum-paired f g pair n right left same =
    sum-ext f _ n (λ i l. sym (sum_one (λ j. pair i j) (f i) n (right i l)))
    ∙ sum-exchange (λ i j. cond (pair i j) (f i) 0) n n
    ∙ sum-ext _ g n (λ j l. sum-ext _ _ n (λ i h. alike (pair i j) (f i) (g j) (same i j h l)) ∙ sum_one (λ i. pair i j) (g j) n (left j l))
  where
    alike : (b : Bool) (x y : ℕ) → (b ≡ true → x ≡ y) → cond b x 0 ≡ cond b y 0
    alike true x y e = e refl
    alike false x y e = refl
