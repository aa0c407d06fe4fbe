-- The border points, and the candidate across the diagonal.
use Prim.Native.Nat.{ℕ, zero, suc, ◌-◌, ◌*◌, ◌/◌, ◌%◌, ◌^◌, ◌≤◌, ◌<◌, min}
use mathlib.Core.Bool.{Bool, true, false, cond}
use mathlib.Core.Path.{◌≡◌, refl, sym, ap, ◌∙◌}
use native.Mathlib.Omega.{arith}
use lib.Dec.{ltb}
use borrow.Author.Tests.{lt-ltb, ltb-true, ltb-false}
use Rattle.arith.proofs.BitLaws.{bits-lt, bits-not}
use Rattle.pattern.specs.Pattern.{pattern, mark, complement, transposed}
use Rattle.wedgelet.specs.Half.{flip}
use Rattle.wedgelet.specs.Wedgelet.{points, point_x, point_y, beside, candidate, unmarked, wedgelet}
use Rattle.pattern.proofs.PatternLaws.{mark-pattern, pattern-ext, transposed_pattern}
use Rattle.wedgelet.proofs.LineLaws.{beside-transposed}

-- ---- the complement where (0,0) is marked

flip-self : (b : Bool) → flip b b ≡ false
unfolding flip
flip-self true = refl
flip-self false = refl

unmarked-by : (n : ℕ) (f : ℕ → ℕ → Bool) (b : Bool) → cond b (complement n (pattern n f)) (pattern n f) ≡ pattern n (λ x y. flip b (f x y))
unfolding flip
unmarked-by n f true = bits-not (λ i. f (i % n) (i / n)) (n * n)
unmarked-by n f false = refl

pub unmarked-pattern : (n : ℕ) (f : ℕ → ℕ → Bool) → 0 < n → unmarked n (pattern n f) ≡ pattern n (λ x y. flip (f 0 0) (f x y))
unmarked-pattern n f h =
    ap (λ (b : Bool). cond b (complement n (pattern n f)) (pattern n f)) (mark-pattern n f 0 0 h h)
    ∙ unmarked-by n f (f 0 0)

-- it does not mark (0,0)
unmarked-origin : (n : ℕ) (f : ℕ → ℕ → Bool) → 0 < n → mark n (unmarked n (pattern n f)) 0 0 ≡ false
unmarked-origin n f h =
    ap (λ (w : ℕ). mark n w 0 0) (unmarked-pattern n f h)
    ∙ mark-pattern n (λ x y. flip (f 0 0) (f x y)) 0 0 h h
    ∙ flip-self (f 0 0)

transposed-unmarked : (n : ℕ) (f : ℕ → ℕ → Bool) → 0 < n → transposed n (unmarked n (pattern n f)) ≡ unmarked n (pattern n (λ x y. f y x))
transposed-unmarked n f h =
    ap (transposed n) (unmarked-pattern n f h)
    ∙ transposed_pattern n (λ x y. flip (f 0 0) (f x y))
    ∙ sym (unmarked-pattern n (λ x y. f y x) h)

-- ---- the points in one formula

-- the column of point k, and its row, with m = n - 1
min-x : (m k : ℕ) → cond (ltb k m) k (cond (ltb k (2 * m)) m (cond (ltb k (3 * m)) (3 * m - k) 0)) ≡ min (min k m) (3 * m - k)
min-x m k = go (ltb k m) (ltb k (2 * m)) (ltb k (3 * m)) refl refl refl
  where
    go :
        (a b c : Bool) → ltb k m ≡ a → ltb k (2 * m) ≡ b → ltb k (3 * m) ≡ c
        → cond a k (cond b m (cond c (3 * m - k) 0)) ≡ min (min k m) (3 * m - k)
    go true b c p q r = omega (arith, ltb-true k m p)
    go false true c p q r = omega (arith, ltb-false k m p, ltb-true k (2 * m) q)
    go false false true p q r = omega (arith, ltb-false k (2 * m) q, ltb-true k (3 * m) r)
    go false false false p q r = omega (arith, ltb-false k (3 * m) r)

min-y :
    (m k : ℕ)
    → cond (ltb k m) 0 (cond (ltb k (2 * m)) (k - m) (cond (ltb k (3 * m)) m (4 * m - k))) ≡ min (min (k - m) m) (4 * m - k)
min-y m k = go (ltb k m) (ltb k (2 * m)) (ltb k (3 * m)) refl refl refl
  where
    go :
        (a b c : Bool) → ltb k m ≡ a → ltb k (2 * m) ≡ b → ltb k (3 * m) ≡ c
        → cond a 0 (cond b (k - m) (cond c m (4 * m - k))) ≡ min (min (k - m) m) (4 * m - k)
    go true b c p q r = omega (arith, ltb-true k m p)
    go false true c p q r = omega (arith, ltb-false k m p, ltb-true k (2 * m) q)
    go false false true p q r = omega (arith, ltb-false k (2 * m) q, ltb-true k (3 * m) r)
    go false false false p q r = omega (arith, ltb-false k (3 * m) r)

pub x_lt : (n k : ℕ) → 1 ≤ n → point_x n k < n
x_lt n k h = rw (min-x (n - 1) k) (omega arith)

-- ---- the candidate across the diagonal

-- the number of the point (y, x), where k is that of (x, y)
pub across_point : ℕ → ℕ → ℕ
across_point n zero = zero
across_point n (suc k) = points n - suc k

pub across-point-lt : (n k : ℕ) → k < points n → across_point n k < points n
unfolding across_point
across-point-lt n zero h = h
across-point-lt n (suc k) h = omega arith

pub across-injective : (n a b : ℕ) → a < points n → b < points n → across_point n a ≡ across_point n b → a ≡ b
unfolding across_point
across-injective n zero zero ha hb q = refl
across-injective n zero (suc b) ha hb q = absurd (omega arith)
across-injective n (suc a) zero ha hb q = absurd (omega arith)
across-injective n (suc a) (suc b) ha hb q = omega arith

min-across : (a b m : ℕ) → min (min a m) b ≡ min (min b m) a
min-across a b m = omega arith

-- the same on the formulas: from the top row to the left column and from the right column to the bottom row, and back
across-min-x : (m k : ℕ) → suc k < 4 * m → min (min (4 * m - suc k) m) (3 * m - (4 * m - suc k)) ≡ min (min (suc k - m) m) (4 * m - suc k)
across-min-x m k h =
    let e : 3 * m - (4 * m - suc k) ≡ suc k - m = omega arith in
    rw e (min-across (4 * m - suc k) (suc k - m) m)

across-min-y : (m k : ℕ) → suc k < 4 * m → min (min (4 * m - suc k - m) m) (4 * m - (4 * m - suc k)) ≡ min (min (suc k) m) (3 * m - suc k)
across-min-y m k h =
    let e : 4 * m - suc k - m ≡ 3 * m - suc k = omega arith in
    let q : 4 * m - (4 * m - suc k) ≡ suc k = omega arith in
    rw (e, q) (min-across (3 * m - suc k) (suc k) m)

first-x : (m : ℕ) → min (min 0 m) (3 * m - 0) ≡ 0
first-x m = omega arith

first-y : (m : ℕ) → min (min (0 - m) m) (4 * m - 0) ≡ 0
first-y m = omega arith

pub across-x : (n k : ℕ) → k < points n → point_x n (across_point n k) ≡ point_y n k
unfolding across_point
across-x n zero h = min-x (n - 1) 0 ∙ first-x (n - 1) ∙ sym (min-y (n - 1) 0 ∙ first-y (n - 1))
across-x n (suc k) h = min-x (n - 1) (4 * (n - 1) - suc k) ∙ across-min-x (n - 1) k h ∙ sym (min-y (n - 1) (suc k))

pub across-y : (n k : ℕ) → k < points n → point_y n (across_point n k) ≡ point_x n k
unfolding across_point
across-y n zero h = min-y (n - 1) 0 ∙ first-y (n - 1) ∙ sym (min-x (n - 1) 0 ∙ first-x (n - 1))
across-y n (suc k) h = min-y (n - 1) (4 * (n - 1) - suc k) ∙ across-min-y (n - 1) k h ∙ sym (min-x (n - 1) (suc k))

-- the marks of a candidate, from the coordinates of its points
pub candidate-of :
    (n s e : ℕ) {xs ys xe ye : ℕ} → xs ≡ point_x n s → ys ≡ point_y n s → xe ≡ point_x n e → ye ≡ point_y n e
    → pattern n (beside xs ys xe ye) ≡ candidate n s e
unfolding candidate
candidate-of n s e p q r t = λ i. pattern n (beside (p i) (q i) (r i) (t i))

-- the pattern of a candidate, from a test that marks its side without (0,0)
pub wedgelet-by :
    (n s e : ℕ) {xs ys xe ye : ℕ} (g : ℕ → ℕ → Bool) → 0 < n → xs ≡ point_x n s → ys ≡ point_y n s → xe ≡ point_x n e → ye ≡ point_y n e
    → ((x y : ℕ) → g x y ≡ flip (beside xs ys xe ye 0 0) (beside xs ys xe ye x y)) → pattern n g ≡ wedgelet n s e
unfolding wedgelet
wedgelet-by n s e {xs} {ys} {xe} {ye} g h p q r t m =
    pattern-ext n g _ (λ x y _ _. m x y) ∙ sym (unmarked-pattern n (beside xs ys xe ye) h) ∙ ap (unmarked n) (candidate-of n s e p q r t)

pub wedgelet-lt : (n s e : ℕ) → 0 < n → wedgelet n s e < 2 ^ (n * n)
unfolding wedgelet candidate
wedgelet-lt n s e h = rw (unmarked-pattern n (beside (point_x n s) (point_y n s) (point_x n e) (point_y n e)) h) (bits-lt _ (n * n))

pub wedgelet-origin : (n s e : ℕ) → 0 < n → mark n (wedgelet n s e) 0 0 ≡ false
unfolding wedgelet candidate
wedgelet-origin n s e h = unmarked-origin n (beside (point_x n s) (point_y n s) (point_x n e) (point_y n e)) h

-- a word transposed is that of the points across, start and end changed over
pub wedgelet-transposed : (n s e : ℕ) → s < points n → e < points n → transposed n (wedgelet n s e) ≡ wedgelet n (across_point n e) (across_point n s)
unfolding wedgelet
wedgelet-transposed n s e hs he =
    ap (λ (w : ℕ). transposed n (unmarked n w)) (sym (candidate-of n s e refl refl refl refl))
    ∙ transposed-unmarked n (beside (point_x n s) (point_y n s) (point_x n e) (point_y n e)) (omega arith)
    ∙ ap (unmarked n)
    (pattern-ext n _ _ (λ x y _ _. sym (beside-transposed (point_x n s) (point_y n s) (point_x n e) (point_y n e) x y))
    ∙ candidate-of n (across_point n e) (across_point n s) (sym (across-x n e he)) (sym (across-y n e he)) (sym (across-x n s hs)) (sym (across-y n s hs)))

-- the line along the top row leaves the rows below it on one side, so (0,1) is marked
pub first_marks : (n : ℕ) → 3 ≤ n → mark n (wedgelet n 0 1) 0 1 ≡ true
unfolding wedgelet flip
first_marks n h =
    let f : ℕ → ℕ → Bool = beside 0 0 1 0 in
    let zeroth : ltb 0 (n - 1) ≡ true = lt-ltb 0 (n - 1) (omega arith) in
    let first : ltb 1 (n - 1) ≡ true = lt-ltb 1 (n - 1) (omega arith) in
    ap (λ (w : ℕ). mark n (unmarked n w) 0 1) (sym (candidate-of n 0 1 {xs = 0} {ys = 0} {xe = 1} {ye = 0} (rw zeroth) (rw zeroth) (rw first) (rw first)))
    ∙ ap (λ (w : ℕ). mark n w 0 1) (unmarked-pattern n f (omega arith))
    ∙ mark-pattern n (λ x y. flip (f 0 0) (f x y)) 0 1 (omega arith) (omega arith)
