-- Laws of n rows of n places, and of transposing them.
use Prim.Native.Nat.{ℕ, zero, suc, ◌+◌, ◌*◌, ◌/◌, ◌%◌, ◌≤◌, ◌<◌}
use mathlib.Core.Path.{◌≡◌, sym, ap, ◌∙◌}
use mathlib.Core.List.{List}
use native.Mathlib.Nat.{mod-lt, div-lt_iff_lt-mul, div-add-mod', mul-le-mul}
use native.Mathlib.Omega.{arith}
use lib.Arith.{digits_lt, digits_div, digits_mod}
use lib.ListN.{length, get_or}
use Rattle.arith.specs.Sum.{sum_to}
use Rattle.arith.specs.Square.{place, across, transposed_list}
use Rattle.arith.proofs.Sums.{sum-ext, sum_rows, sum-exchange}
use Rattle.arith.proofs.ListLaws.{length-list_of, list_of-at, list_of-ext, list_of-own}

-- the column and the row of a place
pub positive : (n k : ℕ) → k < n * n → 0 < n
positive zero k h = absurd (omega arith)
positive (suc n) k h = omega arith

pub column-lt : (n k : ℕ) → k < n * n → k % n < n
column-lt n k h = mod-lt k (positive n k h)

pub row_lt : (n k : ℕ) → k < n * n → k / n < n
row_lt n k h = (div-lt_iff_lt-mul (positive n k h)).1 h

pub place-lt : (n x y : ℕ) → x < n → y < n → place n x y < n * n
place-lt n x y hx hy = digits_lt hy hx

-- a place is that of its own column and row
pub place-own : (n k : ℕ) → place n (k % n) (k / n) ≡ k
place-own n k = div-add-mod' k n

pub square_le : {n m : ℕ} → n ≤ m → n * n ≤ m * m
square_le h = mul-le-mul h h

-- ---- across the diagonal

pub across_lt : (n k : ℕ) → k < n * n → across n k < n * n
across_lt n k h = digits_lt (column-lt n k h) (row_lt n k h)

pub across-place : (n x y : ℕ) → x < n → across n (place n x y) ≡ place n y x
across-place n x y h = rw (digits_mod y h, digits_div y h)

pub across-twice : (n k : ℕ) → k < n * n → across n (across n k) ≡ k
across-twice n k h = across-place n (k / n) (k % n) (row_lt n k h) ∙ place-own n k

-- a sum over the square stays the same
pub sum-across : (f : ℕ → ℕ) (n : ℕ) → sum_to (λ k. f (across n k)) (n * n) ≡ sum_to f (n * n)
sum-across f n =
    sum_rows (λ k. f (across n k)) n n
    ∙ sum-ext _ _ n (λ y hy. sum-ext _ _ n (λ x hx. ap f (across-place n x y hx)))
    ∙ sum-exchange (λ y x. f (x * n + y)) n n
    ∙ sym (sum_rows f n n)

-- ---- a square list transposed

pub length-transposed : (n : ℕ) (l : List ℕ) → length (transposed_list n l) ≡ n * n
unfolding transposed_list
length-transposed n l = length-list_of _ (n * n)

pub transposed-across : (n : ℕ) (l : List ℕ) (k : ℕ) → k < n * n → get_or (transposed_list n l) k 0 ≡ get_or l (across n k) 0
unfolding transposed_list
transposed-across n l k h = list_of-at (λ i. get_or l (across n i) 0) 0 (n * n) k h

-- the element at (x, y) is the old one at (y, x)
pub transposed-at : (n : ℕ) (l : List ℕ) (x y : ℕ) → x < n → y < n → get_or (transposed_list n l) (place n x y) 0 ≡ get_or l (place n y x) 0
transposed-at n l x y hx hy =
    transposed-across n l (place n x y) (place-lt n x y hx hy) ∙ ap (λ (k : ℕ). get_or l k 0) (across-place n x y hx)

-- transposed twice it is the list again
pub transposed-twice : (n : ℕ) (l : List ℕ) → length l ≡ n * n → transposed_list n (transposed_list n l) ≡ l
unfolding transposed_list
transposed-twice n l e =
    list_of-ext _ _ (n * n)
    (λ k h. transposed-across n l (across n k) (across_lt n k h) ∙ ap (λ (i : ℕ). get_or l i 0) (across-twice n k h))
    ∙ list_of-own l 0 (n * n) e
