-- One side of a line: its sums, row by row, and the side that does not hold (0,0).
use Prim.Native.Nat.{ℕ, zero, suc, ◌+◌, ◌-◌, ◌*◌, ◌/◌, ◌%◌, ◌^◌, ◌≤◌, ◌<◌, min}
use mathlib.Core.Bool.{Bool, true, false, not}
use mathlib.Core.List.{map}
use Rattle.std.specs.List.{sum, range_with_len}
use Rattle.std.proofs.lemmas.List.FromFn.{sum_by-map-range_with_len_more}
use native.Mathlib.Numerals.{add-one}
use mathlib.Core.Path.{◌≡◌, refl, sym, ap, ap₂, ◌∙◌, subst}
use native.Mathlib.Nat.{zero-mul, mul-add, mul-one, mul_comm, add-mul, mul-le-mul, mul-le-mul_right, suc-mul, one-mul, lt_of_lt_of_le, add-sub_of_le, le-div_iff_mul-le, div-lt_iff_lt-mul}
use native.Mathlib.Decide.{dec_le}
use native.Mathlib.Omega.{arith}
use borrow.Author.Tests.{lt-ltb, le-ltb}
use lib.Arith.{digits_div, digits_mod}
use lib.Dec.{ltb}
use lib.Pow.{pow_pos, pow_mono, shl_exact}
use Rattle.arith.specs.Bits.{bits}
use Rattle.arith.proofs.BitLaws.{bits-lt, bits-ext, bits-append, bits_none, bits-all, run-front, run-back}
use Rattle.pattern.specs.Size.{greatest_size, greatest_samples}
use Rattle.pattern.specs.Pattern.{pattern}
use Rattle.pattern.specs.Words.{four_words}
use Rattle.pattern.proofs.WordLaws.{four_same, four-bits}
use Rattle.wedgelet.specs.declared.half.Half.{Half}
use Rattle.wedgelet.specs.Wedgelet.{beside}
use Rattle.wedgelet.specs.Half.{in_half, flip}
use Rattle.wedgelet.proofs.LineLaws.{beside-products}

-- ---- sums that are stepped

-- one step more
pub sum_step : (a b k : ℕ) {v : ℕ} → v ≡ a + b * k → v + b ≡ a + b * (k + 1)
sum_step a b k {v} e = omega (arith, e, mul-add b k 1, mul-one b)

-- a sum of small steps is small
pub sum_small : (a b k : ℕ) {v : ℕ} → b < 16 → k ≤ 16 → v ≡ a + b * k → v ≤ a + 256
sum_small a b k {v} hb hk e = let l : b * k ≤ 16 * 16 = mul-le-mul {n₂ = 16} {m₂ = 16} (omega arith) hk in omega (arith, e)

-- ---- where one sum catches the other up: a is the low sum at column 0, p what a column adds to it; b and q those of the high sum

-- the sums' distance after x columns
apart : (p q x : ℕ) → p ≤ q → q * x ≡ p * x + (q - p) * x
apart p q x h = ap (λ (y : ℕ). y * x) (sym (add-sub_of_le h)) ∙ add-mul p (q - p) x

module _ (a p b q n : ℕ) where
  -- the test of a column
  abbrev pub below : ℕ → Bool
  below x = ltb (a + p * x) (b + q * x)

  pub row-none : b ≤ a → q ≤ p → 0 ≡ bits below n
  row-none h l =
      sym
      (bits-ext below (λ _. false) n (λ x _. le-ltb (a + p * x) (b + q * x) (let m : q * x ≤ p * x = mul-le-mul_right x l in omega arith))
      ∙ bits_none n)

  pub row-all : a < b → p ≤ q → 2 ^ n - 1 ≡ bits below n
  row-all h l =
      sym
      (bits-ext below (λ _. true) n (λ x _. lt-ltb (a + p * x) (b + q * x) (let m : p * x ≤ q * x = mul-le-mul_right x l in omega arith))
      ∙ bits-all n)

  pub row_back : b ≤ a → p < q → (from : ℕ) → from ≡ min ((a - b) / (q - p)) n → 2 ^ n - 2 ^ min (from + 1) n ≡ bits below n
  row_back h l from e =
      let s = q - p in
      let d = a - b in
      let pos : 0 < s = omega arith in
      sym
      (run-back below (min (from + 1) n) n (omega arith)
      (λ x u.
      let c : x ≤ d / s = omega arith in
      let m : x * s ≤ d = (le-div_iff_mul-le pos).0 c in
      le-ltb (a + p * x) (b + q * x) (omega (arith, apart p q x (omega arith), mul_comm x s)))
      (λ x u v.
      let c : d / s < x = omega arith in
      let m : d < x * s = (div-lt_iff_lt-mul pos).0 c in
      lt-ltb (a + p * x) (b + q * x) (omega (arith, apart p q x (omega arith), mul_comm x s))))

  -- the same from the marks of the columns, all and up to t
  pub row-past :
      {t u v w : ℕ} → b ≤ a → p < q → t ≡ (a - b) / (q - p) → u ≡ 2 ^ n - 1 → v ≡ min (t + 1) n → w ≡ 2 ^ v - 1 → u - w ≡ bits below n
  row-past {t} {u} {v} {w} h l et eu ev ew =
      let past : v ≡ min (min t n + 1) n = omega arith in
      let whole : u - w ≡ 2 ^ n - 2 ^ v = omega (arith, pow_pos n, pow_pos v) in
      whole ∙ ap (λ (x : ℕ). 2 ^ n - 2 ^ x) past ∙ row_back h l (min t n) (ap (λ (x : ℕ). min x n) et)

  pub row-front : {r t v : ℕ} → a < b → q < p → t ≡ (b - a - 1) / (p - q) → v ≡ min (t + 1) n → r ≡ 2 ^ v - 1 → r ≡ bits below n
  row-front h l et ev er =
      let s = p - q in
      let d = b - a - 1 in
      let pos : 0 < s = omega arith in
      er
      ∙ ap (λ (x : ℕ). 2 ^ x - 1) (ev ∙ ap (λ (x : ℕ). min (x + 1) n) et)
      ∙ sym
      (run-front below (min (d / s + 1) n) n (omega arith)
      (λ x u.
      let c : x ≤ d / s = omega arith in
      let m : x * s ≤ d = (le-div_iff_mul-le pos).0 c in
      lt-ltb (a + p * x) (b + q * x) (omega (arith, apart q p x (omega arith), mul_comm x s)))
      (λ x u v.
      let c : d / s < x = omega arith in
      let m : d < x * s = (div-lt_iff_lt-mul pos).0 c in
      le-ltb (a + p * x) (b + q * x) (omega (arith, apart q p x (omega arith), mul_comm x s))))

-- ---- sums, row by row

-- one row more
pub row_step : (a b from k : ℕ) {v : ℕ} → v ≡ a + b * (from + k) → v + b ≡ a + b * (from + (k + 1))
row_step a b from k e =
    sum_step a b (from + k) e ∙ ap (λ (x : ℕ). a + b * x) (let q : from + k + 1 ≡ from + (k + 1) = omega arith in q)

-- a row more has room in a word
pub row_room : (k n count : ℕ) → k < count → count * n ≤ 64 → k * n + n ≤ 64
row_room k n count h l = omega (arith, suc-mul k n, mul-le-mul_right n h)

-- ---- rows of a pattern

module _ (h : Half) (n from : ℕ) where
  -- the test at a place of the rows from `from` on
  abbrev pub at_row : ℕ → Bool
  at_row i = in_half h (i % n) (from + i / n)

  -- one row more
  pub row_more :
      (k : ℕ) {w r : ℕ} → 1 ≤ n → k * n + n ≤ 64 → w ≡ bits at_row (k * n) → r ≡ bits (λ x. in_half h x (from + k)) n
      → w + r * 2 ^ (k * n) % 2 ^ 64 ≡ bits at_row ((k + 1) * n)
  row_more k {w} {r} hn le ew er =
      let next : (k + 1) * n ≡ k * n + n = omega (arith, add-mul k 1 n, one-mul n) in
      let small : r < 2 ^ n = rw er (bits-lt _ n) in
      let same : r ≡ bits (λ j. at_row (k * n + j)) n =
      er ∙ bits-ext _ _ n (λ j l. sym (ap₂ (λ (x y : ℕ). in_half h x (from + y)) (digits_mod k l) (digits_div k l))) in
      ap (λ (x : ℕ). w + x) (shl_exact n (k * n) 64 small (omega arith))
      ∙ ap₂ (λ (x y : ℕ). x + y * 2 ^ (k * n)) ew same
      ∙ (let e : bits at_row (k * n) + bits (λ j. at_row (k * n + j)) n * 2 ^ (k * n) ≡ bits at_row (k * n + n) = omega (arith, bits-append at_row (k * n) n) in e)
      ∙ ap (bits at_row) (sym next)

  pub row_fits :
      (k : ℕ) {w r : ℕ} → 1 ≤ n → k * n + n ≤ 64 → w ≡ bits at_row (k * n) → r ≡ bits (λ x. in_half h x (from + k)) n
      → w + r * 2 ^ (k * n) % 2 ^ 64 < 2 ^ 64
  row_fits k hn le ew er =
      let next : (k + 1) * n ≤ 64 = omega (arith, add-mul k 1 n, one-mul n) in
      rw (row_more k hn le ew er) (lt_of_lt_of_le (bits-lt at_row ((k + 1) * n)) (pow_mono next))

  -- what row k adds to a word
  abbrev pub row_word : ℕ → ℕ
  row_word k = bits (λ x. in_half h x (from + k)) n * 2 ^ (k * n) % 2 ^ 64

  -- the rows of a word, summed
  pub rows_sum : (count : ℕ) → 1 ≤ n → count * n ≤ 64 → sum (map row_word (range_with_len 0 count)) ≡ bits at_row (count * n)
  unfolding bits
  rows_sum zero hn le = sym (ap (bits at_row) (zero-mul n))
  rows_sum (suc k) hn le =
      let room : k * n + n ≤ 64 = omega (arith, suc-mul k n) in
      ap (λ (m : ℕ). sum (map row_word (range_with_len 0 m))) (sym (add-one k))
      ∙ sum_by-map-range_with_len_more (λ w. w) row_word 0 k k (omega arith)
      ∙ row_more k hn room (rows_sum k hn (omega arith)) refl
      ∙ ap (λ (m : ℕ). bits at_row (m * n)) (add-one k)

-- a row, from its sums
pub row_of :
    (h : Half) (n y : ℕ) {low high r : ℕ} → low ≡ h.low.base + h.low.row * y → high ≡ h.high.base + h.high.row * y
    → r ≡ bits (λ x. ltb (low + h.low.column * x) (high + h.high.column * x)) n → r ≡ bits (λ x. in_half h x y) n
row_of h n y p q e = e ∙ ap₂ (λ (a b : ℕ). bits (λ x. ltb (a + h.low.column * x) (b + h.high.column * x)) n) p q

-- ---- the words of a pattern

-- the rows from 0 on
rows-first : (h : Half) (n m : ℕ) → bits (λ i. in_half h (i % n) (0 + i / n)) m ≡ bits (λ i. in_half h (i % n) (i / n)) m
rows-first h n m = bits-ext _ _ m (λ i _. ap (in_half h (i % n)) (let e : 0 + i / n ≡ i / n = omega arith in e))

pub half-narrow : (h : Half) (n : ℕ) {w : ℕ} → w ≡ bits (λ i. in_half h (i % n) (0 + i / n)) (n * n) → w ≡ pattern n (in_half h)
half-narrow h n e = e ∙ rows-first h n (n * n)

-- four rows of 16 samples to a word
abbrev WideWords : Half → ℕ → Type 0
WideWords h n =
    (a b c d : ℕ)
    → a ≡ bits (λ i. in_half h (i % n) (0 + i / n)) (4 * n) → b ≡ bits (λ i. in_half h (i % n) (4 + i / n)) (4 * n)
    → c ≡ bits (λ i. in_half h (i % n) (8 + i / n)) (4 * n) → d ≡ bits (λ i. in_half h (i % n) (12 + i / n)) (4 * n)
    → four_words a b c d ≡ pattern n (in_half h)

wide-16 : (h : Half) → WideWords h 16
wide-16 h a b c d p q r u =
    four_same
    (p ∙ rows-first h 16 64)
    (q ∙ bits-ext _ _ 64 (λ i _. ap₂ (in_half h) (let e : i % 16 ≡ (64 + i) % 16 = omega arith in e) (let e : 4 + i / 16 ≡ (64 + i) / 16 = omega arith in e)))
    (r ∙ bits-ext _ _ 64 (λ i _. ap₂ (in_half h) (let e : i % 16 ≡ (128 + i) % 16 = omega arith in e) (let e : 8 + i / 16 ≡ (128 + i) / 16 = omega arith in e)))
    (u ∙ bits-ext _ _ 64 (λ i _. ap₂ (in_half h) (let e : i % 16 ≡ (192 + i) % 16 = omega arith in e) (let e : 12 + i / 16 ≡ (192 + i) / 16 = omega arith in e)))
    ∙ sym (four-bits (λ i. in_half h (i % 16) (i / 16)))

pub half-wide :
    (h : Half) (n : ℕ) {a b c d : ℕ} → n ≡ 16
    → a ≡ bits (λ i. in_half h (i % n) (0 + i / n)) (4 * n) → b ≡ bits (λ i. in_half h (i % n) (4 + i / n)) (4 * n)
    → c ≡ bits (λ i. in_half h (i % n) (8 + i / n)) (4 * n) → d ≡ bits (λ i. in_half h (i % n) (12 + i / n)) (4 * n)
    → four_words a b c d ≡ pattern n (in_half h)
half-wide h n {a} {b} {c} {d} s = subst (WideWords h) (sym s) (wide-16 h) a b c d

-- ---- the side that does not hold (0,0)

not-below : (a b : ℕ) → not (ltb a b) ≡ ltb b (a + 1)
not-below a b = go (dec_le b a)
  where
    go : Dec (b ≤ a) → not (ltb a b) ≡ ltb b (a + 1)
    go (yes l) = ap not (le-ltb a b l) ∙ sym (lt-ltb b (a + 1) (omega arith))
    go (no l) = ap not (lt-ltb a b (omega arith)) ∙ sym (le-ltb b (a + 1) (omega arith))

module _ (xs ys xe ye : ℕ) where
  -- the line rule at (0,0)
  origin : beside xs ys xe ye 0 0 ≡ ltb (ys * xe) (xs * ye)
  origin =
      let l : ys * xe + ye * 0 + 0 * xs ≡ ys * xe = omega arith in
      let r : xs * ye + xe * 0 + 0 * ys ≡ xs * ye = omega arith in
      beside-products xs ys xe ye 0 0 ∙ ap₂ ltb l r

  -- (0,0) is not beside the line
  pub half_beside :
      (x y : ℕ) → xs * ye ≤ ys * xe
      → ltb (ys * xe + xs * y + ye * x) (xs * ye + xe * y + ys * x) ≡ flip (beside xs ys xe ye 0 0) (beside xs ys xe ye x y)
  unfolding flip
  half_beside x y h =
      let l : ys * xe + ye * x + y * xs ≡ ys * xe + xs * y + ye * x = omega (arith, mul_comm y xs) in
      let r : xs * ye + xe * y + x * ys ≡ xs * ye + xe * y + ys * x = omega (arith, mul_comm x ys) in
      sym
      (ap (λ (b : Bool). flip b (beside xs ys xe ye x y)) (origin ∙ le-ltb (ys * xe) (xs * ye) h)
      ∙ beside-products xs ys xe ye x y ∙ ap₂ ltb l r)

  -- it is
  pub half_other :
      (x y : ℕ) → ys * xe < xs * ye
      → ltb (xs * ye + xe * y + ys * x) (ys * xe + 1 + xs * y + ye * x) ≡ flip (beside xs ys xe ye 0 0) (beside xs ys xe ye x y)
  unfolding flip
  half_other x y h =
      let l : xs * ye + xe * y + x * ys ≡ xs * ye + xe * y + ys * x = omega (arith, mul_comm x ys) in
      let r : ys * xe + ye * x + y * xs + 1 ≡ ys * xe + 1 + xs * y + ye * x = omega (arith, mul_comm y xs) in
      sym
      (ap (λ (b : Bool). flip b (beside xs ys xe ye x y)) (origin ∙ lt-ltb (ys * xe) (xs * ye) h)
      ∙ ap not (beside-products xs ys xe ye x y)
      ∙ not-below (ys * xe + ye * x + y * xs) (xs * ye + xe * y + x * ys)
      ∙ ap₂ ltb l r)

-- a product of two coordinates is at most 225
product-small : (a b : ℕ) → a < greatest_size → b < greatest_size → a * b ≤ 15 * 15
product-small a b h l = mul-le-mul {n₂ = 15} {m₂ = 15} (omega arith) (omega arith)

-- the half that does not hold (0,0), and the one that does: both are small, and their marks are those of the line, inverted where it marks (0,0)
pub half_other_made :
    (xs ys xe ye : ℕ) → xs < greatest_size → ys < greatest_size → xe < greatest_size → ye < greatest_size → ys * xe < xs * ye
    → (l : (xs * ye ≤ greatest_samples) × (ys < greatest_size) × (xe < greatest_size))
    × (h : (ys * xe + 1 ≤ greatest_samples) × (ye < greatest_size) × (xs < greatest_size))
    × ((x y : ℕ)
    → in_half
    (record {
      low = record { base = xs * ye; column = ys; row = xe; small = l };
      high = record { base = ys * xe + 1; column = ye; row = xs; small = h };
    })
    x y
    ≡ flip (beside xs ys xe ye 0 0) (beside xs ys xe ye x y))
half_other_made xs ys xe ye a b c d h =
    let u = product-small xs ye a d in
    let v = product-small ys xe b c in
    ((omega arith, b, c), (omega arith, d, a), λ x y. half_other xs ys xe ye x y h)

pub half_beside_made :
    (xs ys xe ye : ℕ) → xs < greatest_size → ys < greatest_size → xe < greatest_size → ye < greatest_size → xs * ye ≤ ys * xe
    → (l : (ys * xe ≤ greatest_samples) × (ye < greatest_size) × (xs < greatest_size))
    × (h : (xs * ye ≤ greatest_samples) × (ys < greatest_size) × (xe < greatest_size))
    × ((x y : ℕ)
    → in_half
    (record {
      low = record { base = ys * xe; column = ye; row = xs; small = l };
      high = record { base = xs * ye; column = ys; row = xe; small = h };
    })
    x y
    ≡ flip (beside xs ys xe ye 0 0) (beside xs ys xe ye x y))
half_beside_made xs ys xe ye a b c d h =
    let u = product-small xs ye a d in
    let v = product-small ys xe b c in
    ((omega arith, d, a), (omega arith, b, c), λ x y. half_beside xs ys xe ye x y h)
