-- Which block holds a sample, and that it comes before the block for which the sample is present.
use Prim.Native.Nat.{ℕ, zero, suc, ◌+◌, ◌-◌, ◌*◌, ◌/◌, ◌%◌, ◌≤◌, ◌<◌}
use mathlib.Core.Bool.{true}
use mathlib.Core.Path.{◌≡◌, ap, ◌∙◌}
use native.Mathlib.Nat.{suc-mul, div-add-mod'}
use native.Mathlib.Omega.{arith}
use borrow.Author.Tests.{ltb-true}
use lib.Arith.{digits_div}
use Rattle.sheet_grid.specs.Grid.{block_x, block_y, block_at}
use Rattle.arith.proofs.Bools.{both_of}
use Rattle.sheet_grid.specs.Neighbours.{placed_before}

-- ---- along one side, in blocks of n

-- sample i from the first of block q on, in that block and in the next one
pub in_block : (n q i : ℕ) → i < n → (q * n + i) / n ≡ q
in_block n q i h = digits_div q {m = n} {r = i} h

pub in-next : (n q i : ℕ) → n ≤ i → i < 2 * n → (q * n + i) / n ≡ suc q
in-next n q i l h =
    let e : q * n + i ≡ suc q * n + (i - n) = omega (arith, suc-mul q n) in
    ap (λ (v : ℕ). v / n) e ∙ digits_div (suc q) {m = n} {r = i - n} (omega arith)

-- the first sample of block q
pub at_first : (n q : ℕ) → 1 ≤ n → q * n / n ≡ q
at_first n q some =
    let e : q * n ≡ q * n + 0 = omega arith in
    ap (λ (v : ℕ). v / n) e ∙ in_block n q 0 some

-- the sample before it
pub before-first : (n q : ℕ) → 1 ≤ n → 1 ≤ q → (q * n - 1) / n ≡ q - 1
before-first n zero some h = absurd (omega arith)
before-first n (suc q) some h =
    let e : suc q * n - 1 ≡ q * n + (n - 1) = omega (arith, suc-mul q n) in
    ap (λ (v : ℕ). v / n) e ∙ in_block n q (n - 1) (omega arith) ∙ omega arith

-- a product that is not 0 has no factor 0
pub factor-pos : (q n : ℕ) → 0 < q * n → 1 ≤ q
factor-pos zero n h = absurd (omega arith)
factor-pos (suc q) n h = omega arith

-- ---- on the sheet

-- block k holds its first sample
pub number-at : (n w k : ℕ) → 1 ≤ n → block_at n w (block_x n w k) (block_y n w k) ≡ k
number-at n w k some = rw (at_first n (k % (w / n)) some, at_first n (k / (w / n)) some) (div-add-mod' k (w / n))

-- what is present for block k lies in a block of the sheet before block k
pub present-before :
    (n w k c r : ℕ) → 1 ≤ n → placed_before n w (block_x n w k) (block_y n w k) c r ≡ true → (c / n < w / n) × (block_at n w c r < k)
present-before n w k c r some e =
    let p = both_of _ _ e in
    (ltb-true _ _ p.0, omega (arith, ltb-true (block_at n w c r) _ p.1, number-at n w k some))
