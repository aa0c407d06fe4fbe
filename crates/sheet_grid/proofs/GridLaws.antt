-- Laws of blocks and where they lie.
use Prim.Native.Nat.{ℕ, suc, ◌+◌, ◌-◌, ◌*◌, ◌/◌, ◌%◌, ◌^◌, ◌≤◌, ◌<◌}
use native.Mathlib.Nat.{mul-le-mul, mul-le-mul_right, suc-mul, mod-lt, div-mul-le_self, div-le_self, div-lt_iff_lt-mul, le-div_iff_mul-le, le-mul_of_pos_right, mul_comm, mul-mul-mul_comm}
use native.Mathlib.Omega.{arith}
use lib.Arith.{digits_lt}
use Rattle.arith.specs.Square.{place}
use Rattle.pattern.specs.Size.{greatest_size}
use Rattle.sheet_grid.specs.Grid.{longest, most_blocks, blocks, block_x, block_y, Inside}

-- a sheet as wide as a block has a block in a row
pub per_pos : (n w : ℕ) → 1 ≤ n → n ≤ w → 0 < w / n
per_pos n w a b = (le-div_iff_mul-le a).1 (omega (arith, suc-mul 0 n))

-- there are no more blocks than samples
pub blocks-few : (n w h : ℕ) → blocks n w h ≤ w * h
blocks-few n w h = mul-le-mul (div-le_self w n) (div-le_self h n)

-- a block has at least 16 samples
pub blocks-by-area : (n w h : ℕ) → 4 ≤ n → blocks n w h * 16 ≤ w * h
blocks-by-area n w h low =
    rw (← (mul-mul-mul_comm (w / n) 4 (h / n) 4)) (mul-le-mul {n₁ = w / n * 4} {m₁ = h / n * 4} {n₂ = w} {m₂ = h} (along w) (along h))
  where
    along : (side : ℕ) → side / n * 4 ≤ side
    along side = omega (arith, div-mul-le_self side n, mul-le-mul {n₁ = side / n} {m₁ = 4} {n₂ = side / n} {m₂ = n} (omega arith) low)

-- there are no more than the greatest sheet has of the least size
pub records-few : (n w h : ℕ) → 4 ≤ n → w ≤ longest → h ≤ longest → blocks n w h ≤ most_blocks
records-few n w h low wide tall =
    omega (arith, blocks-by-area n w h low, mul-le-mul {n₁ = w} {m₁ = h} {n₂ = longest} {m₂ = longest} wide tall)

-- a block ends inside the width
pub across-inside : (n w k : ℕ) → 1 ≤ n → n ≤ w → block_x n w k + n ≤ w
across-inside n w k a b =
    omega (arith, suc-mul (k % (w / n)) n, mul-le-mul_right n (mod-lt k (per_pos n w a b)), div-mul-le_self w n)

-- and inside the height
pub down-inside : (n w h k : ℕ) → 1 ≤ n → n ≤ w → k < blocks n w h → block_y n w k + n ≤ h
down-inside n w h k a b l =
    let q : k / (w / n) < h / n = (div-lt_iff_lt-mul (per_pos n w a b)).1 (rw mul_comm at l) in
    omega (arith, suc-mul (k / (w / n)) n, mul-le-mul_right n q, div-mul-le_self h n)

-- block k lies inside the sheet
pub block_inside : (n w h k : ℕ) → 1 ≤ n → n ≤ greatest_size → n ≤ w → k < blocks n w h → Inside n w (w * h) (block_x n w k) (block_y n w k)
block_inside n w h k a g b l =
    record {
      some = a;
      high = g;
      across = across-inside n w k a b;
      down = omega (arith, mul-le-mul_right w (down-inside n w h k a b l), mul_comm w h);
    }

-- a place in a column of the sheet and in a row of the block is one of the sheet's samples
pub place_in : {n w samples x y : ℕ} (c r : ℕ) → Inside n w samples x y → c < w → r < y + n → place w c r < samples
place_in {n} {w} {samples} {x} {y} c r p hc hr =
    omega (arith, digits_lt {q = r} {m = suc r} {r = c} {c = w} (omega arith) hc, mul-le-mul_right w hr, p.down)

-- a sample of the block is one of the sheet's
pub sample_in : {n w samples x y : ℕ} (i r : ℕ) → Inside n w samples x y → i < n → r < n → place w (x + i) (y + r) < samples
sample_in {n} {w} {samples} {x} {y} i r p hi hr =
    place_in (x + i) (y + r) p (omega (arith, p.across)) (omega arith)

-- a row of it ends among the sheet's samples
pub row_in : {n w samples x y : ℕ} (r : ℕ) → Inside n w samples x y → r < n → place w x (y + r) + n ≤ samples
row_in {n} r p hr = omega (arith, sample_in (n - 1) r p (omega (arith, p.some)) hr, p.some)

-- the sheet has at least as many samples as the block's last row is far down
pub rows_few : {n w samples x y : ℕ} → Inside n w samples x y → y + n ≤ samples
rows_few {n} {w} {samples} {x} {y} p =
    omega (arith, le-mul_of_pos_right {m = w} (y + n) (omega (arith, p.some, p.across)), p.down)

-- and at least as many as the block
pub block-few : {n w samples x y : ℕ} → Inside n w samples x y → n * n ≤ samples
block-few {n} {w} {samples} {x} {y} p =
    omega (arith, mul-le-mul {n₁ = n} {m₁ = n} {n₂ = y + n} {m₂ = w} (omega arith) (omega (arith, p.across)), p.down)

-- ---- what 64 bits hold

-- the product of two numbers of 32 bits
pub area-fits : {a b : ℕ} → a < 2 ^ 32 → b < 2 ^ 32 → a * b < 2 ^ 64
area-fits {a} {b} ha hb =
    let l : a * b ≤ (2 ^ 32 - 1) * (2 ^ 32 - 1) = mul-le-mul {n₁ = a} {m₁ = b} {n₂ = 2 ^ 32 - 1} {m₂ = 2 ^ 32 - 1} (omega arith) (omega arith) in
    omega arith
