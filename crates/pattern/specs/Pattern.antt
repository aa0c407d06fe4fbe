-- A pattern of an n by n block is a natural number: bit y * n + x is the mark of sample (x, y), column and row from 0.
-- Partition 1 is the samples with a mark, partition 0 those without.
use Rattle.std.specs.Prelude.{ℕ, ◌-◌, ◌*◌, ◌/◌, ◌%◌, ◌^◌, Bool}
use Rattle.arith.specs.Bits.{bits, test_bit}
use Rattle.arith.specs.Square.{place}

-- the mark of (x, y)
abbrev pub mark : ℕ → ℕ → ℕ → ℕ → Bool
mark n w x y = test_bit w (place n x y)

-- the pattern that marks (x, y) where the test f x y holds
abbrev pub pattern : ℕ → (ℕ → ℕ → Bool) → ℕ
pattern n f = bits (λ i. f (i % n) (i / n)) (n * n)

-- the complement over the n * n bits
abbrev pub complement : ℕ → ℕ → ℕ
complement n w = 2 ^ (n * n) - 1 - w

-- transposed (document 01: turned): the mark of (x, y) moves to (y, x)
abbrev pub transposed : ℕ → ℕ → ℕ
transposed n w = pattern n (λ x y. mark n w y x)
