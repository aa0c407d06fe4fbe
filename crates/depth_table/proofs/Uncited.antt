-- Laws that no proof cites: docs/PORT.md and docs/DESIGN-PASS.md name them.
use Prim.Native.Nat.{ℕ, suc, ◌+◌, ◌-◌, min}
use mathlib.Core.Path.{◌≡◌, refl, ap, ◌∙◌}
use mathlib.Core.List.{List}
use mathlib.Core.Bool.{true, false}
use native.Mathlib.Omega.{arith}
use lib.ListN.{length}
use lib.IntN.{ℤ, pos, negsuc, nat_abs, ◌-ℤ◌}
use lib.Signed.{mag, lt_z}
use borrow.Author.Tests.{le-ltb, ltb-true}
use Rattle.arith.specs.Distance.{clamped}
use Rattle.arith.proofs.Bools.{clash}
use Rattle.depth_table.specs.Table.{nearest_to, index_of}

-- a negative offset is -(mag z + 1)
pub minus-at : (z : ℤ) → lt_z z (pos 0) ≡ true → negsuc 0 -ℤ z ≡ pos (mag z)
minus-at (pos k) h = absurd (omega (arith, ltb-true k 0 h))
minus-at (negsuc k) h = rw (le-ltb (suc k) 1 (omega arith)) (let q : suc k - 1 ≡ k = omega arith in ap pos q)

pub below_at : (z : ℤ) → lt_z z (pos 0) ≡ true → mag z + 1 ≡ nat_abs z
below_at (pos k) h = absurd (omega (arith, ltb-true k 0 h))
below_at (negsuc k) h = omega arith

-- another one is added, and the sum clamped
pub up_at : (count i : ℕ) (z : ℤ) → lt_z z (pos 0) ≡ false → clamped count i z ≡ min (i + nat_abs z) (count - 1)
unfolding clamped
up_at count i (pos k) h = refl
up_at count i (negsuc k) h = clash h

pub minus_is : {z b : ℤ} → b ≡ z → lt_z b (pos 0) ≡ true → negsuc 0 -ℤ b ≡ pos (mag z)
minus_is {z} e h = rw e (minus-at z (rw e at h))

-- the index after the last value
pub nearest-end : (t : List ℕ) (d k r : ℕ) → r ≡ nearest_to t d k → k ≡ length t - 1 → r ≡ index_of t d
unfolding index_of
nearest-end t d k r e q = e ∙ ap (nearest_to t d) q
