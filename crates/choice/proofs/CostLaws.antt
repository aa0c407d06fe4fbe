-- What a partition costs at a depth value: at most 255 a sample, and as much where value and samples are raised.
use Prim.Native.Nat.{ℕ, ◌*◌, ◌≤◌, ◌<◌}
use mathlib.Core.Path.{◌≡◌, ap}
use mathlib.Core.Bool.{Bool, cond}
use mathlib.Core.List.{List}
use native.Mathlib.Omega.{arith}
use lib.ListN.{length, get_or}
use Rattle.arith.specs.Distance.{dist}
use Rattle.arith.proofs.RaisedLaws.{Risen, RisenList, dist-raised}
use Rattle.arith.proofs.Sums.{sum-ext, sum-le, term-le}
use Rattle.choice.specs.Cost.{belongs, side_cost}

-- at most 255 a sample
pub side_cost-le :
    (c : ℕ) (samples : List ℕ) (w : ℕ) (m : Bool) (v : ℕ) → v < 256 → ((k : ℕ) → get_or samples k 0 < 256) → side_cost c samples w m v ≤ c * 255
unfolding side_cost
side_cost-le c samples w m v p q = sum-le _ 255 c (λ k l. let b = q k in term-le (belongs w m k) (dist v (get_or samples k 0)) 255 (omega (arith, b)))

-- as much where one whole number is added to the value and to the samples
pub side-cost-raised :
    {p q : ℕ} (c : ℕ) (samples samples' : List ℕ) (w : ℕ) (m : Bool) (v v' : ℕ) → c ≤ length samples → RisenList p q samples samples'
    → Risen p q v v' → side_cost c samples' w m v' ≡ side_cost c samples w m v
unfolding side_cost
side-cost-raised c samples samples' w m v v' h r e =
    sum-ext _ _ c (λ k l. ap (λ (x : ℕ). cond (belongs w m k) x 0) (dist-raised e (r.each k (omega arith))))
