-- An array of m places that holds a list, and 0 past it.
use Prim.Native.Nat.{ℕ, ◌≤◌, ◌<◌}
use mathlib.Core.List.{List}
use mathlib.Core.Path.{◌≡◌, sym, ◌∙◌}
use native.Mathlib.Omega.{arith}
use lib.ListN.{length, get_or, take}
use lib.Seq.{length-take-le, get_or-take, ext_get_or}
use Rattle.arith.specs.Lists.{list_of, upto}
use Rattle.sheet_grid.specs.Samples.{filled}
use Rattle.arith.proofs.ListLaws.{list_of-at, length-upto, upto-at, upto-ext}

-- a loop that stores f i at each place i below n fills it
pub filled-by : (m k n : ℕ) (f : ℕ → ℕ) {r : List ℕ} → r ≡ upto m k f 0 → k ≡ n → r ≡ filled m n (list_of f n)
filled-by m k n f e q =
    rw (e, q) (upto-ext m n f (λ i. get_or (list_of f n) i 0) 0 (λ i l. sym (list_of-at f 0 n i l)))

-- its first places are the list
pub take-filled : (m k : ℕ) (l : List ℕ) → length l ≡ k → k ≤ m → take k (filled m k l) ≡ l
take-filled m k l e h =
    let c = length-take-le k (filled m k l) (omega (arith, length-upto m k (λ i. get_or l i 0) 0)) in
    ext_get_or 0 (take k (filled m k l)) l (c ∙ sym e)
    (λ i b.
    let j : i < k = omega arith in
    get_or-take k (filled m k l) i 0 j ∙ upto-at m k (λ i. get_or l i 0) 0 0 i h j)
