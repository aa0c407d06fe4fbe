-- What an allowed side is.
use Prim.Native.Nat.{ℕ, ◌*◌, ◌/◌, ◌%◌, ◌≤◌}
use mathlib.Core.Bool.{true}
use mathlib.Core.Path.{◌≡◌}
use native.Mathlib.Nat.{div-add-mod'}
use native.Mathlib.Omega.{arith}
use borrow.Author.Tests.{eqb-true, leb-true}
use lib.Dec.{eqb, leb}
use Rattle.arith.proofs.Bools.{both_of}
use Rattle.sheet_grid.specs.Grid.{longest, side_ok}

-- an allowed side is n to 128
pub side-bounds : (n side : ℕ) → side_ok n side ≡ true → (n ≤ side) × (side ≤ longest)
side-bounds n side h =
    let a = both_of (leb n side) _ h in
    let b = both_of (leb side longest) (eqb (side % n) 0) a.1 in
    (leb-true n side a.0, leb-true side longest b.0)

-- and a multiple of n
pub multiple : (n side : ℕ) → side_ok n side ≡ true → side / n * n ≡ side
multiple n side h =
    let a = both_of (leb n side) _ h in
    let b = both_of (leb side longest) (eqb (side % n) 0) a.1 in
    omega (arith, div-add-mod' side n, eqb-true (side % n) 0 b.1)
