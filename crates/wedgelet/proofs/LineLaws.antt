-- The line rule over whole numbers is a test of three products on each side, over natural numbers.
use Prim.Native.Nat.{ℕ, ◌+◌, ◌*◌, ◌≤◌, ◌<◌}
use mathlib.Core.Logic.{◌⊎◌, ⊎_elim, inl, inr}
use mathlib.Core.Path.{◌≡◌, sym, ap₂, ◌∙◌}
use native.Mathlib.Nat.{mul_comm}
use native.Mathlib.Decide.{dec_le}
use native.Mathlib.Omega.{arith}
use borrow.Author.Tests.{lt-ltb, le-ltb}
use lib.Dec.{ltb}
use lib.IntN.{pos, neg_ℤ, ◌-ℤ◌, ◌*ℤ◌}
use Rattle.arith.proofs.WholeLaws.{Is, is-minus, is-neg, is-add, is_mul, is_positive}
use Rattle.wedgelet.specs.Wedgelet.{beside}

-- of two numbers the first is not greater, or the second is less
pub le-or-lt : (a b : ℕ) → (a ≤ b) ⊎ (b < a)
le-or-lt a b = elim (dec_le a b) [ yes h ↦ inl h | no h ↦ inr (omega arith) ]

-- the product that both sides have falls out
ltb-add : (a b c : ℕ) → ltb (a + c) (b + c) ≡ ltb a b
ltb-add a b c =
    ⊎_elim
    (λ (h : b ≤ a). le-ltb (a + c) (b + c) (omega arith) ∙ sym (le-ltb a b h))
    (λ (h : a < b). lt-ltb (a + c) (b + c) (omega arith) ∙ sym (lt-ltb a b h))
    (le-or-lt b a)

-- (xe - xs)(y - ys) - (ye - ys)(x - xs) > 0, multiplied out, with the negative products on the left
pub beside-products : (xs ys xe ye x y : ℕ) → beside xs ys xe ye x y ≡ ltb (ys * xe + ye * x + y * xs) (xs * ye + xe * y + x * ys)
beside-products xs ys xe ye x y =
    let u = (pos xe -ℤ pos xs) *ℤ (pos y -ℤ pos ys) in
    let v = (pos ye -ℤ pos ys) *ℤ (pos x -ℤ pos xs) in
    let p : Is u (xe * y + xs * ys) (xe * ys + xs * y) = is_mul (pos xe -ℤ pos xs) (pos y -ℤ pos ys) xe xs y ys (is-minus xe xs) (is-minus y ys) in
    let q : Is v (ye * x + ys * xs) (ye * xs + ys * x) = is_mul (pos ye -ℤ pos ys) (pos x -ℤ pos xs) ye ys x xs (is-minus ye ys) (is-minus x xs) in
    let a = (xe * y + xs * ys) + (ye * xs + ys * x) in
    let b = (xe * ys + xs * y) + (ye * x + ys * xs) in
    let left : b ≡ (ys * xe + ye * x + y * xs) + xs * ys = omega (arith, mul_comm ys xe, mul_comm y xs, mul_comm ys xs) in
    let right : a ≡ (xs * ye + xe * y + x * ys) + xs * ys = omega (arith, mul_comm xs ye, mul_comm x ys) in
    is_positive (u -ℤ v) a b
    (is-add u (neg_ℤ v) (xe * y + xs * ys) (xe * ys + xs * y) (ye * xs + ys * x) (ye * x + ys * xs) p (is-neg v (ye * x + ys * xs) (ye * xs + ys * x) q))
    ∙ ap₂ ltb left right
    ∙ ltb-add (ys * xe + ye * x + y * xs) (xs * ye + xe * y + x * ys) (xs * ys)

-- both points transposed, and start and end changed over: the same side
pub beside-transposed : (xs ys xe ye x y : ℕ) → beside ye xe ys xs x y ≡ beside xs ys xe ye y x
beside-transposed xs ys xe ye x y =
    let l : xe * ys + xs * x + y * ye ≡ ys * xe + ye * y + x * xs = omega (arith, mul_comm xe ys, mul_comm xs x, mul_comm y ye) in
    let r : ye * xs + ys * y + x * xe ≡ xs * ye + xe * x + y * ys = omega (arith, mul_comm ye xs, mul_comm ys y, mul_comm x xe) in
    beside-products ye xe ys xs x y ∙ ap₂ ltb l r ∙ sym (beside-products xs ys xe ye y x)
