-- What a call's result is, where its answer is known.
use Prim.Native.Nat.{ℕ, ◌≤◌, ◌<◌}
use mathlib.Core.Bool.{Bool, true, false, cond, false≢true}
use mathlib.Core.Logic.{◌⊎◌, inl, inr}
use native.Mathlib.Decide.{dec_lt}
use native.Mathlib.Omega.{arith}
use lib.Dec.{eqb}
use borrow.Author.Tests.{lt-ltb, le-ltb}
use Rattle.std.specs.Ordering.{is_lt, nat_cmp, ord_min, on}
use Rattle.std.proofs.Common.{Less, Equal, Greater}
use mathlib.Core.Path.{◌≡◌, refl, ap, sym, ◌∙◌}
use Rattle.std.specs.Prelude.{Result, Ok, Err}
use Rattle.std.specs.Result.{IsOk, MatchResult}
use Rattle.arith.specs.Checks.{given}
use Rattle.arith.proofs.CheckLaws.{given-same, given-never}
use Rattle.pattern.specs.Refusal.{told, IsSizeRefusal}
use Rattle.pattern.specs.Size.{size_ok}
use Rattle.pattern.specs.declared.refusals.Refusal.{Refusal}
use Rattle.pattern.specs.declared.size.Size.{Size}

module _ {A B : Type 0} (f : A → B) where
  -- what was given is there
  pub told-ok : (r : Result A Refusal) {b : B} → told f r ≡ given b → IsOk r
  told-ok (Ok a) e = refl
  told-ok (Err r) e = given-never e

  -- and is the value
  pub told-value : (r : Result A Refusal) {a : A} {b : B} → told f r ≡ given b → r ≡ Ok a → f a ≡ b
  told-value r e o = given-same (ap (told f) (sym o) ∙ e)

-- an allowed size is given, and has the number
pub size-given : (n : ℕ) (r : Result Size Refusal) → MatchResult r (λ (s : Size). s.n ≡ n) (IsSizeRefusal n) → size_ok n ≡ true → IsOk r
size-given n (Ok s) e k = refl
size-given n (Err r) e k = absurd (false≢true (sym e.0 ∙ k))

pub size-number :
    (n : ℕ) (r : Result Size Refusal) {s : Size} → MatchResult r (λ (s : Size). s.n ≡ n) (IsSizeRefusal n) → r ≡ Ok s → s.n ≡ n
size-number n r e o = rw o at e

not-less : (b : Bool) → is_lt (cond b Equal Greater) ≡ false
not-less true = refl
not-less false = refl

-- the one of two with the smaller key, the first where they are equal
pub smaller-by :
    {X : Type 0} (key : X → ℕ) (a b : X) {t : X} → t ≡ ord_min (on key nat_cmp) a b
    → ((key b < key a) × (t ≡ b)) ⊎ ((key a ≤ key b) × (t ≡ a))
smaller-by {X} key a b {t} e = go (dec_lt (key b) (key a))
  where
    go : Dec (key b < key a) → ((key b < key a) × (t ≡ b)) ⊎ ((key a ≤ key b) × (t ≡ a))
    go (yes l) = inl (l, e ∙ ap (λ (d : Bool). cond (is_lt (cond d Less (cond (eqb (key b) (key a)) Equal Greater))) b a) (lt-ltb (key b) (key a) l))
    go (no l) =
        inr (
          omega arith,
          e
              ∙ ap (λ (d : Bool). cond (is_lt (cond d Less (cond (eqb (key b) (key a)) Equal Greater))) b a) (le-ltb (key b) (key a) (omega arith))
              ∙ ap (λ (d : Bool). cond d b a) (not-less (eqb (key b) (key a))),
        )
