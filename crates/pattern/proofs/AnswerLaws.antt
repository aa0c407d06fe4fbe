-- What follows where no check fails, and that a refusal has a number.
use Prim.Native.Nat.{ℕ, ◌*◌, ◌≤◌}
use mathlib.Core.Bool.{true, or-true}
use mathlib.Core.Logic.{◌⊎◌, inl, inr, ⊎_elim}
use mathlib.Core.Path.{◌≡◌}
use native.Mathlib.Omega.{arith}
use borrow.Author.Tests.{eq-eqb, eqb-true, le-leb, leb-true}
use lib.Dec.{eqb, leb}
use Rattle.arith.proofs.Bools.{both_of, either-of}
use Rattle.arith.proofs.CheckLaws.{passed}
use Rattle.pattern.specs.Size.{greatest_size, size_ok}
use Rattle.pattern.specs.Answer.{count_ok, texture_ok, samples_refusal}
use Rattle.pattern.specs.Refusal.{number_of}
use Rattle.pattern.specs.declared.refusals.Refusal.{Refusal}
use Rattle.pattern.proofs.SizeLaws.{size-bounds}

-- no refusal has the number 0
pub number-some : (f : Refusal) → number_of f ≡ 0 → ⊥
number-some f = grind arith

-- n * n samples of an allowed size
pub record SamplesFit (n samples : ℕ) : Type 0 where
  pub size : size_ok n ≡ true
  pub low : 4 ≤ n
  pub high : n ≤ greatest_size
  pub square : samples ≡ n * n

pub samples-fit : (n samples : ℕ) → samples_refusal n samples ≡ 0 → SamplesFit n samples
unfolding samples_refusal
samples-fit n samples h =
    let p = passed (size_ok n) 0 _ h in
    let q = passed (eqb samples (n * n)) 1 0 p.1 in
    let b = size-bounds n p.0 in
    record { size = p.0; low = b.0; high = b.1; square = eqb-true samples (n * n) q.0 }

-- ---- what texture and count may be

pub texture-is : (texture samples : ℕ) → texture_ok texture samples ≡ true → (texture ≡ 0) ⊎ (texture ≡ samples)
texture-is texture samples h =
    ⊎_elim (λ e. inl (eqb-true texture 0 e)) (λ e. inr (eqb-true texture samples e)) (either-of (eqb texture 0) (eqb texture samples) h)

pub is-texture : (texture samples : ℕ) → (texture ≡ 0) ⊎ (texture ≡ samples) → texture_ok texture samples ≡ true
is-texture texture samples =
    ⊎_elim (λ e. rw (eq-eqb texture 0 e)) (λ e. rw (eq-eqb texture samples e) (or-true (eqb texture 0)))

pub count-is : (patterns count : ℕ) → count_ok patterns count ≡ true → (count ≤ patterns) × (count ≤ 9999)
count-is patterns count h =
    let c = both_of (leb count patterns) (leb count 9999) h in
    (leb-true count patterns c.0, leb-true count 9999 c.1)

pub is-count : (patterns count : ℕ) → count ≤ patterns → count ≤ 9999 → count_ok patterns count ≡ true
is-count patterns count h l = rw (le-leb count patterns h, le-leb count 9999 l)
