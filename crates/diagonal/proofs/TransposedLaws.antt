-- The transposed case: it is accepted, and transposed twice it is the case again.
use Prim.Native.Nat.{ℕ, ◌*◌, ◌≤◌, ◌<◌}
use mathlib.Core.Path.{◌≡◌, refl, sym, ◌∙◌}
use mathlib.Core.List.{List, [], ◌∷◌}
use mathlib.Core.Logic.{◌⊎◌, ⊎_elim}
use native.Mathlib.Nat.{mul-le-mul}
use native.Mathlib.Omega.{arith}
use lib.ListN.{length}
use Rattle.arith.specs.Square.{transposed_list}
use Rattle.arith.proofs.SquareLaws.{length-transposed, transposed-twice}
use Rattle.prediction.proofs.SideTransposedLaws.{length-transposed-neighbours, neighbours-transposed-twice}
use Rattle.choice.specs.Case.{Case, case_of}
use Rattle.choice.specs.Refusal.{choose_refusal}
use Rattle.choice.proofs.AcceptLaws.{Accepted, accepted, accept}
use Rattle.diagonal.specs.Law.{transposed_texture, transposed_case}

-- ---- the texture

pub texture-length : (n : ℕ) (t : List ℕ) → (length t ≡ 0) ⊎ (length t ≡ n * n) → length (transposed_texture n t) ≡ length t
texture-length n [] h = refl
texture-length n (a ∷ t) h = ⊎_elim (λ e. absurd (omega arith)) (λ e. length-transposed n (a ∷ t) ∙ sym e) h

-- a texture that is lent is transposed
pub texture-lent : (n : ℕ) (t : List ℕ) → 0 < length t → transposed_texture n t ≡ transposed_list n t
texture-lent n [] h = absurd (omega arith)
texture-lent n (a ∷ t) h = refl

pub texture-twice :
    (n : ℕ) (t : List ℕ) → 0 < n * n → (length t ≡ 0) ⊎ (length t ≡ n * n) → transposed_texture n (transposed_texture n t) ≡ t
texture-twice n [] some h = refl
texture-twice n (a ∷ t) some h =
    ⊎_elim (λ e. absurd (omega arith))
    (λ e. texture-lent n (transposed_list n (a ∷ t)) (omega (arith, length-transposed n (a ∷ t))) ∙ transposed-twice n (a ∷ t) e) h

some-samples : (n : ℕ) → 4 ≤ n → 0 < n * n
some-samples n h = omega (arith, mul-le-mul h h)

-- ---- the transposed case

module _ (C : Case) (k : Accepted C) where
  texture-kept : length (transposed_texture C.n C.texture) ≡ length C.texture
  texture-kept = texture-length C.n C.texture k.lengths.optional

  pub transposed-accepted : Accepted (transposed_case C)
  transposed-accepted =
      record {
        size = k.size;
        low = k.low;
        high = k.high;
        lengths =
            record {
              bordered = length-transposed-neighbours C.n C.neighbours k.lengths.bordered;
              square = length-transposed C.n C.original;
              optional = rw texture-kept k.lengths.optional;
              inside = k.lengths.inside;
              few = k.lengths.few;
            };
        sound = k.sound;
        words = k.words;
        near = k.near;
        some = rw texture-kept k.some;
      }

  -- transposed twice it is the case again
  pub case_twice : transposed_case (transposed_case C) ≡ C
  case_twice =
      let s = neighbours-transposed-twice C.n C.neighbours k.lengths.bordered in
      let o = transposed-twice C.n C.original k.lengths.square in
      let t = texture-twice C.n C.texture (some-samples C.n k.low) k.lengths.optional in
      λ i. case_of C.n C.list C.count (s i) (o i) C.table C.reach (t i)

pub refusal-transposed : (C : Case) → choose_refusal C ≡ 0 → choose_refusal (transposed_case C) ≡ 0
refusal-transposed C e = accept (transposed_case C) (transposed-accepted C (accepted C e))
