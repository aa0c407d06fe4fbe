-- The steps of reading a line's fields in turn.
use Prim.Native.Nat.{ℕ, suc, ◌+◌, ◌-◌, ◌≤◌, ◌<◌}
use mathlib.Core.Path.{◌≡◌, refl, sym, ◌∙◌, ap}
use mathlib.Core.Bool.{Bool, false}
use mathlib.Core.List.{List, [], ◌∷◌, ◌++◌, append-nil}
use native.Mathlib.Omega.{arith}
use native.Mathlib.Numerals.{add-one}
use lib.Dec.{eqb}
use lib.IntN.{ℤ, pos}
use lib.ListN.{length, get_or, drop, take, set, length-set, length-drop, drop_of_length-le}
use lib.Seq.{drop-cons, append_snoc, take-suc, take_all, take-set-le, get_or-set_same}
use borrow.Author.Tests.{eq-eqb, ne_eqb}
use Rattle.record_text.specs.Parsed.{Parsed, bad_form, found, and_then}
use Rattle.record_text.specs.Field.{signed}
use Rattle.record_text.specs.Line.{end_byte, end_of, line_of}

-- the byte after field k
pub end-at : {A : Type 0} (form : List A) (k : ℕ) → k < length form → end_of (drop (suc k) form) ≡ end_byte (eqb (k + 1) (length form))
end-at {A} form k h = go (drop (suc k) form) (length-drop (suc k) form)
  where
    go : (l : List A) → length l ≡ length form - suc k → end_of l ≡ end_byte (eqb (k + 1) (length form))
    go [] e = rw (eq-eqb (k + 1) (length form) (omega (arith, e)))
    go (m ∷ l) e = rw (ne_eqb (k + 1) (length form) (λ q. omega (arith, e)))

same : (x : Parsed (List ℤ)) → x ≡ and_then x (λ l u. found l u)
same bad_form = refl
same (found l u) = refl

-- one number more before those that are left
joined :
    (a : List ℤ) (z : ℤ) (x : Parsed (List ℤ))
    → and_then (and_then x (λ l u. found (z ∷ l) u)) (λ l u. found (a ++ l) u) ≡ and_then x (λ l u. found (a ++ (z ∷ []) ++ l) u)
joined a z bad_form = refl
joined a z (found l u) = ap (λ (y : List ℤ). found y u) (sym (append_snoc a z l))

module _ (form : List Bool) (s₀ : List ℕ) where
  -- k numbers of the line are stored: the fields that are left, read from s, give what the whole line gives
  pub record Reading (k : ℕ) (numbers : List ℤ) (s : List ℕ) : Type 0 where
    pub le : k ≤ length form
    pub room : length numbers ≡ length form
    pub left : line_of form s₀ ≡ and_then (line_of (drop k form) s) (λ l u. found (take k numbers ++ l) u)

  pub line-start : (numbers : List ℤ) → length numbers ≡ length form → Reading 0 numbers s₀
  line-start numbers e = record { le = omega arith; room = e; left = same (line_of form s₀) }

  module _ (k : ℕ) (numbers : List ℤ) (s : List ℕ) (now : Reading k numbers s) (h : k < length form) where
    -- field k, and those after it
    abbrev here : List ℕ → Parsed ℤ
    here s = signed (get_or form k false) (end_byte (eqb (k + 1) (length form))) s

    here-left : line_of form s₀ ≡ and_then (and_then (here s) (λ z t. and_then (line_of (drop (suc k) form) t) (λ l u. found (z ∷ l) u))) (λ l u. found (take k numbers ++ l) u)
    here-left = now.left ∙ rw (drop-cons form k false h, end-at form k h)

    pub line-bad : here s ≡ bad_form → line_of form s₀ ≡ bad_form
    line-bad e = here-left ∙ rw e

    pub line-more : {v z : ℤ} {t : List ℕ} → here s ≡ found v t → z ≡ v → Reading (k + 1) (set numbers k z) t
    line-more {v} {z} {t} e ez =
        let room = now.room in
        let stored : take (suc k) (set numbers k z) ≡ take k numbers ++ (z ∷ []) =
        take-suc (set numbers k z) k (pos 0) (omega (arith, length-set numbers k z))
        ∙ rw (take-set-le k numbers k z (omega arith), get_or-set_same numbers k z (pos 0) (omega arith)) in
        record {
          le = omega arith;
          room = length-set numbers k z ∙ room;
          left = here-left ∙ rw (e, ← ez, add-one k, stored) (joined (take k numbers) z (line_of (drop (suc k) form) t));
        }

  pub line-end : (k : ℕ) (numbers : List ℤ) (s : List ℕ) → Reading k numbers s → length form ≤ k → line_of form s₀ ≡ found numbers s
  line-end k numbers s now h =
      now.left ∙ rw (drop_of_length-le form h, take_all k numbers (omega (arith, now.room)), append-nil numbers)
