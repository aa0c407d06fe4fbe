-- A loop that reads lines: what it has read so far.
use Prim.Native.Nat.{ℕ, suc, ◌+◌, ◌-◌, ◌≤◌, ◌<◌}
use mathlib.Core.Path.{◌≡◌, refl, sym, ◌∙◌, ap}
use mathlib.Core.List.{List, [], ◌∷◌, ◌++◌, append-nil}
use native.Mathlib.Nat.{add-zero, sub-zero}
use native.Mathlib.Omega.{arith}
use lib.Seq.{append_snoc}
use Rattle.record_text.specs.Parsed.{Parser, bad_form, found}
use Rattle.record_text.specs.Lines.{Lined, refused_at, read, lines_then, many_lines}
use Rattle.record_text.proofs.LinesLaws.{many-none, many-bad, many-refused, many_more}

lines_same : {A : Type 0} (x : Lined A) → x ≡ lines_then x (λ a s. read a s)
lines_same (refused_at n k) = refl
lines_same (read a s) = refl

-- one value more before those that are left
lines_join :
    {A : Type 0} (l : List A) (a : A) (x : Lined (List A))
    → lines_then (lines_then x (λ r u. read (a ∷ r) u)) (λ r u. read (l ++ r) u) ≡ lines_then x (λ r u. read (l ++ (a ∷ []) ++ r) u)
lines_join l a (refused_at n k) = refl
lines_join l a (read r u) = ap (λ (y : List _). read y u) (sym (append_snoc l a r))

module _ {S A : Type 0} (p : Parser A) (meaning : S → A → ℕ) (step : S → A → S) (m k : ℕ) (c₀ : S) (s₀ : List ℕ) where
  -- i of the m lines are read, with the values l: the others, read from s at the state c, give what the whole gives
  pub record Reading (i : ℕ) (c : S) (l : List A) (s : List ℕ) : Type 0 where
    pub le : i ≤ m
    pub left : many_lines p meaning step m k c₀ s₀ ≡ lines_then (many_lines p meaning step (m - i) (k + i) c s) (λ r u. read (l ++ r) u)

  pub reading-start : Reading 0 c₀ [] s₀
  reading-start = record { le = omega arith; left = rw (sub-zero m, add-zero k) (lines_same (many_lines p meaning step m k c₀ s₀)) }

  module _ (i : ℕ) (c : S) (l : List A) (s : List ℕ) (now : Reading i c l s) where
    pub reading-more : {a : A} {t : List ℕ} → i < m → p s ≡ found a t → meaning c a ≡ 0 → Reading (i + 1) (step c a) (l ++ (a ∷ [])) t
    reading-more {a} {t} h e z =
        let e1 : m - i ≡ suc (m - (i + 1)) = omega arith in
        let e2 : suc (k + i) ≡ k + (i + 1) = omega arith in
        record {
          le = omega arith;
          left =
              now.left
              ∙ ap (λ (j : ℕ). lines_then (many_lines p meaning step j (k + i) c s) (λ r u. read (l ++ r) u)) e1
              ∙ ap (λ (x : Lined (List A)). lines_then x (λ r u. read (l ++ r) u)) (many_more p meaning step (m - (i + 1)) (k + i) c s e z)
              ∙ lines_join l a (many_lines p meaning step (m - (i + 1)) (suc (k + i)) (step c a) t)
              ∙ ap (λ (j : ℕ). lines_then (many_lines p meaning step (m - (i + 1)) j (step c a) t) (λ r u. read (l ++ (a ∷ []) ++ r) u)) e2;
        }

    -- a line of another form, and a line whose meaning is refused
    pub reading-bad : i < m → p s ≡ bad_form → many_lines p meaning step m k c₀ s₀ ≡ refused_at 9 (k + i)
    reading-bad h e =
        let e1 : m - i ≡ suc (m - (i + 1)) = omega arith in
        now.left ∙ rw (e1, many-bad p meaning step (m - (i + 1)) (k + i) c s e)

    pub reading-refused :
        {a : A} {t : List ℕ} → i < m → p s ≡ found a t → (meaning c a ≡ 0 → ⊥) → many_lines p meaning step m k c₀ s₀ ≡ refused_at (meaning c a) (k + i)
    reading-refused h e ne =
        let e1 : m - i ≡ suc (m - (i + 1)) = omega arith in
        now.left ∙ rw (e1, many-refused p meaning step (m - (i + 1)) (k + i) c s e ne)

    -- all of them are read
    pub reading-end : m ≤ i → many_lines p meaning step m k c₀ s₀ ≡ read l s
    reading-end h =
        let e1 : m - i ≡ 0 = omega arith in
        now.left ∙ rw (e1, many-none p meaning step (k + i) c s, append-nil l)
