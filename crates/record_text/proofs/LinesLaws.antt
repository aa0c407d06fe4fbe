-- Both inverse laws of several lines, one step of reading them, and how long their text is.
use Prim.Native.Nat.{ℕ, zero, suc, ◌*◌, ◌≤◌, ◌<◌}
use mathlib.Core.Path.{◌≡◌, refl, ◌∙◌, ap, subst}
use mathlib.Core.List.{List, [], ◌∷◌, ◌++◌, append_assoc, append-nil}
use native.Mathlib.Omega.{arith}
use native.Mathlib.Nat.{mul-suc}
use lib.ListN.{length, length-append}
use Rattle.arith.specs.Lists.{list_of}
use Rattle.record_text.specs.Parsed.{Parsed, Parser, bad_form, found}
use Rattle.record_text.specs.Codec.{Codec}
use Rattle.record_text.specs.Lines.{Lined, refused_at, read, judged, line, lines_then, many_lines, ended, texts, Each}

-- ---- a refusal is no value

abbrev IsRefused : {A : Type 0} → Lined A → Type 0
IsRefused (refused_at n k) = Unit {0}
IsRefused (read a s) = ⊥

pub refused-read : {A : Type 0} {n k : ℕ} {a : A} {s : List ℕ} {X : Type 0} → refused_at n k ≡ read a s → X
refused-read p = absurd (subst IsRefused p tt)

-- ---- one line and what follows

module _ {A B : Type 0} (k : ℕ) (meaning : A → ℕ) (next : A → List ℕ → Lined B) where
  pub line-bad : {p : Parsed A} → p ≡ bad_form → line k p meaning next ≡ refused_at 9 k
  line-bad h = rw h

  pub line_refused : {p : Parsed A} {a : A} {s : List ℕ} → p ≡ found a s → (meaning a ≡ 0 → ⊥) → line k p meaning next ≡ refused_at (meaning a) k
  line_refused {p} {a} {s} h ne = rw h (turn (meaning a) ne)
    where
      turn : (n : ℕ) → (n ≡ 0 → ⊥) → judged n k (next a s) ≡ refused_at n k
      turn zero ne = absurd (ne refl)
      turn (suc n) ne = refl

  pub line_read : {p : Parsed A} {a : A} {s : List ℕ} → p ≡ found a s → meaning a ≡ 0 → line k p meaning next ≡ next a s
  line_read h z = rw (h, z)

  -- the parts of a line that was read
  pub record LineParts (p : Parsed A) (b : B) (t : List ℕ) : Type 0 where
    pub value : A
    pub rest : List ℕ
    pub form : p ≡ found value rest
    pub sound : meaning value ≡ 0
    pub then : next value rest ≡ read b t

  pub line-parts : (p : Parsed A) (b : B) (t : List ℕ) → line k p meaning next ≡ read b t → LineParts p b t
  line-parts bad_form b t h = refused-read h
  line-parts (found a s) b t h = go (meaning a) refl h
    where
      go : (n : ℕ) → meaning a ≡ n → judged n k (next a s) ≡ read b t → LineParts (found a s) b t
      go zero e h = record { value = a; rest = s; form = refl; sound = e; then = h }
      go (suc n) e h = refused-read h

module _ {A B : Type 0} (next : A → List ℕ → Lined B) where
  pub lines-read : {x : Lined A} {a : A} {s : List ℕ} → x ≡ read a s → lines_then x next ≡ next a s
  lines-read h = rw h

  -- the parts of lines that were read
  pub record LinesParts (x : Lined A) (b : B) (t : List ℕ) : Type 0 where
    pub value : A
    pub rest : List ℕ
    pub first : x ≡ read value rest
    pub then : next value rest ≡ read b t

  pub lines-parts : (x : Lined A) (b : B) (t : List ℕ) → lines_then x next ≡ read b t → LinesParts x b t
  lines-parts (refused_at n k) b t h = refused-read h
  lines-parts (read a s) b t h = record { value = a; rest = s; first = refl; then = h }

pub ended-parts : {A : Type 0} (k : ℕ) (a b : A) (s t : List ℕ) → ended k a s ≡ read b t → (a ≡ b) × (s ≡ []) × (t ≡ [])
ended-parts k a b [] t p = (cc, refl, cc)
ended-parts k a b (c ∷ s) t p = refused-read p

-- ---- several lines

module _ {S A : Type 0} (p : Parser A) (meaning : S → A → ℕ) (step : S → A → S) where
  -- one turn of a loop that reads them
  pub many-none : (k : ℕ) (c : S) (s : List ℕ) → many_lines p meaning step zero k c s ≡ read [] s
  unfolding many_lines
  many-none k c s = refl

  pub many-bad : (m k : ℕ) (c : S) (s : List ℕ) → p s ≡ bad_form → many_lines p meaning step (suc m) k c s ≡ refused_at 9 k
  unfolding many_lines
  many-bad m k c s h = rw h

  pub many-refused :
      (m k : ℕ) (c : S) (s : List ℕ) {a : A} {t : List ℕ} → p s ≡ found a t → (meaning c a ≡ 0 → ⊥)
      → many_lines p meaning step (suc m) k c s ≡ refused_at (meaning c a) k
  unfolding many_lines
  many-refused m k c s h ne = line_refused k (meaning c) _ h ne

  pub many_more :
      (m k : ℕ) (c : S) (s : List ℕ) {a : A} {t : List ℕ} → p s ≡ found a t → meaning c a ≡ 0
      → many_lines p meaning step (suc m) k c s ≡ lines_then (many_lines p meaning step m (suc k) (step c a) t) (λ l u. read (a ∷ l) u)
  unfolding many_lines
  many_more m k c s h z = rw (h, z)

  -- both inverse laws: of lines whose one line has them
  module _ {text : A → List ℕ} {P : A → Type 0} (codec : Codec p text P) where
    abbrev pub Sound : S → A → Type 0
    Sound c a = P a × (meaning c a ≡ 0)

    pub many-reads :
        (m k : ℕ) (c : S) (l : List A) (t : List ℕ) → length l ≡ m → Each Sound step c l → many_lines p meaning step m k c (texts text l ++ t) ≡ read l t
    unfolding many_lines texts
    many-reads zero k c [] t e h = refl
    many-reads zero k c (a ∷ l) t e h = absurd (omega (arith, e))
    many-reads (suc m) k c [] t e h = absurd (omega (arith, e))
    many-reads (suc m) k c (a ∷ l) t e h =
        rw (append_assoc, codec.reads a (texts text l ++ t) h.0.0, h.0.1, many-reads m (suc k) (step c a) l t (omega (arith, e)) h.1)

    pub many-wrote :
        (m k : ℕ) (c : S) (l : List A) (s t : List ℕ) → many_lines p meaning step m k c s ≡ read l t → (s ≡ texts text l ++ t) × (length l ≡ m) × Each Sound step c l
    unfolding many_lines texts
    many-wrote zero k c l s t q = fin l s (cc) (cc)
      where
        fin : (l : List A) (s : List ℕ) → [] ≡ l → s ≡ t → (s ≡ texts text l ++ t) × (length l ≡ 0) × Each Sound step c l
        fin l s e1 e2 = rw (← e1) (e2, refl, tt)
    many-wrote (suc m) k c l s t q =
        let r = line-parts k (meaning c) _ (p s) l t q in
        let w = codec.wrote r.value s r.rest r.form in
        let u = lines-parts _ (many_lines p meaning step m (suc k) (step c r.value) r.rest) l t r.then in
        let v = many-wrote m (suc k) (step c r.value) u.value r.rest u.rest u.first in
        fin r.value u.value r.rest u.rest u.then w r.sound v
      where
        fin : (a : A) (l' : List A) (s' t' : List ℕ) → read (a ∷ l') t' ≡ read l t → (s ≡ text a ++ s') × P a → meaning c a ≡ 0
            → (s' ≡ texts text l' ++ t') × (length l' ≡ m) × Each Sound step (step c a) l' → (s ≡ texts text l ++ t) × (length l ≡ suc m) × Each Sound step c l
        fin a l' s' t' e w z v =
            let e1 : a ∷ l' ≡ l = cc in
            let e2 : t' ≡ t = cc in
            rw (← e1, ← e2) (w.0 ∙ rw (append_assoc, v.0), ap suc v.1, ((w.1, z), v.2))

-- ---- the text of several lines

module _ {A : Type 0} (text : A → List ℕ) where
  texts-append : (l m : List A) → texts text (l ++ m) ≡ texts text l ++ texts text m
  unfolding texts
  texts-append [] m = refl
  texts-append (a ∷ l) m = rw append_assoc (ap (λ (x : List ℕ). text a ++ x) (texts-append l m))

  -- one line more, as a loop writes it
  pub texts-more : (f : ℕ → A) (i : ℕ) → texts text (list_of f (suc i)) ≡ texts text (list_of f i) ++ text (f i)
  unfolding texts list_of
  texts-more f i = texts-append (list_of f i) (f i ∷ []) ∙ ap (λ (x : List ℕ). texts text (list_of f i) ++ x) (append-nil (text (f i)))

  -- lines of at most b bytes
  pub texts-length : (f : ℕ → A) (b k : ℕ) → ((i : ℕ) → i < k → length (text (f i)) ≤ b) → length (texts text (list_of f k)) ≤ b * k
  unfolding list_of texts
  texts-length f b zero h = omega arith
  texts-length f b (suc k) h =
      omega (arith, ap length (texts-more f k), length-append (texts text (list_of f k)) (text (f k)), texts-length f b k (λ i l. h i (omega arith)), h k (omega arith), mul-suc b k)
