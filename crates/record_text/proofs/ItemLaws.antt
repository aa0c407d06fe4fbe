-- Items of a file, read from a given state: reading and printing are inverse to each other, and what is read depends only on the first
-- bytes.
use Prim.Native.Nat.{ℕ, zero, suc, ◌+◌, ◌*◌, ◌≤◌}
use mathlib.Core.Path.{◌≡◌, refl, sym, ◌∙◌, ap}
use mathlib.Core.List.{List, [], ◌∷◌, ◌++◌, append_assoc}
use native.Mathlib.Nat.{mul-suc}
use native.Mathlib.Omega.{arith}
use lib.ListN.{length, take, drop, length-append, take-append-drop}
use lib.Seq.{take-append-le, take-append_seam}
use Rattle.record_text.specs.Parsed.{Parsed, Parser, bad_form, found}
use Rattle.record_text.specs.Codec.{Codec}
use Rattle.record_text.specs.Lines.{Lined, refused_at, read, judged, line, lines_then, many_lines, ended, texts, Each}
use Rattle.record_text.specs.Items.{extended, TakesAtMost, Item}
use Rattle.record_text.proofs.ParsedLaws.{bad-found}
use Rattle.record_text.proofs.LinesLaws.{refused-read, line-parts, lines-parts, many-reads, many-wrote}

-- ---- a text and what follows it

-- what is found where t follows the bytes
abbrev pub onward : {A : Type 0} → List ℕ → Parsed A → Parsed A
onward t bad_form = bad_form
onward t (found a u) = found a (u ++ t)

module _ {A : Type 0} {p : Parser A} {text : A → List ℕ} {P : A → Type 0} (codec : Codec p text P) (b : ℕ) (short : (a : A) → length (text a) ≤ b) where
  -- the bytes that a text leaves
  parsed-left : (s u : List ℕ) (a : A) → p s ≡ found a u → length s ≤ length u + b
  parsed-left s u a e =
      let w = codec.wrote a s u e in
      omega (arith, ap length w.0, length-append (text a) u, short a)

  -- a text that is found with t after the bytes lies inside them, where they are as many as a text can have
  inside : (s t v : List ℕ) (a : A) → b ≤ length s → p (s ++ t) ≡ found a v → p s ≡ found a (drop (length (text a)) s)
  inside s t v a h e =
      let w = codec.wrote a (s ++ t) v e in
      let k = length (text a) in
      let first : take k s ≡ text a = sym (take-append-le k s t (omega (arith, short a))) ∙ ap (take k) w.0 ∙ take-append_seam (text a) v in
      ap p (sym (take-append-drop k s) ∙ ap (λ (x : List ℕ). x ++ drop k s) first) ∙ codec.reads a (drop k s) w.1

  pub parsed-same : (s t : List ℕ) → b ≤ length s → p (s ++ t) ≡ onward t (p s)
  parsed-same s t h = go (p s) refl
    where
      none : p s ≡ bad_form → (y : Parsed A) → p (s ++ t) ≡ y → y ≡ bad_form
      none e bad_form q = refl
      none e (found a v) q = bad-found (sym e ∙ inside s t v a h q)

      go : (x : Parsed A) → p s ≡ x → p (s ++ t) ≡ onward t x
      go bad_form e = none e (p (s ++ t)) refl
      go (found a u) e =
          let w = codec.wrote a s u e in
          ap (λ (x : List ℕ). p (x ++ t)) w.0 ∙ ap p (append_assoc (text a) u t) ∙ codec.reads a (u ++ t) w.1

-- ---- lines and what follows them

pub within_more : {A : Type 0} {b c : ℕ} {f : List ℕ → Lined A} → b ≤ c → TakesAtMost b f → TakesAtMost c f
within_more h w = record { same = λ s t l. w.same s t (omega arith); left = λ s u a e. omega (arith, w.left s u a e) }

-- no line
pub none_within : {A : Type 0} (a : A) → TakesAtMost 0 (λ s. read a s)
none_within a = record { same = λ s t h. refl; left = λ s u c e. omega (arith, ap length (rest e)) }
  where
    rest : {c : _} {s u : List ℕ} → read a s ≡ read c u → s ≡ u
    rest e = cc

-- the end: one byte is enough to see that there is more
pub ended-within : {A : Type 0} (k : ℕ) (a : A) → TakesAtMost 1 (λ s. ended k a s)
ended-within k a = record { same = same; left = left }
  where
    same : (s t : List ℕ) → 1 ≤ length s → ended k a (s ++ t) ≡ extended t (ended k a s)
    same [] t h = absurd (omega arith)
    same (x ∷ s) t h = refl

    left : (s u : List ℕ) (c : _) → ended k a s ≡ read c u → length s ≤ length u + 1
    left [] u c e = omega arith
    left (x ∷ s) u c e = refused-read e

-- one line and then others
module _ {A B : Type 0} (k b c : ℕ) {p : Parser A} {text : A → List ℕ} {P : A → Type 0} (codec : Codec p text P) (short : (a : A) → length (text a) ≤ b)
    (meaning : A → ℕ) (next : A → List ℕ → Lined B) (after : (a : A) → meaning a ≡ 0 → TakesAtMost c (next a)) where
  pub line-within : TakesAtMost (b + c) (λ s. line k (p s) meaning next)
  line-within = record { same = same; left = left }
    where
      step : (n : ℕ) (a : A) (u t : List ℕ) → meaning a ≡ n → c ≤ length u → judged n k (next a (u ++ t)) ≡ extended t (judged n k (next a u))
      step zero a u t e h = (after a e).same u t h
      step (suc n) a u t e h = refl

      same : (s t : List ℕ) → b + c ≤ length s → line k (p (s ++ t)) meaning next ≡ extended t (line k (p s) meaning next)
      same s t h = go (p s) refl (parsed-same codec b short s t (omega arith))
        where
          go : (x : Parsed A) → p s ≡ x → p (s ++ t) ≡ onward t (p s) → line k (p (s ++ t)) meaning next ≡ extended t (line k (p s) meaning next)
          go bad_form e q = rw (q, e)
          go (found a u) e q = rw (q, e) (step (meaning a) a u t refl (omega (arith, parsed-left codec b short s u a e)))

      left : (s u : List ℕ) (v : B) → line k (p s) meaning next ≡ read v u → length s ≤ length u + (b + c)
      left s u v e =
          let l = line-parts k meaning next (p s) v u e in
          omega (arith, parsed-left codec b short s l.rest l.value l.form, (after l.value l.sound).left l.rest u v l.then)

-- lines and then others
module _ {A B : Type 0} {b c : ℕ} {f : List ℕ → Lined A} (first : TakesAtMost b f) (next : A → List ℕ → Lined B)
    (after : (s u : List ℕ) (a : A) → f s ≡ read a u → TakesAtMost c (next a)) where
  pub lines-within : TakesAtMost (b + c) (λ s. lines_then (f s) next)
  lines-within = record { same = same; left = left }
    where
      same : (s t : List ℕ) → b + c ≤ length s → lines_then (f (s ++ t)) next ≡ extended t (lines_then (f s) next)
      same s t h = go (f s) refl (first.same s t (omega arith))
        where
          go : (x : Lined A) → f s ≡ x → f (s ++ t) ≡ extended t (f s) → lines_then (f (s ++ t)) next ≡ extended t (lines_then (f s) next)
          go (refused_at n k) e q = rw (q, e)
          go (read a u) e q = rw (q, e) ((after s u a e).same u t (omega (arith, first.left s u a e)))

      left : (s u : List ℕ) (v : B) → lines_then (f s) next ≡ read v u → length s ≤ length u + (b + c)
      left s u v e =
          let l = lines-parts next (f s) v u e in
          omega (arith, first.left s l.rest l.value l.first, (after s l.rest l.value l.first).left l.rest u v l.then)

-- ---- m lines of one form, each judged at the state that those before it left

module _ {S A : Type 0} (b : ℕ) {p : Parser A} {text : A → List ℕ} {P : A → Type 0} (codec : Codec p text P) (short : (a : A) → length (text a) ≤ b)
    (meaning : S → A → ℕ) (step : S → A → S) where
  many-within : (m k : ℕ) (c : S) → TakesAtMost (b * m) (λ s. many_lines p meaning step m k c s)
  unfolding many_lines
  many-within zero k c = within_more (omega arith) (none_within [])
  many-within (suc m) k c =
      within_more (omega (arith, mul-suc b m))
      (line-within k b (b * m) codec short (meaning c) _
      (λ a _. within_more (omega arith) (lines-within (many-within m (suc k) (step c a)) (λ l u. read (a ∷ l) u) (λ s u l _. none_within (a ∷ l)))))

  -- of the values each can be printed, and its meaning is not refused at its state
  pub many-item :
      (m k : ℕ)
      → Item (λ c s. many_lines p meaning step m k c s) (texts text)
      (λ c l. (length l ≡ m) × Each (λ c a. P a × (meaning c a ≡ 0)) step c l) (b * m)
  many-item m k =
      record {
        reads = λ c l t h. many-reads p meaning step codec m k c l t h.0 h.1;
        wrote = λ c l s t e. let w = many-wrote p meaning step codec m k c l s t e in (w.0, (w.1, w.2));
        within = many-within m k;
      }
