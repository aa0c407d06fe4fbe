-- Laws of reading: what follows where something is found, and inverse laws of texts put together.
use Prim.Native.Nat.{ℕ, ◌+◌}
use mathlib.Core.Path.{◌≡◌, refl, sym, subst, ap, ◌∙◌}
use mathlib.Core.Bool.{Bool, true, false, cond}
use mathlib.Core.List.{List, [], ◌∷◌, ◌++◌}
use lib.Dec.{eqb}
use lib.ListN.{length, take, drop}
use Rattle.std.specs.Prelude.{Option, Some, None, MatchOption}
use Rattle.std.specs.Borrow.{Bor}
use Rattle.std.specs.Cmp.Lexicographic.{pointwise}
use Rattle.std.proofs.lemmas.Bool.Decides.{Decides-eqb}
use Rattle.std.proofs.lemmas.Slice.Eq.{strip_prefix_is}
use borrow.Author.Tests.{eq-eqb, eqb-true}
use Rattle.record_text.specs.Parsed.{Parsed, Parser, bad_form, found, and_then, more, mapped, exactly}
use Rattle.record_text.specs.Told.{text_parsed}
use Rattle.record_text.specs.Codec.{Codec}

-- a choice by a test, each side with what the test says there
pub cond-elim : {A : Type 0} (P : A → Type 0) (b : Bool) (x y : A) → (b ≡ true → P x) → (b ≡ false → P y) → P (cond b x y)
cond-elim P true x y f g = f refl
cond-elim P false x y f g = g refl

abbrev IsBad : {A : Type 0} → Parsed A → Type 0
IsBad bad_form = Unit {0}
IsBad (found a s) = ⊥

-- text of another form has no value
pub bad-found : {A : Type 0} {a : A} {s : List ℕ} {X : Type 0} → bad_form ≡ found a s → X
bad-found p = absurd (subst IsBad p tt)

-- ---- one text and then a list of others, mapped

module _ {A : Type 0} (p : Parser A) (q : Parser (List A)) (s : List ℕ) where
  -- the parts of texts that were read
  pub record Parts (l : List A) (u : List ℕ) : Type 0 where
    pub value : A
    pub others : List A
    pub rest : List ℕ
    pub whole : l ≡ value ∷ others
    pub one : p s ≡ found value rest
    pub two : q rest ≡ found others u

  pub more_parts : (l : List A) (u : List ℕ) → more p q s ≡ found l u → Parts l u
  more_parts l u h = first (p s) refl h
    where
      second : (a : A) (t : List ℕ) → p s ≡ found a t → (g : Parsed (List A)) → q t ≡ g → and_then g (λ m v. found (a ∷ m) v) ≡ found l u → Parts l u
      second a t e bad_form k h = bad-found h
      second a t e (found m v) k h =
          let w : a ∷ m ≡ l = cc in
          let x : v ≡ u = cc in
          record { value = a; others = m; rest = t; whole = sym w; one = e; two = k ∙ ap (found m) x }

      first : (g : Parsed A) → p s ≡ g → and_then g (λ a t. and_then (q t) (λ m v. found (a ∷ m) v)) ≡ found l u → Parts l u
      first bad_form e h = bad-found h
      first (found a t) e h = second a t e (q t) refl h

-- both inverse laws of a text whose value is put in another way, g the way back
pub mapped-codec :
    {A B : Type 0} {p : Parser A} {text : A → List ℕ} {P : A → Type 0} (f : A → B) (g : B → A) → ((a : A) → P a → g (f a) ≡ a) → ((b : B) → f (g b) ≡ b)
    → Codec p text P → Codec (mapped f p) (λ b. text (g b)) (λ b. P (g b))
mapped-codec {A} {B} {p} {text} {P} f g e k x = record { reads = reads; wrote = wrote }
  where
    reads : (b : B) (t : List ℕ) → P (g b) → mapped f p (text (g b) ++ t) ≡ found b t
    reads b t h = rw (x.reads (g b) t h, k b)

    wrote : (b : B) (s t : List ℕ) → mapped f p s ≡ found b t → (s ≡ text (g b) ++ t) × P (g b)
    wrote b s t h = go (p s) refl h
      where
        go : (r : Parsed A) → p s ≡ r → and_then r (λ a u. found (f a) u) ≡ found b t → (s ≡ text (g b) ++ t) × P (g b)
        go bad_form q h = bad-found h
        go (found a u) q h =
            let w : f a ≡ b = cc in
            let v : u ≡ t = cc in
            let r = x.wrote a s u q in
            rw (← w, ← v, e a r.1) r

-- ---- exactly the bytes w

pub exactly_reads : (w t : List ℕ) → exactly w (w ++ t) ≡ found tt t
unfolding exactly
exactly_reads [] t = refl
exactly_reads (w ∷ ws) t = rw (eq-eqb w w refl) (exactly_reads ws t)

pub exactly-wrote : (w s t : List ℕ) (u : Unit {0}) → exactly w s ≡ found u t → s ≡ w ++ t
unfolding exactly
exactly-wrote [] s t u = λ p. cc
exactly-wrote (w ∷ ws) [] t u = λ p. bad-found p
exactly-wrote (w ∷ ws) (b ∷ s) t u =
    cond-elim (λ (y : Parsed (Unit {0})). y ≡ found u t → b ∷ s ≡ w ∷ ws ++ t) (eqb b w) (exactly ws s) bad_form
    (λ e p. cc (eqb-true b w e, exactly-wrote ws s t u p)) (λ e p. bad-found p)

-- both inverse laws of a title line
pub exactly-codec : (w : List ℕ) → Codec (exactly w) (λ _. w) (λ _. Unit {0})
exactly-codec w = record { reads = λ u t h. exactly_reads w t; wrote = λ u s t p. (exactly-wrote w s t u p, tt) }

-- a prefix that is taken off is read, and where there is none, the text is another
pub exactly_stripped :
    (w s : List ℕ) (r : Option (Bor (List ℕ)))
    → MatchOption r (pointwise eqb (take (length w) s) w ≡ false)
    (λ x. (pointwise eqb (take (length w) s) w ≡ true) × (x.now ≡ drop (length w) s) × (length x.now + length w ≡ length s))
    → text_parsed r ≡ exactly w s
exactly_stripped w s (Some x) h =
    let e : s ≡ w ++ x.now = strip_prefix_is Decides-eqb s w (Some x) h in
    sym (ap (exactly w) e ∙ exactly_reads w x.now)
exactly_stripped w s None h = go (exactly w s) refl
  where
    go : (p : Parsed (Unit {0})) → exactly w s ≡ p → bad_form ≡ p
    go bad_form e = refl
    go (found u t) e = absurd (strip_prefix_is Decides-eqb s w None h t (exactly-wrote w s t u e))
