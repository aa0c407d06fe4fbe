-- Reading lines in a loop that stores what they say.
use Rattle.std.proofs.Common.{ℕ, zero, suc, ◌+◌, ◌*◌, ◌≤◌, ◌<◌, ◌≡◌, refl, sym, ◌∙◌, ap, arith, List, [], ◌∷◌, ◌++◌, length, length-append, get_or, drop, append-nil, Bool, true, false, ◌&&◌, leb, Result, Ok, Err, rules}
use borrow.Author.Tests.{lt-ltb, lt-leb}
use Rattle.std.proofs.Math.ListN.{set, drop_of_length-le}
use Rattle.std.proofs.Math.Seq.{drop-cons, set_at, append_snoc}
use Rattle.arith.specs.Checks.{refusal, refused, given, answer}
use Rattle.arith.proofs.CheckLaws.{holds, passes, kept, refused-by, refused-means, answer-given, given-means}
use Rattle.depth_table.specs.Table.{most_values}
use Rattle.pattern.specs.Answer.{count_ok, texture_ok}
use Rattle.pattern.specs.Refusal.{number_of, checked}
use Rattle.pattern.specs.Size.{size_ok, each_size, for_size}
use Rattle.pattern.specs.Words.{whole_patterns}
use Rattle.pattern.specs.declared.refusals.Refusal.{Refusal}
use Rattle.sheet.specs.Checks.{new_refusal}
use Rattle.sheet.specs.State.{state_of, sides_ok, new_answer}
use Rattle.sheet.specs.declared.Sheet.{Sheet}
use Rattle.record_text.specs.declared.fields.SizeFields.{SizeFields}
use Rattle.pattern.proofs.WordLaws.{length-patterns}
use Rattle.record_text.specs.Parsed.{Parsed, Parser, bad_form, found}
use Rattle.record_text.specs.Lines.{Lined, refused_at, read, judged, line, many_lines}
use Rattle.pattern.proofs.AnswerLaws.{number-some}
use Rattle.record_file.specs.Reading.{aids_of, lists_ok, size_meaning, value_meaning}
use Rattle.record_text.proofs.LinesLaws.{refused-read, line-parts}
use Rattle.record_text.proofs.LoopLaws.{Reading, reading-start, reading-more, reading-bad, reading-refused, reading-end}

-- the counts are set against the whole patterns of the lent words
pub lists-lent :
    (words4 words8 words16 : List ℕ) (count4 count8 count16 : ℕ) (texture : List ℕ)
    → each_size (λ n. count_ok (whole_patterns n (for_size n (length words4) (length words8) (length words16))) (for_size n count4 count8 count16))
    ≡ lists_ok (aids_of words4 count4 words8 count8 words16 count16 texture)
lists-lent words4 words8 words16 count4 count8 count16 texture = rw (length-patterns 4 words4, length-patterns 8 words8, length-patterns 16 words16)

-- ---- a value's line

-- a value that does not rise is refused
module _ (k low : ℕ) {p : Parsed ℕ} {v : ℕ} {t : List ℕ} (e : p ≡ found v t) where
  pub value_low : v ≤ 255 → v < low → refused_at 3 k ≡ line k p (value_meaning low) read
  unfolding value_meaning
  value_low h l = rw (e, lt-ltb v 256 (omega arith), lt-leb low v l)

-- ---- a loop over lines

-- the same refusal, of lines with other values
abbrev pub other : {A B : Type 0} → Lined A → Lined B
other (refused_at n k) = refused_at n k
other (read a s) = refused_at 0 0

pub same-refusal : {A B : Type 0} {n k i j : ℕ} → ◌≡◌ {A = Lined A} (refused_at n k) (refused_at i j) → ◌≡◌ {A = Lined B} (refused_at i j) (refused_at n k)
same-refusal e = ap other (sym e)

module _ {S A : Type 0} (p : Parser A) (meaning : S → A → ℕ) (step : S → A → S) (m k : ℕ) (c₀ : S) (s₀ : List ℕ) where
  -- i lines are read, and what their values were stored as
  pub record Going (i : ℕ) (c : S) (s : List ℕ) (Kept : List A → Type 0) : Type 0 where
    pub values : List A
    pub so_far : Reading p meaning step m k c₀ s₀ i c values s
    pub count : length values ≡ i
    pub kept : Kept values

  pub going_start : {Kept : List A → Type 0} → Kept [] → Going 0 c₀ s₀ Kept
  going_start h = record { values = []; so_far = reading-start p meaning step m k c₀ s₀; count = refl; kept = h }

  module _ {i : ℕ} {c : S} {s : List ℕ} {Kept : List A → Type 0} (now : Going i c s Kept) (h : i < m) where
    pub going_more :
        {a : A} {t : List ℕ} {c' : S} (Next : List A → Type 0) → read a t ≡ line (k + i) (p s) (meaning c) read → c' ≡ step c a
        → ((l : List A) → length l ≡ i → Kept l → Next (l ++ (a ∷ []))) → Going (i + 1) c' t Next
    going_more {a} {t} {c'} Next e n f =
        let r = line-parts (k + i) (meaning c) read (p s) a t (sym e) in
        fin r.value r.rest r.form r.sound r.then
      where
        fin : (b : A) (u : List ℕ) → p s ≡ found b u → meaning c b ≡ 0 → read b u ≡ read a t → Going (i + 1) c' t Next
        fin b u form sound q =
            let ea : b ≡ a = cc in
            let et : u ≡ t = cc in
            record {
              values = now.values ++ (a ∷ []);
              so_far = rw n (reading-more p meaning step m k c₀ s₀ i c now.values s now.so_far h (form ∙ rw (ea, et)) (ap (meaning c) (sym ea) ∙ sound));
              count = omega (arith, now.count, length-append now.values (a ∷ []));
              kept = f now.values now.count now.kept;
            }

    pub going-refused : {n j : ℕ} → refused_at n j ≡ line (k + i) (p s) (meaning c) read → many_lines p meaning step m k c₀ s₀ ≡ refused_at n j
    going-refused {n} {j} e = go (p s) refl e
      where
        go : (x : Parsed A) → p s ≡ x → refused_at n j ≡ line (k + i) x (meaning c) read → many_lines p meaning step m k c₀ s₀ ≡ refused_at n j
        go bad_form q e = reading-bad p meaning step m k c₀ s₀ i c now.values s now.so_far h q ∙ same-refusal e
        go (found a t) q e = refuse (meaning c a) refl e
          where
            refuse : (r : ℕ) → meaning c a ≡ r → refused_at n j ≡ judged r (k + i) (read a t) → many_lines p meaning step m k c₀ s₀ ≡ refused_at n j
            refuse zero z e = refused-read e
            refuse (suc r) z e =
                reading-refused p meaning step m k c₀ s₀ i c now.values s now.so_far h q (λ w. absurd (omega (arith, z, w)))
                ∙ ap (λ (y : ℕ). refused_at y (k + i)) z
                ∙ same-refusal e

  pub going_end : {i : ℕ} {c : S} {s : List ℕ} {Kept : List A → Type 0} (now : Going i c s Kept) → m ≤ i → many_lines p meaning step m k c₀ s₀ ≡ read now.values s
  going_end {i} {c} {s} now h = reading-end p meaning step m k c₀ s₀ i c now.values s now.so_far h

-- the values l stand before the old ones, and one more is stored
pub put_next :
    {A : Type 0} (d : A) (l : List A) (v : A) (old : List A) {x : List A} {i : ℕ} → length l ≡ i → x ≡ l ++ drop i old → i < length old
    → set x i v ≡ (l ++ (v ∷ [])) ++ drop (i + 1) old
put_next d l v old {x} {i} c e h =
    let n : suc i ≡ i + 1 = omega arith in
    rw (e, drop-cons old i d h, set_at l (get_or old i d) (drop (suc i) old) v i c, n) (sym (append_snoc l v (drop (i + 1) old)))

-- ---- the size line's numbers

-- a refusal is one only, and no success
err-same : {A : Type 0} {r k : Refusal} → ◌≡◌ {A = Result A Refusal} (Err r) (Err k) → r ≡ k
err-same e = cc

err-never : {A X : Type 0} {r : Refusal} {a : A} → ◌≡◌ {A = Result A Refusal} (Err r) (Ok a) → X
err-never e = absurd (let z : ◌≡◌ {A = Bool} true false = cc in search rules)

module _ (texture : ℕ) (z : SizeFields) where
  -- the checks of size and sides, and those after them
  abbrev sizes : List (Bool × ℕ)
  sizes = (size_ok z.n, 1) ∷ (sides_ok (state_of z.n z.width z.height 0), 8) ∷ []

  abbrev others : List (Bool × ℕ)
  others = (texture_ok texture (z.width * z.height), 2) ∷ (leb 1 z.values && leb z.values most_values, 3) ∷ []

  -- one of the first two refuses, or neither does
  pub size_sides : (r : Refusal) → number_of r ≡ new_refusal z.n z.width z.height → number_of r ≡ size_meaning texture z
  unfolding size_meaning new_refusal
  size_sides r e = e ∙ sym (kept sizes (refusal others 0) (λ q. number-some r (e ∙ q)))

  pub size_rest : 0 ≡ new_refusal z.n z.width z.height → size_meaning texture z ≡ refusal others 0
  unfolding size_meaning new_refusal
  size_rest e = passes sizes (refusal others 0) (holds sizes 0 (sym e)).0

  -- a size or sides are refused, or the sheet is the empty one of them
  pub head_refused : (r : Refusal) → refused (number_of r) ≡ new_answer z.n z.width z.height → refused (number_of r) ≡ answer (size_meaning texture z) z
  unfolding new_answer
  head_refused r e =
      let q = refused-means (new_refusal z.n z.width z.height) (number_of r) (state_of z.n z.width z.height 0) (sym e) in
      refused-by z (size_sides r q.0) (λ w. q.1 (sym q.0 ∙ w))

  pub head_empty : {S : Sheet} → given S ≡ new_answer z.n z.width z.height → (0 ≡ new_refusal z.n z.width z.height) × (S ≡ state_of z.n z.width z.height 0)
  unfolding new_answer
  head_empty {S} e =
      let q = given-means (new_refusal z.n z.width z.height) (state_of z.n z.width z.height 0) S (sym e) in
      (sym q.0, sym q.1)

  -- the texture is refused, or the number of values is, or neither
  module _ (e : 0 ≡ new_refusal z.n z.width z.height) where
    short : {k : ℕ} → suc k ≡ refusal others 0 → refused (suc k) ≡ answer (size_meaning texture z) z
    short h = refused-by z (h ∙ sym (size_rest e)) (λ w. omega (arith, w))

    pub head-length : {r : Refusal} {b : Bool} → Err r ≡ checked b Refusal.Length → b ≡ texture_ok texture (z.width * z.height) → refused (number_of r) ≡ answer (size_meaning texture z) z
    head-length {b = true} h q = err-never h
    head-length {r} {b = false} h q = rw (err-same h) (short (rw (← q) refl))

    pub head-values :
        {r : Refusal} {a b : Bool} → Ok tt ≡ checked a Refusal.Length → a ≡ texture_ok texture (z.width * z.height)
        → Err r ≡ checked b Refusal.Table → b ≡ leb 1 z.values && leb z.values most_values → refused (number_of r) ≡ answer (size_meaning texture z) z
    head-values {a = false} p q h t = err-never (sym p)
    head-values {a = true} {b = true} p q h t = err-never h
    head-values {r} {a = true} {b = false} p q h t = rw (err-same h) (short (rw (← q, ← t) refl))

    pub head-whole :
        {a b : Bool} → Ok tt ≡ checked a Refusal.Length → a ≡ texture_ok texture (z.width * z.height)
        → Ok tt ≡ checked b Refusal.Table → b ≡ leb 1 z.values && leb z.values most_values → given z ≡ answer (size_meaning texture z) z
    head-whole {a = false} p q h t = err-never (sym p)
    head-whole {a = true} {b = false} p q h t = err-never (sym h)
    head-whole {a = true} {b = true} p q h t = answer-given (size_meaning texture z) z (size_rest e ∙ rw (← q, ← t) refl)

-- all are stored
pub stored_all : {A : Type 0} (l old : List A) {x : List A} {i : ℕ} → x ≡ l ++ drop i old → length old ≤ i → x ≡ l
stored_all l old e h = e ∙ rw (drop_of_length-le old h, append-nil l)

pub loop_read : {A : Type 0} {x : Lined A} {l t : A} {s : List ℕ} → x ≡ read l s → t ≡ l → read t s ≡ x
loop_read {s = s} e q = ap (λ (y : _). read y s) q ∙ sym e

-- what judging the lists' counts cites
pub ruleset counts = (length-patterns)
