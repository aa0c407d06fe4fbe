-- A loop that stores the list, in words, in the front of a slice, and chains its entries.
use Prim.Native.Nat.{ℕ, ◌+◌, ◌-◌, ◌*◌, ◌≤◌, ◌<◌}
use mathlib.Core.List.{List, [], ◌∷◌, ◌++◌}
use mathlib.Core.Path.{◌≡◌, refl, sym, ap, ap₂, ◌∙◌, subst}
use native.Mathlib.Nat.{mul-zero, mul-add, mul-one, mul-le-mul_left, add-sub_of_le, le_trans}
use native.Mathlib.Omega.{arith}
use Rattle.std.proofs.Common.{Option, None, Some}
use lib.Count.{ones}
use lib.ListN.{length, get_or, set, take, drop, replicate}
use lib.Seq.{drop_at, take_at, drop-append-add, drop-drop, sets, sets-eq, length-sets}
use Rattle.arith.proofs.ListLaws.{length-end}
use Rattle.pattern.specs.Size.{greatest_samples}
use Rattle.pattern.specs.Words.{words_of, pattern_at, in_words, word_list}
use Rattle.pattern.proofs.WordLaws.{length-in, length-words, words-end, words-pattern}
use Rattle.wedgelet.specs.Wedgelet.{wedgelet, ends}
use Rattle.wedgelet.specs.Answer.{needed, needed_words, most_patterns}
use Rattle.wedgelet.proofs.Growth.{holds_at, holds-none, skip-zero, skip-held, kept}
use Rattle.wedgelet.proofs.WedgeletLaws.{last-at, old-at}
use Rattle.wedgelet.proofs.Chain.{Chained, chained-none, chained-add}

-- `l` holds the words of the patterns `k`, `count` of them, and after them what `l₀` has there
pub record Front (n : ℕ) (k l₀ l : List ℕ) (count : ℕ) : Type 0 where
  pub counted : count ≡ length k
  pub stored : l ≡ word_list n k ++ drop (words_of n * length k) l₀
  pub same : length l ≡ length l₀

pub front-none : (n : ℕ) (l : List ℕ) → Front n [] l l 0
unfolding word_list
front-none n l = record { counted = refl; stored = rw mul-zero; same = refl }

pub front-as : {n : ℕ} {k k' l₀ l : List ℕ} {count : ℕ} → k' ≡ k → Front n k l₀ l count → Front n k' l₀ l count
front-as {n} {l₀ = l₀} {l = l} {count = count} e f = subst (λ (t : List ℕ). Front n t l₀ l count) (sym e) f

-- a front stays one over the slice as it is now
pub front_self : {n : ℕ} {k l₀ l : List ℕ} {count : ℕ} → Front n k l₀ l count → Front n k l l count
front_self {n} {k} {l₀} {l} f =
    let m = words_of n * length k in
    record {
      counted = f.counted;
      stored = f.stored ∙ ap (λ (t : List ℕ). word_list n k ++ t) (sym (drop_at (word_list n k) (drop m l₀) m (length-words n k)) ∙ ap (drop m) (sym f.stored));
      same = refl;
    }

-- a longer front over a front
pub front-over : {n : ℕ} {k k' l₀ l l' : List ℕ} {c c' : ℕ} → length k ≤ length k' → Front n k l₀ l c → Front n k' l l' c' → Front n k' l₀ l' c'
front-over {n} {k} {k'} {l₀} {l} {l'} h f g =
    let m = words_of n * length k in
    let m' = words_of n * length k' in
    let le : m ≤ m' = mul-le-mul_left (words_of n) h in
    let past : drop m' l ≡ drop m' l₀ =
    ap₂ drop (sym (add-sub_of_le le) ∙ ap (λ (x : ℕ). x + (m' - m)) (sym (length-words n k))) f.stored
    ∙ drop-append-add (word_list n k) (drop m l₀) (m' - m)
    ∙ drop-drop (m' - m) m l₀
    ∙ ap (λ (x : ℕ). drop x l₀) (add-sub_of_le le) in
    record { counted = g.counted; stored = g.stored ∙ ap (λ (t : List ℕ). word_list n k' ++ t) past; same = g.same ∙ f.same }

-- the pattern at an entry is that of the list
pub front_at : {n : ℕ} {k l₀ l : List ℕ} {count : ℕ} → Front n k l₀ l count → (i : ℕ) → i < count → pattern_at n l i ≡ get_or k i 0
front_at {n} {k} {l₀} f i h =
    ap (λ (t : List ℕ). pattern_at n t i) f.stored ∙ words-pattern n k (drop (words_of n * length k) l₀) i (omega (arith, f.counted))

-- one pattern more
pub front-add :
    {n : ℕ} {k l₀ l : List ℕ} {count : ℕ} (w : ℕ) → words_of n * (count + 1) ≤ length l₀ → Front n k l₀ l count
    → Front n (k ++ (w ∷ [])) l₀ (sets l (words_of n * count) (in_words n w)) (count + 1)
front-add {n} {k} {l₀} {l} {count} w h f =
    let m = words_of n * length k in
    let size = length-in n w in
    let more : words_of n * (length k + 1) ≡ m + words_of n = mul-add (words_of n) (length k) 1 ∙ ap (λ (x : ℕ). m + x) (mul-one (words_of n)) in
    let here : words_of n * count ≡ m = ap (λ (x : ℕ). words_of n * x) f.counted in
    let fits : m + length (in_words n w) ≤ length l = omega (arith, f.same, size, more, ap (λ (x : ℕ). words_of n * (x + 1)) f.counted) in
    let front : take m l ≡ word_list n k = ap (take m) f.stored ∙ take_at (word_list n k) (drop m l₀) m (length-words n k) in
    let past : m + length (in_words n w) ≡ words_of n * length (k ++ (w ∷ [])) = ap (λ (x : ℕ). m + x) size ∙ sym more ∙ ap (λ (x : ℕ). words_of n * x) (sym (length-end k w)) in
    let rest : drop (m + length (in_words n w)) l ≡ drop (m + length (in_words n w)) l₀ =
    ap₂ drop (ap (λ (x : ℕ). x + length (in_words n w)) (sym (length-words n k))) f.stored
    ∙ drop-append-add (word_list n k) (drop m l₀) (length (in_words n w))
    ∙ drop-drop (length (in_words n w)) m l₀ in
    record {
      counted = omega (arith, f.counted, length-end k w);
      stored =
          ap (λ (i : ℕ). sets l i (in_words n w)) here
          ∙ sets-eq (in_words n w) l m fits
          ∙ ap₂ (λ (a b : List ℕ). a ++ in_words n w ++ b) front rest
          ∙ ap₂ (λ (a : List ℕ) (i : ℕ). a ++ drop i l₀) (sym (words-end n k w)) past;
      same = length-sets l (words_of n * count) (in_words n w) ∙ f.same;
    }

-- room for a pattern at each entry that a list needs
pub room_at : (n entry words : ℕ) → entry < needed n → needed_words n ≤ words → words_of n * (entry + 1) ≤ words
room_at n entry words h l = le_trans (mul-le-mul_left (words_of n) (let q : entry + 1 ≤ needed n = omega arith in q)) l

-- ---- the list so far, with its entries chained by their number of marks

pub record Grown (n : ℕ) (k l₀ l : List ℕ) (latest earlier : List (Option ℕ)) (count : ℕ) : Type 0 where
  pub front : Front n k l₀ l count
  pub chain : Chained (pattern_at n l) latest earlier count

pub grown-none : (n : ℕ) (l : List ℕ) → Grown n [] l l (replicate (greatest_samples + 1) None) (replicate most_patterns None) 0
grown-none n l = record { front = front-none n l; chain = chained-none (pattern_at n l) }

pub grown-as : {n : ℕ} {k k' l₀ l : List ℕ} {latest earlier : List (Option ℕ)} {count : ℕ} → k' ≡ k → Grown n k l₀ l latest earlier count → Grown n k' l₀ l latest earlier count
grown-as e b = record { front = front-as e b.front; chain = b.chain }

pub grown-self : {n : ℕ} {k l₀ l : List ℕ} {latest earlier : List (Option ℕ)} {count : ℕ} → Grown n k l₀ l latest earlier count → Grown n k l l latest earlier count
grown-self b = record { front = front_self b.front; chain = b.chain }

pub grown-over :
    {n : ℕ} {k k' l₀ l l' : List ℕ} {a b a' b' : List (Option ℕ)} {c c' : ℕ} → length k ≤ length k' → Grown n k l₀ l a b c → Grown n k' l l' a' b' c'
    → Grown n k' l₀ l' a' b' c'
grown-over h f g = record { front = front-over h f.front g.front; chain = g.chain }

-- the steps of the pair loops: a candidate that is dropped, and one that is kept
module _ (n : ℕ) (k l₀ l : List ℕ) (latest earlier : List (Option ℕ)) (s e : ℕ) {count w : ℕ} (d : e ≡ s → ⊥) (v : w ≡ wedgelet n s e) (f : Grown n (ends n k s e) l₀ l latest earlier count) where
  pub grown-zero : w ≡ 0 → Grown n (ends n k s (e + 1)) l₀ l latest earlier count
  grown-zero h = grown-as (skip-zero n k s e d (sym v ∙ h)) f

  pub grown-held : {i : ℕ} (j : ℕ) → j < count → pattern_at n l j ≡ w → i ≡ e → Grown n (ends n k s (i + 1)) l₀ l latest earlier count
  grown-held j h q t =
      grown-as
      (ap (λ (x : ℕ). ends n k s (x + 1)) t
      ∙ skip-held n k s e d
      (holds_at (ends n k s e) (wedgelet n s e) j (omega (arith, f.front.counted)) (sym (front_at f.front j h) ∙ q ∙ v)))
      f

  pub grown-kept :
      {i m : ℕ} {l' : List ℕ} → (w ≡ 0 → ⊥) → ((j : ℕ) → j < count → pattern_at n l j ≡ w → ⊥) → words_of n * (count + 1) ≤ length l → count < most_patterns
      → m < greatest_samples + 1 → m ≡ ones w → i ≡ e → l' ≡ sets l (words_of n * count) (in_words n w)
      → Grown n (ends n k s (i + 1)) l₀ l' (set latest m (Some count)) (set earlier count (get_or latest m None)) (count + 1)
  grown-kept {i} {m} {l'} z h r c mb me t o =
      let x = ends n k s e in
      let new : Front n (x ++ (w ∷ [])) l₀ l' (count + 1) =
      subst (λ (y : List ℕ). Front n (x ++ (w ∷ [])) l₀ y (count + 1)) (sym o) (front-add w (omega (arith, f.front.same)) f.front) in
      grown-as
      (ap (λ (y : ℕ). ends n k s (y + 1)) t
      ∙ kept n k s e d (λ q. z (v ∙ q))
      (holds-none x (wedgelet n s e)
      (λ j lt q. let lt' : j < count = omega (arith, f.front.counted) in h j lt' (front_at f.front j lt' ∙ q ∙ sym v)))
      ∙ ap (λ (y : ℕ). x ++ (y ∷ [])) (sym v))
      (record {
        front = new;
        chain =
            chained-add m mb c
            (λ j lt. front_at new j (omega arith) ∙ old-at x w j (omega (arith, f.front.counted)) ∙ sym (front_at f.front j lt))
            (ap ones (front_at new count (omega arith) ∙ last-at x w count f.front.counted) ∙ sym me)
            f.chain;
      })
