-- Laws of lists built by index, and of loops that fill them.
use Prim.Native.Nat.{ℕ, zero, suc, ◌+◌, ◌≤◌, ◌<◌}
use mathlib.Core.Path.{◌≡◌, refl, sym, ap, ap₂, ◌∙◌}
use mathlib.Core.Bool.{true}
use mathlib.Core.List.{List, [], ◌∷◌, ◌++◌, map}
use mathlib.Core.Logic.{⊎_elim}
use native.Mathlib.Decide.{dec_lt}
use native.Mathlib.Omega.{arith}
use native.Mathlib.Numerals.{add-one}
use lib.ListN.{length, get_or, set, replicate, length-append, get_or-append, get_or-eq_default}
use lib.Seq.{get_or_at, get_or-set_same, get_or-set_other, ext_get_or}
use borrow.Author.Count.{below_more}
use borrow.Author.Tests.{eq-eqb, eqb-true}
use lib.Dec.{eqb}
use Rattle.arith.specs.Lists.{list_of, upto, same_list}
use Rattle.arith.proofs.Bools.{both_of, clash}
use Rattle.arith.proofs.LeastLaws.{last-or-below}

module _ {A : Type 0} where
  pub length-end : (l : List A) (a : A) → length (l ++ (a ∷ [])) ≡ length l + 1
  length-end l a = length-append l (a ∷ [])

  -- ---- list_of

  pub length-list_of : (f : ℕ → A) (k : ℕ) → length (list_of f k) ≡ k
  unfolding list_of
  length-list_of f zero = refl
  length-list_of f (suc k) = omega (arith, length-end (list_of f k) (f k), length-list_of f k)

  pub list_of-at : (f : ℕ → A) (d : A) (k i : ℕ) → i < k → get_or (list_of f k) i d ≡ f i
  unfolding list_of
  list_of-at f d zero i h = absurd (omega arith)
  list_of-at f d (suc k) i h =
      ⊎_elim
      (λ e. rw e (get_or_at (list_of f k) (f k) [] d k (length-list_of f k)))
      (λ l. get_or-append (list_of f k) (f k ∷ []) d i (omega (arith, length-list_of f k)) ∙ list_of-at f d k i l)
      (last-or-below h)

  pub list_of-ext : (f g : ℕ → A) (k : ℕ) → ((i : ℕ) → i < k → f i ≡ g i) → list_of f k ≡ list_of g k
  unfolding list_of
  list_of-ext f g zero h = refl
  list_of-ext f g (suc k) h =
      ap₂ (λ (l : List A) (a : A). l ++ (a ∷ [])) (list_of-ext f g k (λ i l. h i (omega arith))) (h k (omega arith))

  -- a list is built of its own elements
  pub list_of-own : (l : List A) (d : A) (k : ℕ) → length l ≡ k → list_of (λ i. get_or l i d) k ≡ l
  list_of-own l d k e =
      ext_get_or d (list_of (λ i. get_or l i d) k) l (length-list_of (λ i. get_or l i d) k ∙ sym e)
      (λ i h. list_of-at (λ j. get_or l j d) d k i (omega (arith, length-list_of (λ i. get_or l i d) k)))

  -- a loop that stores f i at i, one value a turn
  pub stored :
      (f : ℕ → A) (d : A) (l : List A) (i : ℕ) (v : A) → i < length l → v ≡ f i → ((k : ℕ) → k < i → get_or l k d ≡ f k)
      → (k : ℕ) → k < i + 1 → get_or (set l i v) k d ≡ f k
  stored f d l i v h e before =
      below_more (λ (k : ℕ). get_or (set l i v) k d ≡ f k) i
      (λ k j. get_or-set_other l i k v d (λ p. absurd (omega arith)) ∙ before k j)
      (get_or-set_same l i v d h ∙ e)

  -- all of it has been stored
  pub stored-all : (f : ℕ → A) (d : A) (l : List A) (m : ℕ) → length l ≡ m → ((k : ℕ) → k < m → get_or l k d ≡ f k) → l ≡ list_of f m
  stored-all f d l m e all =
      ext_get_or d l (list_of f m) (e ∙ sym (length-list_of f m))
      (λ k h. let j : k < m = omega arith in all k j ∙ sym (list_of-at f d m k j))

  -- ---- upto

  pub upto-none : (m : ℕ) (f : ℕ → A) (z : A) → upto m 0 f z ≡ replicate m z
  unfolding upto
  upto-none m f z = refl

  pub length-upto : (m k : ℕ) (f : ℕ → A) (z : A) → length (upto m k f z) ≡ m
  unfolding upto
  length-upto zero zero f z = refl
  length-upto (suc m) zero f z = ap suc (length-upto m zero f z)
  length-upto zero (suc k) f z = refl
  length-upto (suc m) (suc k) f z = ap suc (length-upto m k (λ i. f (suc i)) z)

  upto-more : (m k : ℕ) (f : ℕ → A) (z : A) → k < m → set (upto m k f z) k (f k) ≡ upto m (suc k) f z
  unfolding upto
  upto-more zero k f z h = absurd (omega arith)
  upto-more (suc m) zero f z h = refl
  upto-more (suc m) (suc k) f z h = ap (λ (l : List A). f 0 ∷ l) (upto-more m k (λ i. f (suc i)) z (omega arith))

  pub upto-at : (m k : ℕ) (f : ℕ → A) (z d : A) (i : ℕ) → k ≤ m → i < k → get_or (upto m k f z) i d ≡ f i
  unfolding upto
  upto-at m zero f z d i h l = absurd (omega arith)
  upto-at zero (suc k) f z d i h l = absurd (omega arith)
  upto-at (suc m) (suc k) f z d zero h l = refl
  upto-at (suc m) (suc k) f z d (suc i) h l = upto-at m k (λ j. f (suc j)) z d i (omega arith) (omega arith)

  pub upto-ext : (m k : ℕ) (f g : ℕ → A) (z : A) → ((i : ℕ) → i < k → f i ≡ g i) → upto m k f z ≡ upto m k g z
  unfolding upto
  upto-ext m zero f g z h = refl
  upto-ext zero (suc k) f g z h = refl
  upto-ext (suc m) (suc k) f g z h =
      ap₂ (λ (a : A) (l : List A). a ∷ l) (h 0 (omega arith)) (upto-ext m k (λ i. f (suc i)) (λ i. g (suc i)) z (λ i l. h (suc i) (omega arith)))

  -- a turn of a loop that fills the places in order; what it stores is v
  pub fill-by : (m k : ℕ) (f : ℕ → A) (z : A) {r : List A} {v : A} → r ≡ upto m k f z → v ≡ f k → k < m → set r k v ≡ upto m (k + 1) f z
  fill-by m k f z e q h = rw (q, add-one, e) (upto-more m k f z h)

  -- its end
  pub fill_end : (m k n : ℕ) (f : ℕ → A) (z : A) {r : List A} → r ≡ upto m k f z → k ≤ n → n ≤ k → r ≡ upto m n f z
  fill_end m k n f z e h l = let q : k ≡ n = omega arith in rw (← q) e

-- a list built of values below b, which is not 0, has no other; past its end a list reads 0
pub list_of-below : (f : ℕ → ℕ) (b k : ℕ) → 0 < b → ((i : ℕ) → f i < b) → (i : ℕ) → get_or (list_of f k) i 0 < b
list_of-below f b k some small i = go (dec_lt i k)
  where
    go : Dec (i < k) → get_or (list_of f k) i 0 < b
    go (yes l) = rw (list_of-at f 0 k i l) (small i)
    go (no l) = rw (get_or-eq_default (list_of f k) 0 {n = i} (omega (arith, length-list_of f k))) some

-- ---- map

-- a value of a list to which f was applied
pub map_at : {A B : Type 0} (f : A → B) (l : List A) (i : ℕ) (d : B) (e : A) → i < length l → get_or (map f l) i d ≡ f (get_or l i e)
map_at f [] i d e h = absurd (omega arith)
map_at f (a ∷ l) zero d e h = refl
map_at f (a ∷ l) (suc i) d e h = map_at f l i d e (omega arith)

-- ---- same_list

pub same-list : (l m : List ℕ) → same_list l m ≡ true → l ≡ m
unfolding same_list
same-list [] [] h = refl
same-list [] (b ∷ m) h = clash (sym h)
same-list (a ∷ l) [] h = clash (sym h)
same-list (a ∷ l) (b ∷ m) h =
    let p = both_of (eqb a b) (same_list l m) h in
    ap₂ ◌∷◌ (eqb-true a b p.0) (same-list l m p.1)

pub list_same : (l : List ℕ) → same_list l l ≡ true
unfolding same_list
list_same [] = refl
list_same (a ∷ l) = rw (eq-eqb a a refl) (list_same l)
