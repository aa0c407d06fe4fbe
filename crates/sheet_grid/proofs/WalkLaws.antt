-- Where exactly the first ones of each run are present, the walk gives what two counts give.
use Prim.Native.Nat.{ℕ, zero, suc, ◌+◌, ◌-◌, ◌*◌, ◌≤◌, ◌<◌, min}
use mathlib.Core.Bool.{Bool, true, false, cond}
use mathlib.Core.List.{List}
use mathlib.Core.Path.{◌≡◌, refl, sym, ap, ◌∙◌}
use native.Mathlib.Decide.{dec_lt}
use native.Mathlib.Omega.{arith}
use borrow.Author.Tests.{lt-ltb, le-ltb, eq-eqb, ne_eqb}
use lib.Dec.{ltb}
use Rattle.arith.proofs.ListLaws.{list_of-ext}
use Rattle.sheet_grid.specs.Neighbours.{Source, sample, nowhere, read_from, first_present, substituted_by, corner_present, left_own, corner_own, top_own, walk, substituted, walked}
use Rattle.sheet_grid.specs.Counts.{Counted, run, counted_left, counted_top, counted_at, counted}

-- ---- the first present, and the last present up to a place

-- none present
first-none : (f : ℕ → Source) (m : ℕ) → ((j : ℕ) → j < m → f j ≡ nowhere) → first_present f m ≡ nowhere
unfolding first_present
first-none f zero h = refl
first-none f (suc m) h = rw (first-none f m (λ j l. h j (omega arith)), h m (omega arith))

-- the first present is at place d
first-is :
    (f : ℕ → Source) {p : ℕ} (m d : ℕ) → d < m → ((j : ℕ) → j < d → f j ≡ nowhere) → f d ≡ sample p → first_present f m ≡ sample p
unfolding first_present
first-is f zero d l h e = absurd (omega arith)
first-is f {p} (suc m) d l h e =
    elim (dec_lt d m) [
      | yes s ↦ rw (first-is f m d s h e)
      | no s ↦ let q : d ≡ m = omega arith in rw (first-none f m (λ j b. h j (omega arith)), ← q) e
    ]

-- none present up to place i: the leading ones take z
last_none : (z : Source) (f : ℕ → Source) (i : ℕ) → ((j : ℕ) → j ≤ i → f j ≡ nowhere) → substituted_by z f i ≡ z
unfolding substituted_by
last_none z f zero h = rw (h 0 (omega arith))
last_none z f (suc i) h = rw (h (suc i) (omega arith)) (last_none z f i (λ j l. h j (omega arith)))

-- the last present up to place i is at place d
last-is :
    (z : Source) (f : ℕ → Source) {p : ℕ} (i d : ℕ) → d ≤ i → f d ≡ sample p → ((j : ℕ) → d < j → j ≤ i → f j ≡ nowhere)
    → substituted_by z f i ≡ sample p
unfolding substituted_by
last-is z f zero d l e h = let q : d ≡ 0 = omega arith in rw (rw q at e)
last-is z f {p} (suc i) d l e h =
    elim (dec_lt i d) [
      | yes s ↦ let q : d ≡ suc i = omega arith in rw (rw q at e)
      | no s ↦ rw (h (suc i) (omega arith) (omega arith)) (last-is z f i d (omega arith) e (λ j a b. h j a (omega arith)))
    ]

-- ---- runs, with a sample present and with none

run-some : (count : ℕ) (own : ℕ → Source) (other : Source) (i j : ℕ) → 0 < count → min i (count - 1) ≡ j → run count own other i ≡ own j
run-some count own other i j h e = rw (lt-ltb 0 count h, e)

run_none : (count : ℕ) (own : ℕ → Source) (other : Source) (i : ℕ) → count ≤ 0 → run count own other i ≡ other
run_none count own other i h = rw (le-ltb 0 count h)

-- ---- the walk where two counts say what is present

module _ (n w : ℕ) (present : ℕ → ℕ → Bool) (x y l t : ℕ) (c : Counted n present x y l t) where
  -- the walk, and its places on both runs
  f : ℕ → Source
  f = walk n w present x y

  left_is : (i j : ℕ) → i + j + 1 ≡ 2 * n → f i ≡ cond (ltb j l) (left_own w x y j) nowhere
  unfolding f
  left_is i j e = let q : 2 * n - 1 - i ≡ j = omega arith in rw (lt-ltb i (2 * n) (omega arith), q, c.left j (omega arith))

  top-is : (i j : ℕ) → i ≡ 2 * n + 1 + j → j < 2 * n → f i ≡ cond (ltb j t) (top_own w x y j) nowhere
  unfolding f
  top-is i j e h =
      let q : i - (2 * n + 1) ≡ j = omega arith in
      rw (le-ltb i (2 * n) (omega arith), ne_eqb i (2 * n) (λ g. omega arith), q, c.top j h)

  -- present
  left_here : (i j : ℕ) → i + j + 1 ≡ 2 * n → j < l → f i ≡ left_own w x y j
  left_here i j e h = left_is i j e ∙ rw (lt-ltb j l h)

  top-here : (i j : ℕ) → i ≡ 2 * n + 1 + j → j < 2 * n → j < t → f i ≡ top_own w x y j
  top-here i j e b h = top-is i j e b ∙ rw (lt-ltb j t h)

  -- missing
  left-gone : (i : ℕ) → i + l < 2 * n → f i ≡ nowhere
  left-gone i h = left_is i (2 * n - 1 - i) (omega arith) ∙ rw (le-ltb (2 * n - 1 - i) l (omega arith))

  top-gone : (i : ℕ) → 2 * n + t < i → i ≤ 4 * n → f i ≡ nowhere
  top-gone i h b = top-is i (i - (2 * n + 1)) (omega arith) (omega arith) ∙ rw (le-ltb (i - (2 * n + 1)) t (omega arith))

  corner-gone : (0 < l → 0 < t → ⊥) → f (2 * n) ≡ nowhere
  unfolding f
  corner-gone h = rw (le-ltb (2 * n) (2 * n) (omega arith), eq-eqb (2 * n) (2 * n) refl) (go (corner_present present x y) refl)
    where
      go : (b : Bool) → corner_present present x y ≡ b → cond b (corner_own w x y) nowhere ≡ nowhere
      go true e = let q = c.corner e in absurd (h q.0 q.1)
      go false e = refl

  left-all-gone : l ≤ 0 → (j : ℕ) → j ≤ 2 * n → f j ≡ nowhere
  left-all-gone h j b =
      elim (dec_lt j (2 * n)) [
        | yes s ↦ left-gone j (omega arith)
        | no s ↦ let q : j ≡ 2 * n = omega arith in ap f q ∙ corner-gone (λ g _. omega arith)
      ]

  top-all-gone : t ≤ 0 → (j : ℕ) → 2 * n ≤ j → j ≤ 4 * n → f j ≡ nowhere
  top-all-gone h j a b =
      elim (dec_lt (2 * n) j) [
        | yes s ↦ top-gone j (omega arith) b
        | no s ↦ let q : j ≡ 2 * n = omega arith in ap f q ∙ corner-gone (λ _ g. omega arith)
      ]

  all-gone : l ≤ 0 → t ≤ 0 → (j : ℕ) → j ≤ 4 * n → f j ≡ nowhere
  all-gone h v j b =
      elim (dec_lt (2 * n) j) [
        | yes s ↦ top-all-gone v j (omega arith) b
        | no s ↦ left-all-gone h j (omega arith)
      ]

  -- the first that is present
  first : Source
  first = first_present f (4 * n + 1)

  -- it is the last of the left run, or the first of the top run where the left run has none
  first-left : 0 < l → l < 2 * n → first ≡ left_own w x y (l - 1)
  unfolding first
  first-left h b =
      first-is f (4 * n + 1) (2 * n - l) (omega arith) (λ j a. left-gone j (omega arith)) (left_here (2 * n - l) (l - 1) (omega arith) (omega arith))

  first-other : 0 < n → l ≤ 0 → first ≡ run t (top_own w x y) nowhere 0
  unfolding first
  first-other s h =
      elim (dec_lt 0 t) [
        | yes v ↦
            first-is f (4 * n + 1) (2 * n + 1) (omega arith) (λ j a. left-all-gone h j (omega arith)) (top-here (2 * n + 1) 0 (omega arith) (omega arith) v)
            ∙ sym (run-some t (top_own w x y) nowhere 0 0 v (omega arith))
        | no v ↦
            first-none f (4 * n + 1) (λ j a. all-gone h (omega arith) j (omega arith)) ∙ sym (run_none t (top_own w x y) nowhere 0 (omega arith))
      ]

  -- ---- the laws

  -- the left run
  pub left-walked : (i : ℕ) → i < 2 * n → substituted n w present x y (2 * n - 1 - i) ≡ counted_left w x y l t i
  unfolding substituted counted_left f first
  left-walked i b =
      elim (dec_lt 0 l) [
        | yes h ↦ elim (dec_lt i l) [
          | yes s ↦
              last-is first f (2 * n - 1 - i) (2 * n - 1 - i) (omega arith) (left_here (2 * n - 1 - i) i (omega arith) s) (λ j a e. absurd (omega arith))
              ∙ sym (run-some l (left_own w x y) (run t (top_own w x y) nowhere 0) i i h (omega arith))
          | no s ↦
              last_none first f (2 * n - 1 - i) (λ j a. left-gone j (omega arith))
              ∙ first-left h (omega arith)
              ∙ sym (run-some l (left_own w x y) (run t (top_own w x y) nowhere 0) i (l - 1) h (omega arith))
        ]
        | no h ↦
            last_none first f (2 * n - 1 - i) (λ j a. left-all-gone (omega arith) j (omega arith))
            ∙ first-other (omega arith) (omega arith)
            ∙ sym (run_none l (left_own w x y) (run t (top_own w x y) nowhere 0) i (omega arith))
      ]

  -- the top run where none of it is present
  above-gone : (i : ℕ) → i < 2 * n → t ≤ 0 → substituted n w present x y (2 * n + 1 + i) ≡ run l (left_own w x y) nowhere 0
  unfolding substituted f first
  above-gone i b v =
      elim (dec_lt 0 l) [
        | yes h ↦
            last-is first f (2 * n + 1 + i) (2 * n - 1) (omega arith) (left_here (2 * n - 1) 0 (omega arith) h) (λ j a e. top-all-gone v j (omega arith) (omega arith))
            ∙ sym (run-some l (left_own w x y) nowhere 0 0 h (omega arith))
        | no h ↦
            last_none first f (2 * n + 1 + i) (λ j a. all-gone (omega arith) v j (omega arith))
            ∙ first-none f (4 * n + 1) (λ j a. all-gone (omega arith) v j (omega arith))
            ∙ sym (run_none l (left_own w x y) nowhere 0 (omega arith))
      ]

  -- the top run
  pub top-walked : (i : ℕ) → i < 2 * n → substituted n w present x y (2 * n + 1 + i) ≡ counted_top w x y l t i
  unfolding substituted counted_top f first
  top-walked i b =
      elim (dec_lt 0 t) [
        | yes v ↦ elim (dec_lt i t) [
          | yes s ↦
              last-is first f (2 * n + 1 + i) (2 * n + 1 + i) (omega arith) (top-here (2 * n + 1 + i) i refl b s) (λ j a e. absurd (omega arith))
              ∙ sym (run-some t (top_own w x y) (run l (left_own w x y) nowhere 0) i i v (omega arith))
          | no s ↦
              last-is first f (2 * n + 1 + i) (2 * n + t) (omega arith) (top-here (2 * n + t) (t - 1) (omega arith) (omega arith) (omega arith)) (λ j a e. top-gone j a (omega arith))
              ∙ sym (run-some t (top_own w x y) (run l (left_own w x y) nowhere 0) i (t - 1) v (omega arith))
        ]
        | no v ↦ above-gone i b (omega arith) ∙ sym (run_none t (top_own w x y) (run l (left_own w x y) nowhere 0) i (omega arith))
      ]

  -- all 4n neighbours
  pub walked-by-counts : (s : List ℕ) → walked n w present x y s ≡ counted n w x y l t s
  unfolding walked counted
  walked-by-counts s = list_of-ext _ _ (4 * n) (λ i b. ap (read_from s) (go i b (dec_lt i (2 * n))))
    where
      go : (i : ℕ) → i < 4 * n → Dec (i < 2 * n)
          → substituted n w present x y (cond (ltb i (2 * n)) (2 * n - 1 - i) (i + 1)) ≡ counted_at n w x y l t i
      go i b (yes a) = rw (lt-ltb i (2 * n) a) (left-walked i a)
      go i b (no a) =
          let e : i + 1 ≡ 2 * n + 1 + (i - 2 * n) = omega arith in
          rw (le-ltb i (2 * n) (omega arith), e) (top-walked (i - 2 * n) (omega arith))
