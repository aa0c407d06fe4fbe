-- A block written into a sheet's samples, by index, and the loop that writes it.
use Prim.Native.Nat.{ℕ, ◌+◌, ◌-◌, ◌*◌, ◌/◌, ◌%◌, ◌≤◌, ◌<◌}
use mathlib.Core.Bool.{Bool, true, false, cond, ◌&&◌}
use mathlib.Core.List.{List, []}
use mathlib.Core.Path.{◌≡◌, refl, sym, ap, ◌∙◌}
use native.Mathlib.Decide.{dec_lt, ℕ_discrete}
use native.Mathlib.Nat.{div-add-mod'}
use native.Mathlib.Omega.{arith}
use borrow.Author.Tests.{ltb-true, leb-true, lt-ltb, le-ltb, le-leb, lt-leb}
use lib.Arith.{digits_div, digits_mod}
use lib.Dec.{leb, ltb}
use lib.ListN.{length, get_or, set}
use lib.Seq.{get_or-set_same, get_or-set_other}
use Rattle.arith.specs.Square.{place}
use Rattle.arith.proofs.Bools.{both_of}
use Rattle.arith.proofs.ListLaws.{length-list_of, list_of-at, stored-all}
use Rattle.block.specs.Block.{capacity, samples_of}
use Rattle.block.proofs.BlockLaws.{samples-by, samples-at}
use Rattle.sheet_grid.specs.Samples.{covers, written_at, written, cut, cut_block, with_row}

-- column c and row r lie in the block
pub record Covered (n x y c r : ℕ) : Type 0 where
  pub left : x ≤ c
  pub right : c < x + n
  pub top : y ≤ r
  pub bottom : r < y + n

pub covered : (n x y c r : ℕ) → covers n x y c r ≡ true → Covered n x y c r
covered n x y c r e =
    let a = both_of (leb x c) _ e in
    let b = both_of (ltb c (x + n)) _ a.1 in
    let d = both_of (leb y r) (ltb r (y + n)) b.1 in
    record {
      left = leb-true x c a.0;
      right = ltb-true c (x + n) b.0;
      top = leb-true y r d.0;
      bottom = ltb-true r (y + n) d.1;
    }

pub covers-all : (n x y c r : ℕ) → Covered n x y c r → covers n x y c r ≡ true
covers-all n x y c r p =
    simp (le-leb x c p.left, lt-ltb c (x + n) p.right, le-leb y r p.top, lt-ltb r (y + n) p.bottom)

-- column and row of a sample of the block, from its place
pub covers-here : (n w x y i r : ℕ) → x + n ≤ w → i < n → r < n → covers n x y (place w (x + i) (y + r) % w) (place w (x + i) (y + r) / w) ≡ true
covers-here n w x y i r f hi hr =
    let l : x + i < w = omega arith in
    rw (digits_mod (y + r) l, digits_div (y + r) l)
    (covers-all n x y (x + i) (y + r) (record { left = omega arith; right = omega arith; top = omega arith; bottom = omega arith }))

-- its place in the block
pub index-here : (n w x y i r : ℕ) → x + n ≤ w → i < n → place n (place w (x + i) (y + r) % w - x) (place w (x + i) (y + r) / w - y) ≡ place n i r
index-here n w x y i r f hi =
    let l : x + i < w = omega arith in
    let a : x + i - x ≡ i = omega arith in
    let b : y + r - y ≡ r = omega arith in
    rw (digits_mod (y + r) l, digits_div (y + r) l, a, b)

-- ---- by index

pub length-written : (n w x y : ℕ) (b s : List ℕ) → length (written n w x y b s) ≡ length s
unfolding written
length-written n w x y b s = length-list_of (written_at n w x y b s) (length s)

-- a sample of the block is the block's, by its own place
pub written-covered :
    (n w x y : ℕ) (b s : List ℕ) (j : ℕ) → j < length s → covers n x y (j % w) (j / w) ≡ true
    → get_or (written n w x y b s) j 0 ≡ get_or b (place n (j % w - x) (j / w - y)) 0
unfolding written
written-covered n w x y b s j l e = list_of-at (written_at n w x y b s) 0 (length s) j l ∙ rw e

-- every other sample keeps its value
pub written-others :
    (n w x y : ℕ) (b s : List ℕ) (j : ℕ) → j < length s → covers n x y (j % w) (j / w) ≡ false
    → get_or (written n w x y b s) j 0 ≡ get_or s j 0
unfolding written
written-others n w x y b s j l e = list_of-at (written_at n w x y b s) 0 (length s) j l ∙ rw e

-- ---- a row, and the loop that writes it value by value

abbrev pub row_at : ℕ → ℕ → List ℕ → List ℕ → ℕ → ℕ
row_at n at row s j = cond (leb at j && ltb j (at + n)) (get_or row (j - at) 0) (get_or s j 0)

ltb-more : (a k : ℕ) → (a ≡ k → ⊥) → ltb a k ≡ ltb a (k + 1)
ltb-more a k h = go (dec_lt a k)
  where
    go : Dec (a < k) → ltb a k ≡ ltb a (k + 1)
    go (yes l) = lt-ltb a k l ∙ sym (lt-ltb a (k + 1) (omega arith))
    go (no l) = le-ltb a k (omega arith) ∙ sym (le-ltb a (k + 1) (omega (arith, h)))

pub row-none : (at : ℕ) (row s : List ℕ) (j : ℕ) → get_or s j 0 ≡ row_at 0 at row s j
row-none at row s j = go (dec_lt j at)
  where
    go : Dec (j < at) → get_or s j 0 ≡ row_at 0 at row s j
    go (yes l) = rw (lt-leb at j l)
    go (no l) = rw (le-leb at j (omega arith), le-ltb j (at + 0) (omega arith))

-- one value more
pub row_more :
    (at i : ℕ) (row s t : List ℕ) (v : ℕ) → at + i < length t → v ≡ get_or row i 0
    → ((j : ℕ) → j < length s → get_or t j 0 ≡ row_at i at row s j)
    → (j : ℕ) → j < length s → get_or (set t (at + i) v) j 0 ≡ row_at (i + 1) at row s j
row_more at i row s t v room e before j l = go (ℕ_discrete j (at + i))
  where
    go : Dec (j ≡ at + i) → get_or (set t (at + i) v) j 0 ≡ row_at (i + 1) at row s j
    go (yes d) =
        let k : at + i - at ≡ i = omega arith in
        rw (d, le-leb at (at + i) (omega arith), lt-ltb (at + i) (at + (i + 1)) (omega arith), k) (get_or-set_same t (at + i) v 0 room ∙ e)
    go (no d) =
        let k : at + (i + 1) ≡ at + i + 1 = omega arith in
        rw (k, ← ltb-more j (at + i) d) (get_or-set_other t (at + i) j v 0 d ∙ before j l)

-- all of it
pub row-all :
    (n at : ℕ) (row s t : List ℕ) {i : ℕ} → length t ≡ length s → i ≡ n → ((j : ℕ) → j < length s → get_or t j 0 ≡ row_at i at row s j)
    → t ≡ with_row n at row s
unfolding with_row
row-all n at row s t len e all = stored-all (row_at n at row s) 0 t (length s) len (λ j l. all j l ∙ ap (λ (k : ℕ). row_at k at row s j) e)

pub length-row : (n at : ℕ) (row s : List ℕ) → length (with_row n at row s) ≡ length s
unfolding with_row
length-row n at row s = length-list_of (row_at n at row s) (length s)

-- ---- the loop that writes a block row by row

-- sample j of the sheet after the first k rows of the block b
abbrev pub after_rows : ℕ → ℕ → ℕ → ℕ → List (List ℕ) → List ℕ → ℕ → ℕ → ℕ
after_rows n w x y b s k j =
    cond (covers n x y (j % w) (j / w) && ltb (j / w - y) k) (get_or (samples_of n b) (place n (j % w - x) (j / w - y)) 0) (get_or s j 0)

and-false : (a : Bool) → a && false ≡ false
and-false true = refl
and-false false = refl

pub after-none : (n w x y : ℕ) (b : List (List ℕ)) (s : List ℕ) (j : ℕ) → get_or s j 0 ≡ after_rows n w x y b s 0 j
after-none n w x y b s j = rw (le-ltb (j / w - y) 0 (omega arith), and-false (covers n x y (j % w) (j / w)))

-- a sample of the block is in the row whose first sample stands at `at`, or in another row
module _ (n w x y r j : ℕ) (fits : x + n ≤ w) where
  abbrev at : ℕ
  at = place w x (y + r)

  in_row : j / w ≡ y + r → Covered n x y (j % w) (j / w) → (at ≤ j) × (j < at + n) × (j - at ≡ j % w - x)
  in_row e p =
      let q : j ≡ (y + r) * w + j % w = sym (div-add-mod' j w) ∙ ap (λ (a : ℕ). a * w + j % w) e in
      (omega (arith, p.left), omega (arith, p.right), omega (arith, p.left))

  of_row : at ≤ j → j < at + n → (j % w ≡ x + (j - at)) × (j / w ≡ y + r)
  of_row low high =
      let i : j - at < n = omega arith in
      let l : x + (j - at) < w = omega arith in
      let q : j ≡ place w (x + (j - at)) (y + r) = omega arith in
      (ap (λ (a : ℕ). a % w) q ∙ digits_mod (y + r) l, ap (λ (a : ℕ). a / w) q ∙ digits_div (y + r) l)

-- one row more
pub after_more :
    (n w x y : ℕ) (b : List (List ℕ)) (s t : List ℕ) (r : ℕ) → x + n ≤ w → r < n → length t ≡ length s
    → ((j : ℕ) → j < length s → get_or t j 0 ≡ after_rows n w x y b s r j)
    → (j : ℕ) → j < length s → get_or (with_row n (place w x (y + r)) (get_or b r []) t) j 0 ≡ after_rows n w x y b s (r + 1) j
unfolding with_row
after_more n w x y b s t r fits hr len before j lj = list_of-at _ 0 (length t) j (omega arith) ∙ go (dec_lt j (place w x (y + r))) (dec_lt j (place w x (y + r) + n))
  where
    -- in another row nothing changes
    other :
        (at' : Bool) → (j / w ≡ y + r → Covered n x y (j % w) (j / w) → ⊥) → at' ≡ false
        → cond at' (get_or (get_or b r []) (j - place w x (y + r)) 0) (get_or t j 0) ≡ after_rows n w x y b s (r + 1) j
    other at' apart e = rw e (before j lj ∙ away (covers n x y (j % w) (j / w)) refl)
      where
        away :
            (a : Bool) → covers n x y (j % w) (j / w) ≡ a
            → cond (a && ltb (j / w - y) r) (get_or (samples_of n b) (place n (j % w - x) (j / w - y)) 0) (get_or s j 0)
            ≡ cond (a && ltb (j / w - y) (r + 1)) (get_or (samples_of n b) (place n (j % w - x) (j / w - y)) 0) (get_or s j 0)
        away false q = refl
        away true q =
            let p = covered n x y (j % w) (j / w) q in
            rw (ltb-more (j / w - y) r (λ z. apart (omega (arith, p.top)) p))

    go : Dec (j < place w x (y + r)) → Dec (j < place w x (y + r) + n) → row_at n (place w x (y + r)) (get_or b r []) t j ≡ after_rows n w x y b s (r + 1) j
    go (yes l) h =
        other (leb (place w x (y + r)) j && ltb j (place w x (y + r) + n)) (λ e p. let q = (in_row n w x y r j fits e p).0 in absurd (omega arith))
        (rw (lt-leb (place w x (y + r)) j l))
    go (no l) (no h) =
        other (leb (place w x (y + r)) j && ltb j (place w x (y + r) + n)) (λ e p. let q = (in_row n w x y r j fits e p).1 in absurd (omega arith))
        (rw (le-ltb j (place w x (y + r) + n) (omega arith), and-false (leb (place w x (y + r)) j)))
    go (no l) (yes h) =
        let p = of_row n w x y r j fits (omega arith) h in
        let i : j - place w x (y + r) < n = omega arith in
        let column : j % w - x ≡ j - place w x (y + r) = omega (arith, p.0) in
        let row : j / w - y ≡ r = omega (arith, p.1) in
        rw (
          le-leb (place w x (y + r)) j (omega arith),
          lt-ltb j (place w x (y + r) + n) h,
          covers-all n x y (j % w) (j / w) (record { left = omega (arith, p.0); right = omega (arith, p.0); top = omega (arith, p.1); bottom = omega (arith, p.1) }),
          row,
          lt-ltb r (r + 1) (omega arith),
          column,
        )
        (sym (samples-at n b (j - place w x (y + r)) r i hr))

-- all of it
pub after-all :
    (n w x y : ℕ) (b : List (List ℕ)) (s t : List ℕ) {k : ℕ} → length t ≡ length s → k ≡ n
    → ((j : ℕ) → j < length s → get_or t j 0 ≡ after_rows n w x y b s k j) → t ≡ written n w x y (samples_of n b) s
unfolding written
after-all n w x y b s t len e all =
    stored-all (written_at n w x y (samples_of n b) s) 0 t (length s) len
    (λ j l. all j l ∙ ap (λ (m : ℕ). after_rows n w x y b s m j) e ∙ whole j (covers n x y (j % w) (j / w)) refl)
  where
    whole :
        (j : ℕ) (a : Bool) → covers n x y (j % w) (j / w) ≡ a
        → cond (a && ltb (j / w - y) n) (get_or (samples_of n b) (place n (j % w - x) (j / w - y)) 0) (get_or s j 0)
        ≡ cond a (get_or (samples_of n b) (place n (j % w - x) (j / w - y)) 0) (get_or s j 0)
    whole j false q = refl
    whole j true q =
        let p = covered n x y (j % w) (j / w) q in
        rw (lt-ltb (j / w - y) n (omega (arith, p.top, p.bottom)))

-- the samples of the block that is cut are the samples that are cut
pub cut-block : (n w x y : ℕ) (s : List ℕ) → n ≤ capacity → samples_of n (cut_block n w x y s) ≡ cut n w x y s
unfolding cut
cut-block n w x y s h = samples-by capacity n (λ i r. get_or s (place w (x + i) (y + r)) 0) h

-- a cut block has n * n samples
pub length_cut : (n w x y : ℕ) (s : List ℕ) → length (cut n w x y s) ≡ n * n
unfolding cut
length_cut n w x y s = length-list_of _ (n * n)
