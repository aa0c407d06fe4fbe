-- Arrays that are filled from a sheet's samples: the neighbours and the rows of a block; and rows that are put into the samples.
use Prim.Native.Nat.{ℕ, zero, suc, ◌+◌, ◌-◌, ◌*◌, ◌≤◌, ◌<◌}
use mathlib.Core.Bool.{Bool, true, false, cond}
use mathlib.Core.List.{List, [], ◌∷◌, ◌++◌}
use mathlib.Core.Path.{◌≡◌, refl, sym, ap, ◌∙◌}
use native.Mathlib.Decide.{dec_lt}
use native.Mathlib.Nat.{mul-le-mul}
use native.Mathlib.Omega.{arith}
use borrow.Author.Tests.{lt-leb, le-leb, lt-ltb, le-ltb}
use borrow.Rule.Slice.PartMut.{put_mid}
use lib.ListN.{length, get_or, take, drop, replicate, length-append}
use lib.Seq.{length-take-le, ext_get_or}
use Rattle.std.proofs.lemmas.List.{get_or-take, get_or-drop, get_or_append_left, get_or-append_right}
use Rattle.std.proofs.Common.{length-drop}
use Rattle.arith.specs.Lists.{upto}
use Rattle.arith.specs.Square.{place}
use Rattle.arith.proofs.ListLaws.{stored-all, length-upto, upto-at}
use Rattle.block.specs.Block.{capacity}
use Rattle.pattern.specs.Size.{greatest_size, size_ok}
use Rattle.pattern.proofs.SizeLaws.{size-bounds}
use Rattle.sheet_grid.specs.Grid.{Inside}
use Rattle.sheet_grid.specs.Neighbours.{read_from}
use Rattle.std.specs.Prelude.{Option, Some, None, min}
use lib.Dec.{ltb}
use Rattle.sheet_grid.specs.Counts.{left_count, top_count, left_first, top_first, run_at, runs_at}
use Rattle.sheet.specs.Runs.{beside, neighbour_of, Is}
use Rattle.sheet.specs.declared.spot.Run.{Run}
use Rattle.sheet_grid.specs.Samples.{with_row}
use Rattle.sheet_grid.proofs.SampleLaws.{row_at, after_rows, after_more}

-- ---- the front of an array that is filled

module _ {A : Type 0} where
  -- nothing is filled yet
  pub front-none : (m k : ℕ) (f : ℕ → A) (z : A) → m ≤ k → take m (replicate k z) ≡ upto m 0 f z
  unfolding upto
  front-none zero k f z h = refl
  front-none (suc m) zero f z h = absurd (omega arith)
  front-none (suc m) (suc k) f z h = ap (λ (l : List A). z ∷ l) (front-none m k f z (omega arith))

  -- all of the front is
  pub front-all : (m k : ℕ) (f : ℕ → A) (z : A) → m ≤ k → upto m m f z ++ drop m (replicate k z) ≡ upto k m f z
  unfolding upto
  front-all zero k f z h = refl
  front-all (suc m) zero f z h = absurd (omega arith)
  front-all (suc m) (suc k) f z h = ap (λ (l : List A). f 0 ∷ l) (front-all m k (λ i. f (suc i)) z (omega arith))

-- ---- a part of a list that is written

module _ (a n : ℕ) (xs ys : List ℕ) (room : a + n ≤ length xs) (whole : length ys ≡ n) where
  length-put : length (put_mid a n xs ys) ≡ length xs
  length-put =
      omega (
        arith,
        length-append (take a xs) (ys ++ drop n (drop a xs)),
        length-append ys (drop n (drop a xs)),
        length-take-le a xs (omega arith),
        length-drop n (drop a xs),
        length-drop a xs,
      )

  put-below : (j : ℕ) → j < a → get_or (put_mid a n xs ys) j 0 ≡ get_or xs j 0
  put-below j h =
      get_or_append_left (take a xs) _ 0 j (omega (arith, length-take-le a xs (omega arith))) ∙ get_or-take a xs j 0 h

  put-within : (j : ℕ) → a ≤ j → j < a + n → get_or (put_mid a n xs ys) j 0 ≡ get_or ys (j - a) 0
  put-within j h l =
      get_or-append_right (take a xs) _ a j 0 (length-take-le a xs (omega arith)) h
      ∙ get_or_append_left ys _ 0 (j - a) (omega arith)

  put-above : (j : ℕ) → a + n ≤ j → get_or (put_mid a n xs ys) j 0 ≡ get_or xs j 0
  put-above j h =
      let e : a + (n + (j - a - n)) ≡ j = omega arith in
      get_or-append_right (take a xs) _ a j 0 (length-take-le a xs (omega arith)) (omega arith)
      ∙ get_or-append_right ys _ n (j - a) 0 whole (omega arith)
      ∙ get_or-drop n (drop a xs) (j - a - n) 0
      ∙ get_or-drop a xs (n + (j - a - n)) 0
      ∙ ap (λ (i : ℕ). get_or xs i 0) e

  -- is a row that is written
  put-row : (row : List ℕ) → ((i : ℕ) → i < n → get_or ys i 0 ≡ get_or row i 0) → put_mid a n xs ys ≡ with_row n a row xs
  unfolding with_row
  put-row row same =
      stored-all (row_at n a row xs) 0 (put_mid a n xs ys) (length xs) length-put (λ j l. go j (dec_lt j a) (dec_lt j (a + n)))
    where
      go : (j : ℕ) → Dec (j < a) → Dec (j < a + n) → get_or (put_mid a n xs ys) j 0 ≡ row_at n a row xs j
      go j (yes l) h = rw (lt-leb a j l) (put-below j l)
      go j (no l) (yes h) =
          rw (le-leb a j (omega arith), lt-ltb j (a + n) h) (put-within j (omega arith) h ∙ same (j - a) (omega arith))
      go j (no l) (no h) = rw (le-leb a j (omega arith), le-ltb j (a + n) (omega arith)) (put-above j (omega arith))

-- ---- the block at (x, y)

-- neighbour i of the block at (x, y), by its two runs
abbrev pub near_at : ℕ → ℕ → ℕ → ℕ → List ℕ → ℕ → ℕ
near_at n w x y s i = read_from s (runs_at n w (left_count n x) (left_first w x y) (top_count n w x y) (top_first w x y) i)

-- what the code reads beside a run is what stands there by the run's count, first place and step
beside-run :
    (s : List ℕ) (own other : Option Run) (c f t d g u i : ℕ) → Is own s c f t → Is other s d g u
    → beside own other i ≡ read_from s (run_at c f t d g i)
beside-run s (Some r) other c f t d g u i p q =
    let last : c - 1 ≡ r.last = omega (arith, p.1.0) in
    rw (lt-ltb 0 c (omega (arith, p.1.0)), last, p.0, p.1.1.0, p.1.1.1)
beside-run s None (Some r) c f t d g u i p q =
    let low : min 0 r.last ≡ 0 = omega arith in
    let zero : r.first + 0 * r.step ≡ g = omega (arith, q.1.1.0) in
    rw (p, lt-ltb 0 d (omega (arith, q.1.0)), q.0, low, zero)
beside-run s None None c f t d g u i p q = rw (p, q)

-- so is each neighbour
pub neighbour-near :
    (n w x y : ℕ) (s : List ℕ) (left top : Option Run) (i : ℕ) → Is left s (left_count n x) (left_first w x y) w
    → Is top s (top_count n w x y) (top_first w x y) 1 → neighbour_of n left top i ≡ near_at n w x y s i
neighbour-near n w x y s left top i p q = go (ltb i (2 * n))
  where
    go :
        (b : Bool)
        → cond b (beside left top i) (beside top left (i - 2 * n))
        ≡ read_from s (cond b (run_at (left_count n x) (left_first w x y) w (top_count n w x y) (top_first w x y) i) (run_at (top_count n w x y) (top_first w x y) 1 (left_count n x) (left_first w x y) (i - 2 * n)))
    go true = beside-run s left top _ _ _ _ _ _ i p q
    go false = beside-run s top left _ _ _ _ _ _ (i - 2 * n) q p

-- row r of the block that is cut
abbrev pub cut_row : ℕ → ℕ → ℕ → ℕ → List ℕ → ℕ → List ℕ
cut_row n w x y s r = upto capacity n (λ i. get_or s (place w (x + i) (y + r)) 0) 0

-- where the block lies
pub spot-high : {n : ℕ} → size_ok n ≡ true → n ≤ greatest_size
spot-high {n} sized = (size-bounds n sized).1

pub spot-inside : {n w samples x y : ℕ} → size_ok n ≡ true → x + n ≤ w → (y + n) * w ≤ samples → Inside n w samples x y
spot-inside {n} sized across down =
    let b = size-bounds n sized in
    record { some = omega (arith, b.0); high = b.1; across = across; down = down }

-- row r of the block lies inside the sheet's samples
pub row-room : (n w x y r : ℕ) {samples : ℕ} → r < n → x + n ≤ w → (y + n) * w ≤ samples → place w x (y + r) + n ≤ samples
row-room n w x y r l across down =
    omega (arith, mul-le-mul {n₁ = y + r + 1} {m₁ = w} {n₂ = y + n} {m₂ = w} (omega arith) (omega arith))

-- the first n samples from a place on, copied to the front of a row
pub row-copied :
    (n at : ℕ) (s row : List ℕ) {m : ℕ} → m ≡ n → row ≡ take m (drop at s) → n ≤ capacity → at + n ≤ length s
    → row ++ drop n (replicate capacity 0) ≡ upto capacity n (λ i. get_or s (at + i) 0) 0
row-copied n at s row {m} em e high room =
    let f : ℕ → ℕ = λ i. get_or s (at + i) 0 in
    let full : length row ≡ n = ap length e ∙ length-take-le m (drop at s) (omega (arith, length-drop at s)) ∙ em in
    let same : row ≡ upto n n f 0 =
    ext_get_or 0 row (upto n n f 0) (full ∙ sym (length-upto n n f 0))
    (λ i h.
    ap (λ (u : List ℕ). get_or u i 0) e
    ∙ get_or-take m (drop at s) i 0 (omega arith)
    ∙ get_or-drop at s i 0
    ∙ sym (upto-at n n f 0 0 i (omega arith) (omega arith)))
    in
    ap (λ (l : List ℕ). l ++ drop n (replicate capacity 0)) same ∙ front-all n capacity f 0 high

-- one row more is put
pub put_more :
    (n w x y r : ℕ) (b : List (List ℕ)) (s t row : List ℕ) {k : ℕ} → x + n ≤ w → r < n → k ≡ n → length row ≡ n
    → ((i : ℕ) → i < n → get_or row i 0 ≡ get_or (get_or b r []) i 0)
    → place w x (y + r) + n ≤ length t → length t ≡ length s
    → ((j : ℕ) → j < length s → get_or t j 0 ≡ after_rows n w x y b s r j)
    → (j : ℕ) → j < length s → get_or (put_mid (place w x (y + r)) k t row) j 0 ≡ after_rows n w x y b s (r + 1) j
put_more n w x y r b s t row fits more ek full values room same before j l =
    let at = place w x (y + r) in
    ap (λ (k : ℕ). get_or (put_mid at k t row) j 0) ek
    ∙ ap (λ (u : List ℕ). get_or u j 0) (put-row at n t row room full (get_or b r []) values)
    ∙ after_more n w x y b s t r fits more same before j l
