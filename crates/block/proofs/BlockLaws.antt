-- Laws of blocks, over the capacity m and the size n.
use Prim.Native.Nat.{ℕ, zero, suc, ◌+◌, ◌-◌, ◌*◌, ◌/◌, ◌%◌, ◌≤◌, ◌<◌}
use mathlib.Core.List.{List, [], ◌∷◌, ◌++◌}
use mathlib.Core.Path.{◌≡◌, refl, sym, ap, ap₂, ◌∙◌}
use native.Mathlib.Decide.{dec_lt}
use native.Mathlib.Nat.{suc-mul}
use native.Mathlib.Omega.{arith}
use borrow.Rule.Slice.PartMut.{put_mid}
use lib.Arith.{digits_div, digits_mod}
use lib.ListN.{length, get_or, take, drop, replicate}
use lib.Seq.{length-take-le}
use Rattle.std.proofs.lemmas.List.{get_or-take, get_or_append_left, get_or-append_right}
use Rattle.std.proofs.lemmas.Slice.{take-put_mid}
use Rattle.arith.specs.Lists.{list_of, upto}
use Rattle.arith.specs.Square.{place, transposed_list}
use Rattle.arith.proofs.ListLaws.{list_of-at, list_of-ext, list_of-own, upto-none, upto-at, upto-ext}
use Rattle.arith.proofs.SquareLaws.{column-lt, row_lt, place-lt, place-own, square_le, length-transposed, transposed-at}
use Rattle.pattern.specs.Answer.{samples_refusal}
use Rattle.pattern.proofs.AnswerLaws.{samples-fit}
use Rattle.block.specs.Block.{capacity, sample, block_by, block_of, transposed_block, samples_of}

-- places filled up to n, and the others as they were
module _ {A : Type 0} where
  pub filled_up :
      (m n : ℕ) (f : ℕ → A) (z : A) (l : List A) → length l ≡ n → n ≤ m → ((k : ℕ) → k < n → get_or l k z ≡ f k)
      → l ++ drop n (replicate m z) ≡ upto m n f z
  unfolding upto
  filled_up m zero f z [] e h p = sym (upto-none m f z)
  filled_up m zero f z (a ∷ l) e h p = absurd (omega arith)
  filled_up m (suc n) f z [] e h p = absurd (omega arith)
  filled_up zero (suc n) f z (a ∷ l) e h p = absurd (omega arith)
  filled_up (suc m) (suc n) f z (a ∷ l) e h p =
      ap₂ (λ (b : A) (r : List A). b ∷ r) (p 0 (omega arith)) (filled_up m n (λ i. f (suc i)) z l (omega arith) (omega arith) (λ k lt. p (suc k) (omega arith)))

-- values at each place: those of f below n, and z from there on
pub upto_made :
    (m n : ℕ) (f : ℕ → ℕ) (z : ℕ) (l : List ℕ) → length l ≡ m → n ≤ m → ((k : ℕ) → k < m → (k < n → get_or l k z ≡ f k) × (n ≤ k → get_or l k z ≡ z))
    → l ≡ upto m n f z
unfolding upto
upto_made zero zero f z [] e h p = refl
upto_made zero (suc n) f z [] e h p = absurd (omega arith)
upto_made zero n f z (a ∷ l) e h p = absurd (omega arith)
upto_made (suc m) n f z [] e h p = absurd (omega arith)
upto_made (suc m) zero f z (a ∷ l) e h p =
    ap₂ (λ (b : ℕ) (r : List ℕ). b ∷ r) ((p 0 (omega arith)).1 (omega arith))
    (upto_made m zero f z l (omega arith) (omega arith) (λ k lt. (λ i. absurd (omega arith), λ i. (p (suc k) (omega arith)).1 (omega arith))) ∙ upto-none m f z)
upto_made (suc m) (suc n) f z (a ∷ l) e h p =
    ap₂ (λ (b : ℕ) (r : List ℕ). b ∷ r) ((p 0 (omega arith)).0 (omega arith))
    (upto_made m n (λ i. f (suc i)) z l (omega arith) (omega arith)
    (λ k lt. (λ i. (p (suc k) (omega arith)).0 (omega arith), λ i. (p (suc k) (omega arith)).1 (omega arith))))

-- sample (x, y) of the block of f is f x y
pub sample-at : (m n : ℕ) (f : ℕ → ℕ → ℕ) (x y : ℕ) → n ≤ m → x < n → y < n → sample (block_by m n f) x y ≡ f x y
unfolding block_by
sample-at m n f x y h hx hy =
    ap (λ (r : List ℕ). get_or r x 0) (upto-at m n (λ j. upto m n (λ i. f i j) 0) (replicate m 0) [] y h hy)
    ∙ upto-at m n (λ i. f i y) 0 0 x h hx

-- blocks with the same samples are the same
pub block-ext : (m n : ℕ) (f g : ℕ → ℕ → ℕ) → ((x y : ℕ) → x < n → y < n → f x y ≡ g x y) → block_by m n f ≡ block_by m n g
unfolding block_by
block-ext m n f g h = upto-ext m n _ _ (replicate m 0) (λ y hy. upto-ext m n _ _ 0 (λ x hx. h x y hx hy))

-- sample (x, y) of the transposed block is sample (y, x)
pub transposed-sample : (m n : ℕ) (b : List (List ℕ)) (x y : ℕ) → n ≤ m → x < n → y < n → sample (transposed_block m n b) x y ≡ sample b y x
transposed-sample m n b x y h hx hy = sample-at m n (λ i j. sample b j i) x y h hx hy

-- transposed twice it is the block again
pub block-twice : (m n : ℕ) (f : ℕ → ℕ → ℕ) → n ≤ m → transposed_block m n (transposed_block m n (block_by m n f)) ≡ block_by m n f
block-twice m n f h =
    block-ext m n _ _
    (λ x y hx hy. transposed-sample m n (block_by m n f) y x h hy hx ∙ sample-at m n f x y h hx hy)

-- the block of transposed samples is the transposed block
pub block_transposed : (m n : ℕ) (s : List ℕ) → n ≤ m → block_of m n (transposed_list n s) ≡ transposed_block m n (block_of m n s)
block_transposed m n s h =
    block-ext m n _ _
    (λ x y hx hy. transposed-at n s x y hx hy ∙ sym (sample-at m n (λ i j. get_or s (place n i j) 0) y x h hy hx))

-- the samples of the block of f, row by row
pub samples-by : (m n : ℕ) (f : ℕ → ℕ → ℕ) → n ≤ m → samples_of n (block_by m n f) ≡ list_of (λ k. f (k % n) (k / n)) (n * n)
unfolding samples_of
samples-by m n f h = list_of-ext _ _ (n * n) (λ k l. sample-at m n f (k % n) (k / n) h (column-lt n k l) (row_lt n k l))

-- the samples of the block of some samples are those samples
pub samples-again : (m n : ℕ) (s : List ℕ) → n ≤ m → length s ≡ n * n → samples_of n (block_of m n s) ≡ s
samples-again m n s h e =
    samples-by m n _ h ∙ list_of-ext _ _ (n * n) (λ k l. ap (λ (i : ℕ). get_or s i 0) (place-own n k)) ∙ list_of-own s 0 (n * n) e

-- sample (x, y) among the samples row by row
pub samples-at : (n : ℕ) (b : List (List ℕ)) (x y : ℕ) → x < n → y < n → get_or (samples_of n b) (place n x y) 0 ≡ sample b x y
unfolding samples_of
samples-at n b x y hx hy =
    list_of-at _ 0 (n * n) (place n x y) (place-lt n x y hx hy) ∙ ap₂ (sample b) (digits_mod y hx) (digits_div y hx)

-- row y of the samples is put in the place of the k that stood there, behind the y rows before it
pub row-written :
    (n y : ℕ) (b : List (List ℕ)) (s row : List ℕ) (k : ℕ) → (y + 1) * n ≤ length s → length row ≡ n
    → ((x : ℕ) → x < n → get_or row x 0 ≡ sample b x y)
    → ((i : ℕ) → i < y * n → get_or s i 0 ≡ sample b (i % n) (i / n))
    → (i : ℕ) → i < (y + 1) * n → get_or (put_mid (y * n) k s row) i 0 ≡ sample b (i % n) (i / n)
row-written n y b s row k room full same before i h =
    sym (get_or-take ((y + 1) * n) (put_mid (y * n) k s row) i 0 h)
    ∙ ap (λ (l : List ℕ). get_or l i 0) (take-put_mid (y * n) k s row ((y + 1) * n) (omega (arith, suc-mul y n)) (omega (arith, suc-mul y n)))
    ∙ go (dec_lt i (y * n))
  where
    first : length (take (y * n) s) ≡ y * n
    first = length-take-le (y * n) s (omega (arith, suc-mul y n))

    go : Dec (i < y * n) → get_or (take (y * n) s ++ row) i 0 ≡ sample b (i % n) (i / n)
    go (yes l) = get_or_append_left (take (y * n) s) row 0 i (omega (arith, first)) ∙ get_or-take (y * n) s i 0 l ∙ before i l
    go (no l) =
        let x : ℕ = i - y * n in
        let lx : x < n = omega (arith, suc-mul y n) in
        let e : i ≡ place n x y = omega arith in
        get_or-append_right (take (y * n) s) row (y * n) i 0 first (omega arith)
        ∙ same x lx
        ∙ ap₂ (sample b) (sym (ap (λ (j : ℕ). j % n) e ∙ digits_mod y lx)) (sym (ap (λ (j : ℕ). j / n) e ∙ digits_div y lx))

-- those of the transposed block are the transposed samples
pub samples-transposed : (m n : ℕ) (s : List ℕ) → n ≤ m → samples_of n (transposed_block m n (block_of m n s)) ≡ transposed_list n s
samples-transposed m n s h =
    ap (samples_of n) (sym (block_transposed m n s h)) ∙ samples-again m n (transposed_list n s) h (length-transposed n s)

-- where no check fails, a block has room for its rows and columns, and there is a sample for each place
pub fits : (n samples : ℕ) → 0 ≡ samples_refusal n samples → (n ≤ capacity) × (samples ≡ n * n)
fits n samples h = let f = samples-fit n samples (sym h) in (f.high, f.square)

pub place_fits : (n x y samples : ℕ) → 0 ≡ samples_refusal n samples → x < n → y < n → (y * n + x < samples) × (samples ≤ 256)
place_fits n x y samples h hx hy = let f = fits n samples h in omega (arith, place-lt n x y hx hy, square_le {m = capacity} f.0)
