-- Patterns as words: four words and their number, and the patterns of a list of words.
use Prim.Native.Nat.{ℕ, zero, suc, ◌+◌, ◌-◌, ◌*◌, ◌/◌, ◌%◌, ◌^◌, ◌≤◌, ◌<◌, min}
use mathlib.Core.Bool.{Bool, true, false, cond, ◌&&◌, and-true, and-false}
use mathlib.Core.List.{List, [], ◌∷◌, ◌++◌, append-nil, append_assoc}
use mathlib.Core.Logic.{◌⊎◌, ⊎_elim, inl, inr}
use mathlib.Core.Path.{◌≡◌, refl, sym, ap, ap₂, ◌∙◌, subst}
use native.Mathlib.Nat.{add-zero, div-one, mul-suc, suc-mul, div-add-mod', le_trans, lt_of_lt_of_le, mod-eq_of_lt, mul_comm, le-div_iff_mul-le}
use native.Mathlib.Decide.{dec_le, dec_lt}
use native.Mathlib.Omega.{arith}
use borrow.Author.Tests.{le-leb, lt-leb, lt-ltb, le-ltb}
use lib.Arith.{digits_lt}
use lib.Bits.{bit_and, bit_xor, and_block, xor_block}
use lib.Count.{ones, ones_cat, ones-le}
use lib.Dec.{leb, ltb, eqb}
use lib.ListN.{length, get_or, take, length-append, get_or-append, get_or-eq_default}
use lib.Seq.{length-take-le, get_or-take, ext_get_or}
use lib.Pow.{high, low, pow-add, pow_mono, shr-shr}
use Rattle.std.specs.Bool.{MatchBool}
use Rattle.std.specs.List.{enumerate_from, AllWithin, HoldsAt, sum_by}
use Rattle.std.proofs.NetLemmas.Arrays.{four_items}
use Rattle.std.proofs.lemmas.List.FromFn.{length-enumerate_from, get_or-enumerate_from}
use Rattle.arith.specs.Bits.{bits, test_bit}
use Rattle.arith.proofs.BitLaws.{bits-append, bits-ext, low_bit, high_bit, bit_past}
use Rattle.arith.proofs.ListLaws.{length-list_of, list_of-at, list_of-ext, list_of-own}
use Rattle.pattern.proofs.SizeLaws.{shifted_none, square-64}
use Rattle.pattern.specs.Size.{greatest_samples}
use Rattle.pattern.specs.declared.words.Pattern.{Pattern}
use Rattle.pattern.specs.Words.{joined, four_words, pattern_number, used_number, greatest_words, words_of, whole_patterns, four_at, pattern_at, patterns_of, in_four, in_words, word_list}

-- a number of j bits before one of k bits
cat-lt : {h l : ℕ} (j k : ℕ) → h < 2 ^ j → l < 2 ^ k → h * 2 ^ k + l < 2 ^ (j + k)
cat-lt {h} {l} j k p q = rw pow-add (digits_lt p q)

-- ---- four words and their number

-- one word alone
pub one-word-number : (w : ℕ) → four_words w 0 0 0 ≡ w
unfolding four_words
one-word-number w = omega arith

-- the number by its words
pub four_same : {a b c d a' b' c' d' : ℕ} → a ≡ a' → b ≡ b' → c ≡ c' → d ≡ d' → four_words a b c d ≡ four_words a' b' c' d'
four_same p q r s = λ i. four_words (p i) (q i) (r i) (s i)

-- the first 64 of c bits, and the rest
bits-parted : (f : ℕ → Bool) (c : ℕ) → bits f c ≡ joined (bits (λ j. f (64 + j)) (c - 64)) (bits f (min c 64))
unfolding bits
bits-parted f c =
    elim (dec_le 64 c) [
      | yes h ↦
          let e : c ≡ 64 + (c - 64) = omega arith in
          let m : 64 ≡ min c 64 = omega arith in
          ap (bits f) e ∙ bits-append f 64 (c - 64) ∙ ap (λ (x : ℕ). joined (bits (λ j. f (64 + j)) (c - 64)) (bits f x)) m
      | no h ↦
          let z : 0 ≡ c - 64 = omega arith in
          let m : c ≡ min c 64 = omega arith in
          let none : bits f c ≡ joined (bits (λ j. f (64 + j)) 0) (bits f c) = omega arith in
          none ∙ ap₂ (λ (x y : ℕ). joined (bits (λ j. f (64 + j)) x) (bits f y)) z m
    ]

-- up to 256 bits in four words
pub four-parted :
    (f : ℕ → Bool) (c : ℕ) → c ≤ 256
    → bits f c
    ≡ four_words (bits f (min c 64)) (bits (λ j. f (64 + j)) (min (c - 64) 64)) (bits (λ j. f (128 + j)) (min (c - 64 - 64) 64))
    (bits (λ j. f (192 + j)) (min (c - 64 - 64 - 64) 64))
unfolding four_words
four-parted f c h =
    let m : c - 64 - 64 - 64 ≡ min (c - 64 - 64 - 64) 64 = omega arith in
    bits-parted f c
    ∙ ap (λ (x : ℕ). joined x (bits f (min c 64)))
    (bits-parted (λ j. f (64 + j)) (c - 64)
    ∙ ap (λ (x : ℕ). joined x (bits (λ j. f (64 + j)) (min (c - 64) 64)))
    (bits-parted (λ j. f (64 + (64 + j))) (c - 64 - 64)
    ∙ ap₂ joined
    (bits-ext _ _ (c - 64 - 64 - 64) (λ j _. ap f (let e : 64 + (64 + (64 + j)) ≡ 192 + j = omega arith in e)) ∙ ap (bits (λ j. f (192 + j))) m)
    (bits-ext _ _ (min (c - 64 - 64) 64) (λ j _. ap f (let e : 64 + (64 + j) ≡ 128 + j = omega arith in e)))))

-- 256 bits in four words
pub four-bits :
    (f : ℕ → Bool)
    → bits f 256 ≡ four_words (bits f 64) (bits (λ j. f (64 + j)) 64) (bits (λ j. f (128 + j)) 64) (bits (λ j. f (192 + j)) 64)
four-bits f = four-parted f 256 (omega arith)

-- the words of a number are what they were: the low part, and the rest
module _ (h l h' l' : ℕ) (b : l < 2 ^ 64) (b' : l' < 2 ^ 64) (e : joined h l ≡ joined h' l') where
  same-high : h ≡ h'
  same-high = sym (high h 64 b) ∙ ap (λ (x : ℕ). x / 2 ^ 64) e ∙ high h' 64 b'

  same_low : l ≡ l'
  same_low = sym (low h 64 b) ∙ ap (λ (x : ℕ). x % 2 ^ 64) e ∙ low h' 64 b'

-- equal numbers have equal words
pub four-words-same :
    (a b c d a' b' c' d' : ℕ) → a < 2 ^ 64 → b < 2 ^ 64 → c < 2 ^ 64 → a' < 2 ^ 64 → b' < 2 ^ 64 → c' < 2 ^ 64
    → four_words a b c d ≡ four_words a' b' c' d' → (a ≡ a') × (b ≡ b') × (c ≡ c') × (d ≡ d')
unfolding four_words
four-words-same a b c d a' b' c' d' p q r p' q' r' e =
    let x = joined d c in
    let x' = joined d' c' in
    let f = same-high (joined x b) a (joined x' b') a' p p' e in
    let g = same-high x b x' b' q q' f in
    (same_low (joined x b) a (joined x' b') a' p p' e, same_low x b x' b' q q' f, same_low d c d' c' r r' g, same-high d c d' c' r r' g)

-- four words have no bit from 256 up
pub four-lt : (a b c d : ℕ) → a < 2 ^ 64 → b < 2 ^ 64 → c < 2 ^ 64 → d < 2 ^ 64 → four_words a b c d < 2 ^ 256
unfolding four_words
four-lt a b c d p q r s = cat-lt 192 64 (cat-lt 128 64 (cat-lt 64 64 s r) q) p

-- ---- bits of four words

module _ (a b c d k : ℕ) where
  pub bit-in-0 : k < 64 → test_bit (four_words a b c d) k ≡ test_bit a k
  unfolding four_words
  bit-in-0 h = low_bit 64 (joined (joined d c) b) a k h

  pub bit-in-1 : a < 2 ^ 64 → 64 ≤ k → k < 128 → test_bit (four_words a b c d) k ≡ test_bit b (k - 64)
  unfolding four_words
  bit-in-1 p l h = high_bit 64 (joined (joined d c) b) a k p l ∙ low_bit 64 (joined d c) b (k - 64) (omega arith)

  past-1 : a < 2 ^ 64 → b < 2 ^ 64 → 128 ≤ k → test_bit (four_words a b c d) k ≡ test_bit (joined d c) (k - 128)
  unfolding four_words
  past-1 p q l =
      let e : k - 64 - 64 ≡ k - 128 = omega arith in
      high_bit 64 (joined (joined d c) b) a k p (omega arith)
      ∙ high_bit 64 (joined d c) b (k - 64) q (omega arith)
      ∙ ap (test_bit (joined d c)) e

  pub bit-in-2 : a < 2 ^ 64 → b < 2 ^ 64 → 128 ≤ k → k < 192 → test_bit (four_words a b c d) k ≡ test_bit c (k - 128)
  bit-in-2 p q l h = past-1 p q l ∙ low_bit 64 d c (k - 128) (omega arith)

  pub bit-in-3 : a < 2 ^ 64 → b < 2 ^ 64 → c < 2 ^ 64 → 192 ≤ k → test_bit (four_words a b c d) k ≡ test_bit d (k - 192)
  bit-in-3 p q r l =
      let e : k - 128 - 64 ≡ k - 192 = omega arith in
      past-1 p q (omega arith) ∙ high_bit 64 d c (k - 128) r (omega arith) ∙ ap (test_bit d) e

-- bit k of four words is bit k % 64 of word k / 64, and none from 256 up
module _ (l : List ℕ) (k : ℕ) (p : get_or l 0 0 < 2 ^ 64) (q : get_or l 1 0 < 2 ^ 64) (r : get_or l 2 0 < 2 ^ 64) where
  in-word : (w j : ℕ) → k / 64 ≡ w → k % 64 ≡ j → test_bit (get_or l w 0) j ≡ test_bit (get_or l (k / 64) 0) (k % 64)
  in-word w j e m = λ i. test_bit (get_or l (sym e i) 0) (sym m i)

  pub four_bit : k / 64 < 4 → test_bit (four_at l 0) k ≡ test_bit (get_or l (k / 64) 0) (k % 64)
  four_bit h =
      elim (dec_lt k 64) [
        | yes a ↦ bit-in-0 _ _ _ _ k a ∙ in-word 0 k (omega arith) (omega arith)
        | no a ↦
            elim (dec_lt k 128) [
              | yes b ↦ bit-in-1 _ _ _ _ k p (omega arith) b ∙ in-word 1 (k - 64) (omega arith) (omega arith)
              | no b ↦
                  elim (dec_lt k 192) [
                    | yes c ↦ bit-in-2 _ _ _ _ k p q (omega arith) c ∙ in-word 2 (k - 128) (omega arith) (omega arith)
                    | no c ↦ bit-in-3 _ _ _ _ k p q r (omega arith) ∙ in-word 3 (k - 192) (omega arith) (omega arith)
                  ]
            ]
      ]

  pub four_past : get_or l 3 0 < 2 ^ 64 → 4 ≤ k / 64 → ltb (k / 64) 4 ≡ test_bit (four_at l 0) k
  four_past s h = le-ltb (k / 64) 4 h ∙ sym (bit_past 256 (four_at l 0) k (four-lt _ _ _ _ p q r s) (omega arith))

-- the count of ones, word by word
pub four-ones : (a b c d : ℕ) → a < 2 ^ 64 → b < 2 ^ 64 → c < 2 ^ 64 → ones (four_words a b c d) ≡ ones d + ones c + ones b + ones a
unfolding four_words
four-ones a b c d p q r =
    ones_cat 64 (joined (joined d c) b) a p
    ∙ ap (λ (x : ℕ). x + ones a) (ones_cat 64 (joined d c) b q ∙ ap (λ (x : ℕ). x + ones b) (ones_cat 64 d c r))

-- the sum of the words' counts of ones, at most 64 each
module _ (l : List ℕ) (e : length l ≡ 4) (p : get_or l 0 0 < 2 ^ 64) (q : get_or l 1 0 < 2 ^ 64) (r : get_or l 2 0 < 2 ^ 64) where
  pub sum_of_ones : sum_by ones l ≡ ones (four_at l 0)
  sum_of_ones =
      ap (sum_by ones) (four_items l e)
      ∙ (let f : 0 + ones (get_or l 0 0) + ones (get_or l 1 0) + ones (get_or l 2 0) + ones (get_or l 3 0) ≡ ones (get_or l 3 0) + ones (get_or l 2 0) + ones (get_or l 1 0) + ones (get_or l 0 0) = omega arith in f)
      ∙ sym (four-ones _ _ _ _ p q r)

  pub ones_few : get_or l 3 0 < 2 ^ 64 → ones (four_at l 0) ≤ greatest_samples
  ones_few s = omega (arith, four-ones _ _ _ (get_or l 3 0) p q r, ones-le 64 _ p, ones-le 64 _ q, ones-le 64 _ r, ones-le 64 _ s)

-- ---- two patterns, word by word

module _ (op : ℕ → ℕ → ℕ) (block : (k a b r s : ℕ) → r < 2 ^ k → s < 2 ^ k → op (a * 2 ^ k + r) (b * 2 ^ k + s) ≡ op a b * 2 ^ k + op r s) where
  by-words :
      (a b c d a' b' c' d' : ℕ) → a < 2 ^ 64 → b < 2 ^ 64 → c < 2 ^ 64 → a' < 2 ^ 64 → b' < 2 ^ 64 → c' < 2 ^ 64
      → op (four_words a b c d) (four_words a' b' c' d') ≡ four_words (op a a') (op b b') (op c c') (op d d')
  unfolding four_words
  by-words a b c d a' b' c' d' p q r p' q' r' =
      block 64 (joined (joined d c) b) (joined (joined d' c') b') a a' p p'
      ∙ ap (λ (x : ℕ). joined x (op a a'))
      (block 64 (joined d c) (joined d' c') b b' q q' ∙ ap (λ (x : ℕ). joined x (op b b')) (block 64 d d' c c' r r'))

-- the marks in which two patterns differ
pub four-xor :
    (a b c d a' b' c' d' : ℕ) → a < 2 ^ 64 → b < 2 ^ 64 → c < 2 ^ 64 → a' < 2 ^ 64 → b' < 2 ^ 64 → c' < 2 ^ 64
    → four_words (bit_xor a a') (bit_xor b b') (bit_xor c c') (bit_xor d d') ≡ bit_xor (four_words a b c d) (four_words a' b' c' d')
four-xor a b c d a' b' c' d' p q r p' q' r' = sym (by-words bit_xor xor_block a b c d a' b' c' d' p q r p' q' r')

-- the marks that two patterns share
pub four-and :
    (a b c d a' b' c' d' : ℕ) → a < 2 ^ 64 → b < 2 ^ 64 → c < 2 ^ 64 → a' < 2 ^ 64 → b' < 2 ^ 64 → c' < 2 ^ 64
    → four_words (bit_and a a') (bit_and b b') (bit_and c c') (bit_and d d') ≡ bit_and (four_words a b c d) (four_words a' b' c' d')
four-and a b c d a' b' c' d' p q r p' q' r' = sym (by-words bit_and and_block a b c d a' b' c' d' p q r p' q' r')

-- the same of lists of four words
module _ (r p q : List ℕ) (a : get_or p 0 0 < 2 ^ 64) (b : get_or p 1 0 < 2 ^ 64) (c : get_or p 2 0 < 2 ^ 64) (a' : get_or q 0 0 < 2 ^ 64) (b' : get_or q 1 0 < 2 ^ 64) (c' : get_or q 2 0 < 2 ^ 64) where
  pub common_words :
      get_or r 0 0 ≡ bit_and (get_or p 0 0) (get_or q 0 0) → get_or r 1 0 ≡ bit_and (get_or p 1 0) (get_or q 1 0)
      → get_or r 2 0 ≡ bit_and (get_or p 2 0) (get_or q 2 0) → get_or r 3 0 ≡ bit_and (get_or p 3 0) (get_or q 3 0)
      → four_at r 0 ≡ bit_and (four_at p 0) (four_at q 0)
  common_words e f g h = four_same e f g h ∙ four-and _ _ _ _ _ _ _ _ a b c a' b' c'

  pub different_words :
      get_or r 0 0 ≡ bit_xor (get_or p 0 0) (get_or q 0 0) → get_or r 1 0 ≡ bit_xor (get_or p 1 0) (get_or q 1 0)
      → get_or r 2 0 ≡ bit_xor (get_or p 2 0) (get_or q 2 0) → get_or r 3 0 ≡ bit_xor (get_or p 3 0) (get_or q 3 0)
      → four_at r 0 ≡ bit_xor (four_at p 0) (four_at q 0)
  different_words e f g h = four_same e f g h ∙ four-xor _ _ _ _ _ _ _ _ a b c a' b' c'

-- a number has no bit from k up where neither part has one
below-part : (h l k : ℕ) → l < 2 ^ 64 → ltb (joined h l) (2 ^ k) ≡ (ltb h (2 ^ (k - 64)) && ltb l (2 ^ k))
below-part h l k b = go (dec_le 64 k)
  where
    go : Dec (64 ≤ k) → ltb (joined h l) (2 ^ k) ≡ (ltb h (2 ^ (k - 64)) && ltb l (2 ^ k))
    go (yes g) =
        sym (shifted_none (joined h l) k)
        ∙ ap (λ (x : ℕ). eqb x 0)
        (ap (λ (j : ℕ). joined h l / 2 ^ j) (let f : k ≡ 64 + (k - 64) = omega arith in f)
        ∙ sym (shr-shr (joined h l) 64 (k - 64))
        ∙ ap (λ (x : ℕ). x / 2 ^ (k - 64)) (high h 64 b))
        ∙ shifted_none h (k - 64)
        ∙ sym (ap (λ (t : Bool). ltb h (2 ^ (k - 64)) && t) (lt-ltb l (2 ^ k) (lt_of_lt_of_le b (pow_mono g))) ∙ and-true (ltb h (2 ^ (k - 64))))
    go (no g) =
        let e : k - 64 ≡ 0 = omega arith in
        rw e (zero_or h)
      where
        zero_or : (x : ℕ) → ltb (joined x l) (2 ^ k) ≡ (ltb x 1 && ltb l (2 ^ k))
        zero_or zero = ap (λ (y : ℕ). ltb y (2 ^ k)) (let f : joined 0 l ≡ l = omega arith in f)
        zero_or (suc x) =
            le-ltb (joined (suc x) l) (2 ^ k)
            (le_trans (pow_mono (let f : k ≤ 64 = omega arith in f)) (let f : 2 ^ 64 ≤ joined (suc x) l = omega (arith, suc-mul x (2 ^ 64)) in f))
            ∙ sym (ap (λ (t : Bool). t && ltb l (2 ^ k)) (le-ltb (suc x) 1 (omega arith)))

pub four_below :
    (a b c d k : ℕ) → a < 2 ^ 64 → b < 2 ^ 64 → c < 2 ^ 64
    → ltb (four_words a b c d) (2 ^ k) ≡ (((ltb d (2 ^ (k - 64 - 64 - 64)) && ltb c (2 ^ (k - 64 - 64))) && ltb b (2 ^ (k - 64))) && ltb a (2 ^ k))
unfolding four_words
four_below a b c d k p q r =
    below-part (joined (joined d c) b) a k p
    ∙ ap (λ (t : Bool). t && ltb a (2 ^ k))
    (below-part (joined d c) b (k - 64) q ∙ ap (λ (t : Bool). t && ltb b (2 ^ (k - 64))) (below-part d c (k - 64 - 64) r))

zero_alone : (x : ℕ) → ltb x 1 ≡ eqb x 0
zero_alone x = sym (shifted_none x 0) ∙ ap (λ (y : ℕ). eqb y 0) (div-one x)

-- up to 64 that is where the upper words are 0, and the first has no bit from k up
pub first_below :
    (a b c d k : ℕ) → a < 2 ^ 64 → b < 2 ^ 64 → c < 2 ^ 64 → k ≤ 64
    → ltb (four_words a b c d) (2 ^ k) ≡ (((eqb d 0 && eqb c 0) && eqb b 0) && ltb a (2 ^ k))
first_below a b c d k p q r h =
    let first : k - 64 ≡ 0 = omega arith in
    let second : k - 64 - 64 ≡ 0 = omega arith in
    let third : k - 64 - 64 - 64 ≡ 0 = omega arith in
    four_below a b c d k p q r
    ∙ (λ i. ((ltb d (2 ^ third i) && ltb c (2 ^ second i)) && ltb b (2 ^ first i)) && ltb a (2 ^ k))
    ∙ (λ i. ((zero_alone d i && zero_alone c i) && zero_alone b i) && ltb a (2 ^ k))

-- four words have no bit from k up where word i has none from k - 64 * i up, and have one where a word has
module _ (l : List ℕ) (k : ℕ) (p : get_or l 0 0 < 2 ^ 64) (q : get_or l 1 0 < 2 ^ 64) (r : get_or l 2 0 < 2 ^ 64) where
  abbrev below_at : ℕ → Bool
  below_at i = ltb (get_or l i 0) (2 ^ (k - 64 * i))

  below-each : ltb (four_at l 0) (2 ^ k) ≡ (((below_at 3 && below_at 2) && below_at 1) && below_at 0)
  below-each =
      let third : k - 64 - 64 - 64 ≡ k - 64 * 3 = omega arith in
      let second : k - 64 - 64 ≡ k - 64 * 2 = omega arith in
      let first : k - 64 ≡ k - 64 * 1 = omega arith in
      let whole : k ≡ k - 64 * 0 = omega arith in
      four_below (get_or l 0 0) (get_or l 1 0) (get_or l 2 0) (get_or l 3 0) k p q r
      ∙ (λ i.
      ((ltb (get_or l 3 0) (2 ^ third i) && ltb (get_or l 2 0) (2 ^ second i)) && ltb (get_or l 1 0) (2 ^ first i)) && ltb (get_or l 0 0) (2 ^ whole i))

  all_below : ((i : ℕ) → i < 4 → below_at i ≡ true) → ltb (four_at l 0) (2 ^ k) ≡ true
  all_below h = below-each ∙ (λ i. ((h 3 (omega arith) i && h 2 (omega arith) i) && h 1 (omega arith) i) && h 0 (omega arith) i)

  none-of : (a b c d : Bool) (i : ℕ) → i < 4 → (i ≡ 0 → d ≡ false) → (i ≡ 1 → c ≡ false) → (i ≡ 2 → b ≡ false) → (i ≡ 3 → a ≡ false) → (((a && b) && c) && d) ≡ false
  none-of a b c d zero h e f g j = rw (e refl) (and-false ((a && b) && c))
  none-of a b c d (suc zero) h e f g j = rw (f refl, and-false (a && b)) refl
  none-of a b c d (suc (suc zero)) h e f g j = rw (g refl, and-false a) refl
  none-of a b c d (suc (suc (suc zero))) h e f g j = rw (j refl) refl
  none-of a b c d (suc (suc (suc (suc i)))) h e f g j = absurd (omega arith)

  one_above : (i : ℕ) → i < 4 → below_at i ≡ false → ltb (four_at l 0) (2 ^ k) ≡ false
  one_above i h e =
      below-each
      ∙ none-of _ _ _ _ i h (λ z. ap below_at (sym z) ∙ e) (λ z. ap below_at (sym z) ∙ e) (λ z. ap below_at (sym z) ∙ e) (λ z. ap below_at (sym z) ∙ e)

-- what `all` over the words, each with its place, finds
module _ (l : List ℕ) (k : ℕ) (four : length l ≡ 4) (p : get_or l 0 0 < 2 ^ 64) (q : get_or l 1 0 < 2 ^ 64) (r : get_or l 2 0 < 2 ^ 64) where
  placed-at : (i : ℕ) → i < length (enumerate_from 0 l) → get_or (enumerate_from 0 l) i (0, 0) ≡ (i, get_or l i 0)
  placed-at i h =
      let e : 0 + i ≡ i = omega arith in
      get_or-enumerate_from 0 l i (0, 0) (rw (← length-enumerate_from 0 l) h) ∙ ap (λ (j : ℕ). (j, get_or l i 0)) e

  pub below_found :
      (b : Bool) → let s = enumerate_from 0 l in
      let below = λ (e : ℕ × ℕ). ltb e.1 (2 ^ (k - 64 * e.0)) in
      MatchBool b (AllWithin (λ e. below e ≡ true) s 0 (length s)) ((i : ℕ) × (i < length s) × HoldsAt (λ e. below e ≡ false) s i)
      → b ≡ ltb (four_at l 0) (2 ^ k)
  below_found true h =
      sym
      (all_below l k p q r
      (λ i g. let lt : i < length (enumerate_from 0 l) = omega (arith, length-enumerate_from 0 l) in
      rw (placed-at i lt) at (h i (0, 0) (omega arith) lt)))
  below_found false h =
      sym (one_above l k p q r h.0 (omega (arith, h.1, length-enumerate_from 0 l)) (rw (placed-at h.0 h.1) at (h.2 (0, 0))))

-- a number of 64 bits is its first word
pub first_word : (a b c d : ℕ) → a < 2 ^ 64 → four_words a b c d < 2 ^ 64 → four_words a b c d ≡ a
unfolding four_words
first_word a b c d p h = sym (mod-eq_of_lt h) ∙ low (joined (joined d c) b) 64 p

-- ---- the words of a pattern

pub in-four : (a b c d : ℕ) → a < 2 ^ 64 → b < 2 ^ 64 → c < 2 ^ 64 → in_four (four_words a b c d) ≡ a ∷ b ∷ c ∷ d ∷ []
unfolding four_words
in-four a b c d p q r =
    let x = high (joined (joined d c) b) 64 p in
    let y = ap (λ (z : ℕ). z / 2 ^ 64) x ∙ high (joined d c) 64 q in
    let z = ap (λ (t : ℕ). t / 2 ^ 64) y ∙ high d 64 r in
    λ i.
    low (joined (joined d c) b) 64 p i ∷ (ap (λ (t : ℕ). t % 2 ^ 64) x ∙ low (joined d c) 64 q) i ∷ (ap (λ (t : ℕ). t % 2 ^ 64) y ∙ low d 64 r) i ∷ z i ∷ []

-- four words of 64 bits are those of their number
pub four-own : (w : List ℕ) → length w ≡ 4 → ((i : ℕ) → get_or w i 0 < 2 ^ 64) → in_four (four_at w 0) ≡ w
four-own [] e h = absurd (omega arith)
four-own (a ∷ []) e h = absurd (omega arith)
four-own (a ∷ b ∷ []) e h = absurd (omega arith)
four-own (a ∷ b ∷ c ∷ []) e h = absurd (omega arith)
four-own (a ∷ b ∷ c ∷ d ∷ []) e h = in-four a b c d (h 0) (h 1) (h 2)
four-own (a ∷ b ∷ c ∷ d ∷ x ∷ t) e h = absurd (omega arith)

-- four words of a number are that number
four-in : (w : ℕ) → four_words (w % 2 ^ 64) (w / 2 ^ 64 % 2 ^ 64) (w / 2 ^ 64 / 2 ^ 64 % 2 ^ 64) (w / 2 ^ 64 / 2 ^ 64 / 2 ^ 64) ≡ w
unfolding four_words
four-in w =
    let m = 2 ^ 64 in
    ap (λ (x : ℕ). joined (joined x (w / m % m)) (w % m)) (div-add-mod' (w / m / m) m)
    ∙ ap (λ (x : ℕ). joined x (w % m)) (div-add-mod' (w / m) m)
    ∙ div-add-mod' w m

-- ---- one word or four

pub narrow-or-wide : (n : ℕ) → (n ≤ 8) ⊎ (8 < n)
narrow-or-wide n = elim (dec_le n 8) [ yes h ↦ inl h | no h ↦ inr (omega arith) ]

pub width_narrow : (n : ℕ) → n ≤ 8 → words_of n ≡ 1
width_narrow n h = rw (le-leb n 8 h)

pub width-wide : (n : ℕ) → 8 < n → words_of n ≡ 4
width-wide n h = rw (lt-leb n 8 h)

pub width-pos : (n : ℕ) → 0 < words_of n
width-pos n = go (leb n 8)
  where
    go : (b : Bool) → 0 < cond b 1 4
    go true = omega arith
    go false = omega arith

-- room for one entry more
pub room-wide : (n entry words : ℕ) → 8 < n → words_of n * (entry + 1) ≤ words → 4 * entry + 4 ≤ words
room-wide n entry words h r =
    let l : 4 * (entry + 1) ≤ words = subst (λ (m : ℕ). m * (entry + 1) ≤ words) (width-wide n h) r in
    omega arith

-- a pattern of a block up to 8 by 8 is its first word
pub number-narrow : (n a b c d : ℕ) → n ≤ 8 → a < 2 ^ 64 → four_words a b c d < 2 ^ (n * n) → four_words a b c d ≡ a
number-narrow n a b c d h p l = first_word a b c d p (lt_of_lt_of_le l (pow_mono (square-64 h)))

-- a pattern handed in that marks samples of the block only is the one it stands for
pub used-is : (n : ℕ) (p : Pattern) → get_or p.words 0 0 < 2 ^ 64 → pattern_number p < 2 ^ (n * n) → used_number n p ≡ pattern_number p
used-is n p h l =
    ⊎_elim
    (λ (s : n ≤ 8). rw (le-leb n 8 s) (sym (number-narrow n _ _ _ _ s h l)))
    (λ (s : 8 < n). rw (lt-leb n 8 s))
    (narrow-or-wide n)

pub in-narrow : (n w : ℕ) → n ≤ 8 → in_words n w ≡ w ∷ []
unfolding in_words
in-narrow n w h = rw (le-leb n 8 h)

pub in-wide : (n w : ℕ) → 8 < n → in_words n w ≡ in_four w
unfolding in_words
in-wide n w h = rw (lt-leb n 8 h)

pub length-in : (n w : ℕ) → length (in_words n w) ≡ words_of n
unfolding in_words
length-in n w = go (leb n 8)
  where
    go : (b : Bool) → length (cond b (w ∷ []) (in_four w)) ≡ cond b 1 4
    go true = refl
    go false = refl

pub length-words : (n : ℕ) (k : List ℕ) → length (word_list n k) ≡ words_of n * length k
unfolding word_list
length-words n [] = omega arith
length-words n (w ∷ k) =
    omega (arith, length-append (in_words n w) (word_list n k), length-in n w, length-words n k, mul-suc (words_of n) (length k))

pub words-end : (n : ℕ) (k : List ℕ) (w : ℕ) → word_list n (k ++ (w ∷ [])) ≡ word_list n k ++ in_words n w
unfolding word_list
words-end n [] w = append-nil (in_words n w)
words-end n (a ∷ k) w = ap (λ (t : List ℕ). in_words n a ++ t) (words-end n k w) ∙ sym (append_assoc (in_words n a) (word_list n k) (in_words n w))

-- for n up to 8 patterns and words are the same
pub words-narrow : (n : ℕ) (k : List ℕ) → n ≤ 8 → word_list n k ≡ k
unfolding word_list in_words
words-narrow n [] h = refl
words-narrow n (w ∷ k) h = rw (le-leb n 8 h) (ap (λ (t : List ℕ). w ∷ t) (words-narrow n k h))

-- ---- the patterns of a list of words

pub whole-narrow : (n words : ℕ) → n ≤ 8 → whole_patterns n words ≡ words
whole-narrow n words h = rw (le-leb n 8 h) (div-one words)

pub whole_wide : (n words : ℕ) → 8 < n → whole_patterns n words ≡ words / 4
whole_wide n words h = rw (lt-leb n 8 h)

module _ (n : ℕ) (l : List ℕ) where
  pub at-narrow : (j : ℕ) → n ≤ 8 → pattern_at n l j ≡ get_or l j 0
  unfolding pattern_at
  at-narrow j h = rw (le-leb n 8 h)

  pub at_wide : (j : ℕ) → 8 < n → pattern_at n l j ≡ four_at l (greatest_words * j)
  unfolding pattern_at
  at_wide j h = rw (lt-leb n 8 h)

  pub length-patterns : length (patterns_of n l) ≡ whole_patterns n (length l)
  unfolding patterns_of
  length-patterns = length-list_of (pattern_at n l) (whole_patterns n (length l))

  pub patterns-at : (j : ℕ) → j < whole_patterns n (length l) → get_or (patterns_of n l) j 0 ≡ pattern_at n l j
  unfolding patterns_of
  patterns-at j h = list_of-at (pattern_at n l) 0 (whole_patterns n (length l)) j h

  pub patterns-past : (j : ℕ) → whole_patterns n (length l) ≤ j → get_or (patterns_of n l) j 0 ≡ 0
  patterns-past j h = get_or-eq_default (patterns_of n l) 0 (omega (arith, length-patterns))

  -- for n up to 8 the words are the patterns
  pub patterns-narrow : n ≤ 8 → patterns_of n l ≡ l
  unfolding patterns_of
  patterns-narrow h =
      list_of-ext (pattern_at n l) (λ j. get_or l j 0) (whole_patterns n (length l)) (λ j _. at-narrow j h)
      ∙ list_of-own l 0 (whole_patterns n (length l)) (sym (whole-narrow n (length l) h))

-- ---- a list of patterns, in words, has these patterns

four-at : (a b c d : ℕ) (t : List ℕ) (r : ℕ) → r < 4 → get_or (a ∷ b ∷ c ∷ d ∷ t) r 0 ≡ get_or (a ∷ b ∷ c ∷ d ∷ []) r 0
four-at a b c d t zero h = refl
four-at a b c d t (suc zero) h = refl
four-at a b c d t (suc (suc zero)) h = refl
four-at a b c d t (suc (suc (suc zero))) h = refl
four-at a b c d t (suc (suc (suc (suc r)))) h = absurd (omega arith)

words-at : (n : ℕ) (k t : List ℕ) (j r : ℕ) → 8 < n → j < length k → r < 4 → get_or (word_list n k ++ t) (4 * j + r) 0 ≡ get_or (in_four (get_or k j 0)) r 0
unfolding word_list in_words
words-at n [] t j r h l q = absurd (omega arith)
words-at n (w ∷ k) t zero r h l q =
    let e : 4 * 0 + r ≡ r = omega arith in
    rw (lt-leb n 8 h) (ap (λ (i : ℕ). get_or ((in_four w ++ word_list n k) ++ t) i 0) e ∙ four-at _ _ _ _ (word_list n k ++ t) r q)
words-at n (w ∷ k) t (suc j) r h l q =
    let e : 4 * suc j + r ≡ suc (suc (suc (suc (4 * j + r)))) = omega arith in
    rw (lt-leb n 8 h) (ap (λ (i : ℕ). get_or ((in_four w ++ word_list n k) ++ t) i 0) e ∙ words-at n k t j r h (omega arith) q)

pub words-pattern : (n : ℕ) (k t : List ℕ) (j : ℕ) → j < length k → pattern_at n (word_list n k ++ t) j ≡ get_or k j 0
words-pattern n k t j l =
    ⊎_elim
    (λ (h : n ≤ 8).
    at-narrow n (word_list n k ++ t) j h
    ∙ ap (λ (s : List ℕ). get_or (s ++ t) j 0) (words-narrow n k h)
    ∙ get_or-append k t 0 j l)
    (λ (h : 8 < n).
    at_wide n (word_list n k ++ t) j h
    ∙ four_same
    (ap (λ (i : ℕ). get_or (word_list n k ++ t) i 0) (sym (add-zero (4 * j))) ∙ words-at n k t j 0 h l (omega arith))
    (words-at n k t j 1 h l (omega arith))
    (words-at n k t j 2 h l (omega arith))
    (words-at n k t j 3 h l (omega arith))
    ∙ four-in (get_or k j 0))
    (narrow-or-wide n)

-- the words hold so many whole patterns
pub words-whole : (n : ℕ) (k t : List ℕ) → length k ≤ whole_patterns n (length (word_list n k ++ t))
words-whole n k t =
    (le-div_iff_mul-le (width-pos n)).1
    (omega (arith, length-append (word_list n k) t, length-words n k, mul_comm (length k) (words_of n)))

-- and they are these
pub patterns-words : (n : ℕ) (k t : List ℕ) → take (length k) (patterns_of n (word_list n k ++ t)) ≡ k
patterns-words n k t =
    let l = word_list n k ++ t in
    let whole = words-whole n k t in
    let size : length (take (length k) (patterns_of n l)) ≡ length k = length-take-le (length k) (patterns_of n l) (omega (arith, length-patterns n l)) in
    ext_get_or 0 (take (length k) (patterns_of n l)) k size
    (λ i h.
    let lt : i < length k = omega arith in
    get_or-take (length k) (patterns_of n l) i 0 lt ∙ patterns-at n l i (omega arith) ∙ words-pattern n k t i lt)
