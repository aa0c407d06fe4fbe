-- How the layers of a block are built, word by word: samples by value, then those below each value.
use Prim.Native.Nat.{ℕ, zero, suc, ◌+◌, ◌-◌, ◌*◌, ◌/◌, ◌%◌, ◌^◌, ◌≤◌, ◌<◌, min}
use mathlib.Core.Path.{◌≡◌, refl, sym, ap, ap₂, ◌∙◌}
use mathlib.Core.Bool.{Bool, true, false, ◌||◌}
use mathlib.Core.List.{List, []}
use native.Mathlib.Decide.{ℕ_discrete, dec_lt}
use native.Mathlib.Nat.{add_comm}
use native.Mathlib.Omega.{arith}
use lib.Bits.{bit_or, or_block}
use lib.Dec.{eqb, ltb}
use lib.ListN.{length, get_or, set, replicate, length-set, get_or-replicate}
use lib.Seq.{get_or-set_same, get_or-set_other}
use borrow.Author.Tests.{eq-eqb, ne_eqb, le-ltb}
use Rattle.arith.specs.Bits.{bit, bits}
use Rattle.arith.proofs.BitLaws.{bits-lt, bits-ext, bits-on, bits-off, bits_none, room-above}
use Rattle.pattern.specs.Words.{four_words}
use Rattle.pattern.proofs.WordLaws.{four_same, four-parted}
use Rattle.std.proofs.lemmas.Bool.Decides.{nat_tests}
use Rattle.choice.specs.Layers.{row_at, word_of, EqualWords, BelowWords, BelowLayers}

-- ---- the words of a layer

bits-zero : (f : ℕ → Bool) → bits f 0 ≡ 0
unfolding bits
bits-zero f = refl

same_bits : (f g : ℕ → Bool) {j k : ℕ} → ((i : ℕ) → f i ≡ g i) → j ≡ k → bits f j ≡ bits g k
same_bits f g {j} e q = bits-ext f g j (λ i _. e i) ∙ ap (bits g) q

-- a layer of at most 256 samples is its four words
words-joined : (f : ℕ → Bool) (c : ℕ) → c ≤ 256 → four_words (word_of f c 0) (word_of f c 1) (word_of f c 2) (word_of f c 3) ≡ bits f c
words-joined f c h =
    four_same
    (same_bits (λ j. f (64 * 0 + j)) f {j = min 64 (c - 64 * 0)} {k = min c 64} (λ j. ap f (let e : 64 * 0 + j ≡ j = omega arith in e)) (omega arith))
    (same_bits (λ j. f (64 * 1 + j)) (λ j. f (64 + j)) {j = min 64 (c - 64 * 1)} {k = min (c - 64) 64} (λ j. ap f (let e : 64 * 1 + j ≡ 64 + j = omega arith in e)) (omega arith))
    (same_bits (λ j. f (64 * 2 + j)) (λ j. f (128 + j)) {j = min 64 (c - 64 * 2)} {k = min (c - 64 - 64) 64} (λ j. ap f (let e : 64 * 2 + j ≡ 128 + j = omega arith in e)) (omega arith))
    (same_bits (λ j. f (64 * 3 + j)) (λ j. f (192 + j)) {j = min 64 (c - 64 * 3)} {k = min (c - 64 - 64 - 64) 64} (λ j. ap f (let e : 64 * 3 + j ≡ 192 + j = omega arith in e)) (omega arith))
    ∙ sym (four-parted f c h)

module _ (samples : List ℕ) (few : length samples ≤ 256) where
  pub below-joined : (l : List (List ℕ)) → BelowWords 257 samples l → BelowLayers 257 samples l
  below-joined l q v h =
      four_same (q v 0 h (omega arith)) (q v 1 h (omega arith)) (q v 2 h (omega arith)) (q v 3 h (omega arith))
      ∙ words-joined (λ k. ltb (get_or samples k 0) v) (length samples) few

-- ---- one sample more

module _ (f : ℕ → Bool) (k : ℕ) where
  abbrev own : ℕ → Bool
  own j = f (64 * (k / 64) + j)

  taken : min 64 (k - 64 * (k / 64)) ≡ k % 64
  taken = omega arith

  taken_more : min 64 (k + 1 - 64 * (k / 64)) ≡ k % 64 + 1
  taken_more = omega arith

  own-last : own (k % 64) ≡ f k
  own-last = ap f (let e : 64 * (k / 64) + k % 64 ≡ k = omega arith in e)

  -- its word has room for it
  word_room : {w : ℕ} → w ≡ word_of f k (k / 64) → w + 1 * 2 ^ (k % 64) % 2 ^ 64 < 2 ^ 64
  word_room e = room-above own (k % 64) (omega arith) (e ∙ ap (bits own) taken)

  word_on : {w r : ℕ} → w ≡ word_of f k (k / 64) → f k ≡ true → r ≡ w + 1 * 2 ^ (k % 64) % 2 ^ 64 → r ≡ word_of f (k + 1) (k / 64)
  word_on e t q = bits-on own (k % 64) (omega arith) (e ∙ ap (bits own) taken) (own-last ∙ t) q ∙ ap (bits own) (sym taken_more)

  word-off : {w : ℕ} → w ≡ word_of f k (k / 64) → f k ≡ false → w ≡ word_of f (k + 1) (k / 64)
  word-off {w} e t = bits-off own (k % 64) (e ∙ ap (bits own) taken) (own-last ∙ t) refl ∙ ap (bits own) (sym taken_more)

  -- the other words stay
  word-stays : (i : ℕ) → (i ≡ k / 64 → ⊥) → word_of f k i ≡ word_of f (k + 1) i
  word-stays i n = ap (bits (λ j. f (64 * i + j))) (go (dec_lt i (k / 64)))
    where
      go : Dec (i < k / 64) → min 64 (k - 64 * i) ≡ min 64 (k + 1 - 64 * i)
      go (yes h) = omega arith
      go (no h) = let g : k / 64 < i = omega arith in omega arith

  word_next : (i : ℕ) → f k ≡ false → word_of f k i ≡ word_of f (k + 1) i
  word_next i t = go (ℕ_discrete i (k / 64))
    where
      go : Dec (i ≡ k / 64) → word_of f k i ≡ word_of f (k + 1) i
      go (yes e) = rw e (word-off refl t)
      go (no n) = word-stays i n

-- ---- samples by value

module _ (samples : List ℕ) where
  abbrev has : ℕ → ℕ → Bool
  has v k = eqb (get_or samples k 0) v

  -- each row has four words
  abbrev pub Wide : List (List ℕ) → Type 0
  Wide l = (v : ℕ) → v < 256 → length (row_at l v) ≡ 4

  pub wide-none : Wide (replicate 256 (replicate 4 0))
  wide-none v h = ap (λ (r : List ℕ). length r) (get_or-replicate 256 v (replicate 4 0) [] h)

  pub equal-none : EqualWords 0 samples (replicate 256 (replicate 4 0))
  equal-none = (
    refl,
    λ v i l h.
        ap (λ (r : List ℕ). get_or r i 0) (get_or-replicate 256 v (replicate 4 0) [] l)
        ∙ get_or-replicate 4 i 0 0 h
        ∙ sym (ap (bits _) (let e : min 64 (0 - 64 * i) ≡ 0 = omega arith in e) ∙ bits-zero _),
  )

  module _ (k : ℕ) (l : List (List ℕ)) (small : k < 256) (q : EqualWords k samples l) (x : ℕ) (hx : x < 256) where
    before : get_or (row_at l x) (k / 64) 0 ≡ word_of (has x) k (k / 64)
    before = q.1 x (k / 64) hx (omega arith)

    pub equal-room : get_or (row_at l x) (k / 64) 0 + 1 * 2 ^ (k % 64) % 2 ^ 64 < 2 ^ 64
    equal-room = word_room (has x) k before

    -- the words of other values
    other-value : x ≡ get_or samples k 0 → (v i : ℕ) → v < 256 → i < 4 → (v ≡ x → ⊥) → get_or (row_at l v) i 0 ≡ word_of (has v) (k + 1) i
    other-value ex v i hv hi n = q.1 v i hv hi ∙ word_next (has v) k i (ne_eqb (get_or samples k 0) v (λ d. n (omega (arith, ex, d))))

    pub wide-more : Wide l → (j y : ℕ) → Wide (set l x (set (row_at l x) j y))
    wide-more w j y v h = go (ℕ_discrete v x)
      where
        go : Dec (v ≡ x) → length (row_at (set l x (set (row_at l x) j y)) v) ≡ 4
        go (yes e) =
            rw e
            (ap (λ (r : List ℕ). length r) (get_or-set_same l x _ [] (omega (arith, q.0))) ∙ length-set (row_at l x) j y ∙ w x hx)
        go (no n) = ap (λ (r : List ℕ). length r) (get_or-set_other l x v _ [] n) ∙ w v h

    pub equal-more :
        (y : ℕ) → x ≡ get_or samples k 0 → y ≡ get_or (row_at l x) (k / 64) 0 + 1 * 2 ^ (k % 64) % 2 ^ 64 → Wide l
        → EqualWords (k + 1) samples (set l x (set (row_at l x) (k / 64) y))
    equal-more y ex ey w = (length-set l x _ ∙ q.0, λ v i hv hi. go v i hv hi (ℕ_discrete v x) (ℕ_discrete i (k / 64)))
      where
        go : (v i : ℕ) → v < 256 → i < 4 → Dec (v ≡ x) → Dec (i ≡ k / 64)
            → get_or (row_at (set l x (set (row_at l x) (k / 64) y)) v) i 0 ≡ word_of (has v) (k + 1) i
        go v i hv hi (yes e) (yes d) =
            rw (e, d)
            (ap (λ (r : List ℕ). get_or r (k / 64) 0) (get_or-set_same l x _ [] (omega (arith, q.0)))
            ∙ get_or-set_same (row_at l x) (k / 64) y 0 (omega (arith, w x hx))
            ∙ word_on (has x) k before (eq-eqb (get_or samples k 0) x (sym ex)) ey)
        go v i hv hi (yes e) (no n) =
            rw e
            (ap (λ (r : List ℕ). get_or r i 0) (get_or-set_same l x _ [] (omega (arith, q.0)))
            ∙ get_or-set_other (row_at l x) (k / 64) i y 0 n
            ∙ q.1 x i hx hi
            ∙ word-stays (has x) k i n)
        go v i hv hi (no n) _ =
            ap (λ (r : List ℕ). get_or r i 0) (get_or-set_other l x v _ [] n) ∙ other-value ex v i hv hi n

-- ---- samples below each value

or-digit : (a b : Bool) → bit_or (bit a) (bit b) ≡ bit (a || b)
or-digit true true = refl
or-digit true false = refl
or-digit false true = refl
or-digit false false = refl

-- the bits that either of two rows has
bits_or : (f g : ℕ → Bool) (c : ℕ) → bit_or (bits f c) (bits g c) ≡ bits (λ k. f k || g k) c
unfolding bits
bits_or f g zero = refl
bits_or f g (suc c) =
    ap₂ bit_or (add_comm (bits f c) (bit (f c) * 2 ^ c)) (add_comm (bits g c) (bit (g c) * 2 ^ c))
    ∙ or_block c (bit (f c)) (bit (g c)) (bits f c) (bits g c) (bits-lt f c) (bits-lt g c)
    ∙ ap₂ (λ (x y : ℕ). x * 2 ^ c + y) (or-digit (f c) (g c)) (bits_or f g c)
    ∙ add_comm (bit (f c || g c) * 2 ^ c) (bits (λ k. f k || g k) c)

-- those below v and those that are v are those below v + 1
below_or : (x v : ℕ) → (ltb x v || eqb x v) ≡ ltb x (v + 1)
below_or x v = grind (arith, nat_tests)

module _ (samples : List ℕ) where
  abbrev m : ℕ
  m = length samples

  pub below-first : (l : List (List ℕ)) → 0 < length l → BelowWords 1 samples (set l 0 (replicate 4 0))
  below-first l h v i hv hi =
      let z : v ≡ 0 = omega arith in
      rw z
      (ap (λ (r : List ℕ). get_or r i 0) (get_or-set_same l 0 _ [] h)
      ∙ get_or-replicate 4 i 0 0 hi
      ∙ sym (bits-ext _ (λ _. false) (min 64 (m - 64 * i)) (λ j _. le-ltb (get_or samples (64 * i + j) 0) 0 (omega arith)) ∙ bits_none _))

  -- a row more: at each word the bits of the row before and of the next value
  pub below_more :
      (v : ℕ) (l equal : List (List ℕ)) (row : List ℕ) → BelowWords (v + 1) samples l → EqualWords m samples equal → v < 256 → v + 1 < length l
      → ((i : ℕ) → i < 4 → get_or row i 0 ≡ bit_or (get_or (row_at l v) i 0) (get_or (row_at equal v) i 0))
      → BelowWords (v + 1 + 1) samples (set l (v + 1) row)
  below_more v l equal row q e hv room r w i hw hi = go (ℕ_discrete w (v + 1))
    where
      go : Dec (w ≡ v + 1) → get_or (row_at (set l (v + 1) row) w) i 0 ≡ word_of (λ k. ltb (get_or samples k 0) w) m i
      go (yes d) =
          rw d
          (ap (λ (x : List ℕ). get_or x i 0) (get_or-set_same l (v + 1) row [] room)
          ∙ r i hi
          ∙ ap₂ bit_or (q v i (omega arith) hi) (e.1 v i hv hi)
          ∙ bits_or _ _ (min 64 (m - 64 * i))
          ∙ bits-ext _ _ (min 64 (m - 64 * i)) (λ j _. below_or (get_or samples (64 * i + j) 0) v))
      go (no n) = ap (λ (x : List ℕ). get_or x i 0) (get_or-set_other l (v + 1) w row [] n) ∙ q w i (omega arith) hi
