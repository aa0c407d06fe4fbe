-- Sums of samples by their marks: one sample more, eight at a time, and word by word.
use Prim.Native.Nat.{ℕ, zero, suc, ◌+◌, ◌-◌, ◌*◌, ◌/◌, ◌%◌, ◌^◌, ◌≤◌, ◌<◌}
use mathlib.Core.Path.{◌≡◌, refl, sym, ap, ap₂, ◌∙◌, subst}
use mathlib.Core.Bool.{Bool, cond}
use mathlib.Core.List.{List, []}
use mathlib.Core.Logic.{inl}
use native.Mathlib.Numerals.{add-one}
use native.Mathlib.Nat.{div-one, pow-suc, one-mul, mod-le, lt_of_lt_of_le, lt_of_le_of_lt}
use native.Mathlib.Decide.{dec_lt, ℕ_discrete}
use native.Mathlib.Omega.{arith}
use lib.Dec.{eqb}
use lib.ListN.{length, get_or, set, replicate, length-set, get_or-replicate}
use lib.Pow.{pow_mono}
use lib.Seq.{get_or-set_same, get_or-set_other}
use borrow.Author.Tests.{eq-eqb, ne_eqb, eqb-true, lt-ltb, ltb-true}
use Rattle.std.specs.Int.{w64, to_le_bytes}
use Rattle.arith.specs.Bits.{test_bit}
use Rattle.arith.specs.Sum.{sum_to}
use Rattle.arith.proofs.Bools.{both_of}
use Rattle.arith.proofs.BitLaws.{shifted_one, low_bit, high_bit, field-bit, rest_lt, bit_past, zero_bit}
use Rattle.arith.proofs.Sums.{sum-ext, sum-add, sum-le, term-le, sum-none, sum-append, sum_rows, sum_one}
use Rattle.pattern.specs.Words.{joined, four_words}
use Rattle.pattern.proofs.WordLaws.{first_word, four_below}
use Rattle.choice.specs.Sums.{marked_sum, sum_at, EightSums, Extended, bytes_sum}

-- ---- sums over the bits of a number

-- equal terms
pub marked-same : (f g : ℕ → ℕ) (w c : ℕ) → ((k : ℕ) → f k ≡ g k) → marked_sum f w c ≡ marked_sum g w c
unfolding marked_sum
marked-same f g w c e = sum-ext _ _ c (λ k _. ap (λ (x : ℕ). cond (test_bit w k) x 0) (e k))

module _ (f : ℕ → ℕ) where
  -- terms of at most m
  pub marked-le : (w m c : ℕ) → ((k : ℕ) → f k ≤ m) → marked_sum f w c ≤ c * m
  unfolding marked_sum
  marked-le w m c h = sum-le _ m c (λ k l. term-le (test_bit w k) (f k) m (h k))

  -- no bits
  pub marked-zero : (c : ℕ) → marked_sum f 0 c ≡ 0
  unfolding marked_sum
  marked-zero c = sum-ext _ (λ _. 0) c (λ k l. ap (λ (b : Bool). cond b (f k) 0) (zero_bit k)) ∙ sum-none c

  -- past its highest bit a number has none
  marked-past : (w c d : ℕ) → w < 2 ^ c → marked_sum f w (c + d) ≡ marked_sum f w c
  unfolding marked_sum
  marked-past w c d h =
      sum-append _ c d
      ∙ ap (λ (x : ℕ). marked_sum f w c + x)
      (sum-ext _ (λ _. 0) d (λ j l. ap (λ (b : Bool). cond b (f (c + j)) 0) (bit_past c w (c + j) h (omega arith))) ∙ sum-none d)
      ∙ omega arith

  pub marked_more : (w c m : ℕ) → c ≤ m → w < 2 ^ c → marked_sum f w m ≡ marked_sum f w c
  marked_more w c m l h = let e : m ≡ c + (m - c) = omega arith in ap (marked_sum f w) e ∙ marked-past w c (m - c) h

  -- a number in a high part and a low bits
  pub marked-cat :
      (a b h l : ℕ) → l < 2 ^ a → marked_sum f (h * 2 ^ a + l) (a + b) ≡ marked_sum f l a + marked_sum (λ j. f (a + j)) h b
  unfolding marked_sum
  marked-cat a b h l small =
      sum-append _ a b
      ∙ ap₂ ◌+◌
      (sum-ext _ _ a (λ k g. ap (λ (b : Bool). cond b (f k) 0) (low_bit a h l k g)))
      (sum-ext _ _ b
      (λ j g.
      let e : a + j - a ≡ j = omega arith in
      ap (λ (b : Bool). cond b (f (a + j)) 0) (high_bit a h l (a + j) small (omega arith) ∙ ap (test_bit h) e)))

  -- a bit above all others
  top-term : (j c k : ℕ) → c < 2 ^ j → cond (test_bit (1 * 2 ^ j + c) k) (f k) 0 ≡ cond (test_bit c k) (f k) 0 + cond (eqb k j) (f j) 0
  top-term j c k h = go (dec_lt k j) (ℕ_discrete k j)
    where
      go : Dec (k < j) → Dec (k ≡ j) → cond (test_bit (1 * 2 ^ j + c) k) (f k) 0 ≡ cond (test_bit c k) (f k) 0 + cond (eqb k j) (f j) 0
      go (yes l) _ = rw (low_bit j 1 c k l, ne_eqb k j (λ e. omega (arith, e, l))) (omega arith)
      go (no l) (yes e) =
          let z : j - j ≡ 0 = omega arith in
          rw (e, high_bit j 1 c j h (omega arith), z, bit_past j c j h (omega arith), eq-eqb j j refl) (omega arith)
      go (no l) (no e) =
          rw (high_bit j 1 c k h (omega arith), bit_past 1 1 (k - j) (omega arith) (omega arith), bit_past j c k h (omega arith), ne_eqb k j e) refl

  pub marked-top : (j c n : ℕ) → c < 2 ^ j → j < n → marked_sum f (2 ^ j + c) n ≡ marked_sum f c n + f j
  unfolding marked_sum
  marked-top j c n h l =
      ap (λ (x : ℕ). marked_sum f (x + c) n) (sym (one-mul (2 ^ j)))
      ∙ sum-ext _ _ n (λ k _. top-term j c k h)
      ∙ sum-add _ _ n
      ∙ ap (λ (x : ℕ). marked_sum f c n + x)
      (sum_one (λ k. eqb k j) (f j) n (record { place = j; inside = l; passes = eq-eqb j j refl; only = λ k _ e. eqb-true k j e }))

-- ---- eight samples at a time

-- a width, as the code shifts it
pub width_is : (k : ℕ) → 1 * 2 ^ (k % 8) % 2 ^ 64 ≡ 2 ^ (k % 8)
width_is k = shifted_one (k % 8) (omega arith)

module _ (samples : List ℕ) where
  abbrev eight : ℕ → ℕ → ℕ
  eight r j = get_or samples (8 * r + j) 0

  pub eight-none : EightSums 0 samples (replicate 32 (replicate 256 0))
  eight-none = (
    refl,
    λ r b hr hb h.
        let z : 0 - 8 * r ≡ 0 = omega arith in
        let g : b < 2 ^ 0 = rw z at h in
        let e : b ≡ 0 = omega (arith, g) in
        ap (λ (l : List ℕ). get_or l b 0) (get_or-replicate 32 r (replicate 256 0) [] hr)
        ∙ get_or-replicate 256 b 0 0 hb
        ∙ sym (ap (λ (w : ℕ). marked_sum (eight r) w 8) e ∙ marked-zero (eight r) 8),
  )

  module _ (k : ℕ) (l : List (List ℕ)) (few : k < 256) (q : EightSums k samples l) {width : ℕ} (ew : width ≡ 2 ^ (k % 8)) where
    abbrev r₀ : ℕ
    r₀ = k / 8

    abbrev j₀ : ℕ
    j₀ = k % 8

    abbrev row : List ℕ
    row = get_or l r₀ []

    own : k - 8 * r₀ ≡ j₀
    own = omega arith

    narrow : 2 ^ j₀ ≤ 128
    narrow = pow_mono {i = j₀} {j = 7} (omega arith)

    -- there is room for as many more, and the sums so far are small
    pub eight-room : 2 * width ≤ 256
    eight-room = omega (arith, narrow, ew)

    pub eight-small : ((i : ℕ) → get_or samples i 0 < 256) → (i : ℕ) → i < width → get_or row i 0 ≤ 2040
    eight-small bytes i h =
        let g : i < 2 ^ j₀ = rw ew at h in
        rw (q.1 r₀ i (omega arith) (omega (arith, narrow)) (rw own g)) (marked-le (eight r₀) i 255 8 (λ j. let b = bytes (8 * r₀ + j) in omega (arith, b)))

    module _ (after : List ℕ) (g : Extended row after width (get_or samples k 0)) where
      f : Extended row after (2 ^ j₀) (get_or samples k 0)
      f = subst (λ (z : ℕ). Extended row after z (get_or samples k 0)) ew g

      -- the sums of other samples stay
      other-sums : (r b : ℕ) → r < 32 → b < 256 → (r ≡ r₀ → ⊥) → b < 2 ^ (k + 1 - 8 * r) → sum_at l r b ≡ marked_sum (eight r) b 8
      other-sums r b hr hb n h = go (dec_lt r r₀)
        where
          go : Dec (r < r₀) → sum_at l r b ≡ marked_sum (eight r) b 8
          go (yes g) = q.1 r b hr hb (lt_of_lt_of_le hb (pow_mono {i = 8} {j = k - 8 * r} (omega arith)))
          go (no g) =
              let above : r₀ < r = omega arith in
              let e : k + 1 - 8 * r ≡ k - 8 * r = omega arith in
              q.1 r b hr hb (rw e at h)

      -- its own: without its mark and with it
      own-sums : (b : ℕ) → b < 2 ^ (j₀ + 1) → get_or after b 0 ≡ marked_sum (eight r₀) b 8
      own-sums b h = go (dec_lt b (2 ^ j₀))
        where
          go : Dec (b < 2 ^ j₀) → get_or after b 0 ≡ marked_sum (eight r₀) b 8
          go (yes g) = f.others b (inl g) ∙ q.1 r₀ b (omega arith) (omega (arith, narrow)) (rw own g)
          go (no g) =
              let c = b - 2 ^ j₀ in
              let small : c < 2 ^ j₀ = omega (arith, pow-suc 2 j₀, g, ap (λ (x : ℕ). 2 ^ x) (add-one j₀)) in
              let e : b ≡ 2 ^ j₀ + c = omega arith in
              ap (λ (a : ℕ). get_or after a 0) e
              ∙ f.added c small
              ∙ ap₂ ◌+◌ (q.1 r₀ c (omega arith) (omega (arith, narrow, small)) (rw own small)) (ap (λ (i : ℕ). get_or samples i 0) (let d : k ≡ 8 * r₀ + j₀ = omega arith in d))
              ∙ sym (ap (λ (w : ℕ). marked_sum (eight r₀) w 8) e ∙ marked-top (eight r₀) j₀ c 8 small (omega arith))

      pub eight-more : EightSums (k + 1) samples (set l r₀ after)
      eight-more = (length-set l r₀ after ∙ q.0, λ r b hr hb h. go r b hr hb h (ℕ_discrete r r₀))
        where
          go : (r b : ℕ) → r < 32 → b < 256 → b < 2 ^ (k + 1 - 8 * r) → Dec (r ≡ r₀) → sum_at (set l r₀ after) r b ≡ marked_sum (eight r) b 8
          go r b hr hb h (yes e) =
              let d : k + 1 - 8 * r₀ ≡ j₀ + 1 = omega arith in
              rw e
              (ap (λ (x : List ℕ). get_or x b 0) (get_or-set_same l r₀ after [] (omega (arith, q.0)))
              ∙ own-sums b (rw (e, d) at h))
          go r b hr hb h (no n) =
              ap (λ (x : List ℕ). get_or x b 0) (get_or-set_other l r₀ r after [] n) ∙ other-sums r b hr hb n h

-- ---- word by word

-- the bytes of a word, lowest first
pub byte_is : (w k : ℕ) → k < 8 → get_or (to_le_bytes w64 w) k 0 ≡ w / 2 ^ (8 * k) % 256
byte_is w zero h = ap (λ (x : ℕ). x % 256) (sym (div-one w))
byte_is w (suc zero) h = refl
byte_is w (suc (suc zero)) h = refl
byte_is w (suc (suc (suc zero))) h = refl
byte_is w (suc (suc (suc (suc zero)))) h = refl
byte_is w (suc (suc (suc (suc (suc zero))))) h = refl
byte_is w (suc (suc (suc (suc (suc (suc zero)))))) h = refl
byte_is w (suc (suc (suc (suc (suc (suc (suc zero))))))) h = refl
byte_is w (suc (suc (suc (suc (suc (suc (suc (suc k)))))))) h = absurd (omega arith)

-- byte by byte, as a loop adds them up
pub bytes-none : (sums : List (List ℕ)) (i w : ℕ) → 0 ≡ bytes_sum sums i w 0
unfolding sum_to
bytes-none sums i w = refl

pub bytes-more :
    (sums : List (List ℕ)) (i w k : ℕ) {sum x : ℕ} → sum ≡ bytes_sum sums i w k → x ≡ sum_at sums (8 * i + k) (w / 2 ^ (8 * k) % 256)
    → sum + x ≡ bytes_sum sums i w (k + 1)
unfolding sum_to
bytes-more sums i w k e q = ap₂ ◌+◌ e q ∙ ap (bytes_sum sums i w) (sym (add-one k))

-- the bits of a word, byte by byte
module _ (f : ℕ → ℕ) (w : ℕ) where
  marked-bytes : marked_sum f w 64 ≡ sum_to (λ k. marked_sum (λ j. f (k * 8 + j)) (w / 2 ^ (8 * k) % 256) 8) 8
  unfolding marked_sum
  marked-bytes =
      sum_rows (λ m. cond (test_bit w m) (f m) 0) 8 8
      ∙ sum-ext _ _ 8
      (λ k _.
      sum-ext _ _ 8
      (λ j h.
      let e : k * 8 + j ≡ 8 * k + j = omega arith in
      ap (λ (b : Bool). cond b (f (k * 8 + j)) 0) (ap (test_bit w) e ∙ sym (field-bit w (8 * k) 8 j h))))

module _ (samples : List ℕ) (sums : List (List ℕ)) (q : EightSums (length samples) samples sums) where
  abbrev s : ℕ → ℕ
  s k = get_or samples k 0

  abbrev c : ℕ
  c = length samples

  -- the sums give that of the samples which a word marks
  pub word-marked : (i w : ℕ) → i < 4 → w < 2 ^ (c - 64 * i) → bytes_sum sums i w 8 ≡ marked_sum (λ m. s (64 * i + m)) w 64
  word-marked i w hi small =
      sum-ext _ _ 8
      (λ k h.
      let b = w / 2 ^ (8 * k) % 256 in
      let d : c - 64 * i - 8 * k ≡ c - 8 * (8 * i + k) = omega arith in
      let l : w / 2 ^ (8 * k) < 2 ^ (c - 8 * (8 * i + k)) = rw d at (rest_lt w (c - 64 * i) (8 * k) small) in
      q.1 (8 * i + k) b (omega arith) (omega arith) (lt_of_le_of_lt (mod-le (w / 2 ^ (8 * k)) 256) l)
      ∙ marked-same (λ j. s (8 * (8 * i + k) + j)) (λ j. s (64 * i + (k * 8 + j))) b 8 (λ j. ap s (let e : 8 * (8 * i + k) + j ≡ 64 * i + (k * 8 + j) = omega arith in e)))
      ∙ sym (marked-bytes (λ m. s (64 * i + m)) w)

  -- a pattern of one word, and of four
  pub one-marked :
      (w₀ w₁ w₂ w₃ : ℕ) → w₀ < 2 ^ 64 → four_words w₀ w₁ w₂ w₃ < 2 ^ 64 → four_words w₀ w₁ w₂ w₃ < 2 ^ c
      → bytes_sum sums 0 w₀ 8 ≡ marked_sum s (four_words w₀ w₁ w₂ w₃) c
  one-marked w₀ w₁ w₂ w₃ p one small =
      let e = first_word w₀ w₁ w₂ w₃ p one in
      let h : w₀ < 2 ^ c = rw e at small in
      let z : c ≡ c - 64 * 0 = omega arith in
      word-marked 0 w₀ (omega arith) (rw z at h)
      ∙ marked-same _ s w₀ 64 (λ m. ap s (let d : 64 * 0 + m ≡ m = omega arith in d))
      ∙ sym (marked_more s w₀ 64 (c + 64) (omega arith) p)
      ∙ marked_more s w₀ c (c + 64) (omega arith) h
      ∙ ap (λ (w : ℕ). marked_sum s w c) (sym e)

  pub four-marked :
      (w₀ w₁ w₂ w₃ : ℕ) → w₀ < 2 ^ 64 → w₁ < 2 ^ 64 → w₂ < 2 ^ 64 → c ≤ 256 → four_words w₀ w₁ w₂ w₃ < 2 ^ c
      → bytes_sum sums 3 w₃ 8 + bytes_sum sums 2 w₂ 8 + bytes_sum sums 1 w₁ 8 + bytes_sum sums 0 w₀ 8 ≡ marked_sum s (four_words w₀ w₁ w₂ w₃) c
  unfolding four_words
  four-marked w₀ w₁ w₂ w₃ p₀ p₁ p₂ few small =
      let b₀ = both_of _ _ (sym (four_below w₀ w₁ w₂ w₃ c p₀ p₁ p₂) ∙ lt-ltb (four_words w₀ w₁ w₂ w₃) (2 ^ c) small) in
      let b₁ = both_of _ _ b₀.0 in
      let b₂ = both_of _ _ b₁.0 in
      let e₀ : c ≡ c - 64 * 0 = omega arith in
      let e₁ : c - 64 ≡ c - 64 * 1 = omega arith in
      let e₂ : c - 64 - 64 ≡ c - 64 * 2 = omega arith in
      let e₃ : c - 64 - 64 - 64 ≡ c - 64 * 3 = omega arith in
      let s₀ = word-marked 0 w₀ (omega arith) (rw e₀ at (ltb-true w₀ (2 ^ c) b₀.1)) in
      let s₁ = word-marked 1 w₁ (omega arith) (rw e₁ at (ltb-true w₁ (2 ^ (c - 64)) b₁.1)) in
      let s₂ = word-marked 2 w₂ (omega arith) (rw e₂ at (ltb-true w₂ (2 ^ (c - 64 - 64)) b₂.1)) in
      let s₃ = word-marked 3 w₃ (omega arith) (rw e₃ at (ltb-true w₃ (2 ^ (c - 64 - 64 - 64)) b₂.0)) in
      let t₀ = marked-same (λ m. s (64 * 0 + m)) s w₀ 64 (λ m. ap s (let d : 64 * 0 + m ≡ m = omega arith in d)) in
      let t₁ = marked-same (λ m. s (64 * 1 + m)) (λ m. s (64 + m)) w₁ 64 (λ m. ap s (let d : 64 * 1 + m ≡ 64 + m = omega arith in d)) in
      let t₂ = marked-same (λ m. s (64 * 2 + m)) (λ m. s (64 + (64 + m))) w₂ 64 (λ m. ap s (let d : 64 * 2 + m ≡ 64 + (64 + m) = omega arith in d)) in
      let t₃ = marked-same (λ m. s (64 * 3 + m)) (λ m. s (64 + (64 + (64 + m)))) w₃ 64 (λ m. ap s (let d : 64 * 3 + m ≡ 64 + (64 + (64 + m)) = omega arith in d)) in
      let c₀ = marked-cat s 64 192 (joined (joined w₃ w₂) w₁) w₀ p₀ in
      let c₁ = marked-cat (λ m. s (64 + m)) 64 128 (joined w₃ w₂) w₁ p₁ in
      let c₂ = marked-cat (λ m. s (64 + (64 + m))) 64 64 w₃ w₂ p₂ in
      omega (arith, s₀ ∙ t₀, s₁ ∙ t₁, s₂ ∙ t₂, s₃ ∙ t₃, c₀, c₁, c₂, marked_more s (four_words w₀ w₁ w₂ w₃) c 256 few small)
