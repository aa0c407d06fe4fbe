-- The contour in words; the contour of a transposed texture: the transposed contour, for every n; and that it never marks all samples.
use Prim.Native.Nat.{ℕ, zero, suc, ◌+◌, ◌-◌, ◌*◌, ◌/◌, ◌%◌, ◌^◌, ◌≤◌, ◌<◌, min}
use mathlib.Core.List.{List, [], ◌∷◌, reverse, reverse-cons}
use mathlib.Core.Bool.{Bool, true}
use mathlib.Core.Path.{◌≡◌, refl, sym, ap, ap₂, ◌∙◌}
use native.Mathlib.Nat.{lt_of_lt_of_le, mod-eq_of_lt}
use native.Mathlib.Omega.{arith}
use borrow.Author.Tests.{ltb-true}
use lib.Dec.{ltb}
use lib.ListN.{length, get_or, take, drop, length-drop}
use lib.Seq.{length-take-le, get_or-take, get_or-drop}
use lib.Pow.{pow_mono}
use Rattle.std.specs.List.{fold}
use Rattle.std.proofs.lemmas.List.Sums.{fold-append}
use Rattle.arith.specs.Bits.{bit, bits, test_bit}
use Rattle.arith.specs.Square.{place, transposed_list}
use Rattle.arith.proofs.BitLaws.{bits-lt, bits-ext, bits_at, bits-all, bits-append}
use Rattle.arith.proofs.SquareLaws.{place-lt, place-own, transposed-at}
use Rattle.pattern.specs.Size.{greatest_size}
use Rattle.pattern.specs.Pattern.{pattern, transposed}
use Rattle.pattern.specs.Contour.{texture_at, threshold, contour_of}
use Rattle.pattern.specs.Words.{four_words, four_at}
use Rattle.pattern.proofs.SizeLaws.{square-256}
use Rattle.pattern.proofs.WordLaws.{four_same, four-parted}
use Rattle.pattern.proofs.PatternLaws.{pattern-ext, transposed_pattern}

pub contour-lt : (n : ℕ) (t : List ℕ) → contour_of n t < 2 ^ (n * n)
unfolding contour_of
contour-lt n t = bits-lt _ (n * n)

-- which samples are above a level
abbrev marks_above : ℕ → List ℕ → ℕ
marks_above level s = bits (λ i. ltb level (get_or s i 0)) (length s)

-- a word with a mark more below those that it has, where the next sample is above the level
abbrev pub with_mark : ℕ → ℕ → ℕ → ℕ
with_mark level w sample = w * 2 ^ 1 % 2 ^ 64 + bit (ltb level sample)

-- at most 64 samples, the last of them first, give their marks
marks_folded : (level : ℕ) (s : List ℕ) → length s ≤ 64 → fold (with_mark level) 0 (reverse s) ≡ marks_above level s
unfolding bits
marks_folded level [] h = refl
marks_folded level (x ∷ s) h =
    let f = λ (i : ℕ). ltb level (get_or (x ∷ s) i 0) in
    let few : marks_above level s < 2 ^ 63 = lt_of_lt_of_le (bits-lt _ (length s)) (pow_mono {i = length s} {j = 63} (omega arith)) in
    let roomy : marks_above level s * 2 ^ 1 % 2 ^ 64 ≡ marks_above level s * 2 ^ 1 = mod-eq_of_lt (omega (arith, few)) in
    let first : bit (f 0) ≡ bits f 1 = omega arith in
    let long : 1 + length s ≡ suc (length s) = omega arith in
    ap (fold (with_mark level) 0) (reverse-cons x s)
    ∙ fold-append (with_mark level) 0 (reverse s) (x ∷ [])
    ∙ ap (λ (w : ℕ). with_mark level w x) (marks_folded level s (omega arith))
    ∙ ap₂ (λ (v w : ℕ). v + w) (roomy ∙ ap (λ (w : ℕ). w * 2 ^ 1) (bits-ext _ (λ j. f (1 + j)) (length s) (λ j l. let e : suc j ≡ 1 + j = omega arith in ap f e))) first
    ∙ sym (bits-append f 1 (length s))
    ∙ ap (bits f) long

-- the samples above a level from one place on
abbrev pub above_from : List ℕ → ℕ → ℕ → ℕ → Bool
above_from t level from i = ltb level (get_or t (from + i) 0)

-- which of m samples from one place on are above a level
part : (t : List ℕ) (level at m : ℕ) → at + m ≤ length t → marks_above level (take m (drop at t)) ≡ bits (above_from t level at) m
part t level at m h =
    let e : length (take m (drop at t)) ≡ m = length-take-le m (drop at t) (omega (arith, length-drop at t)) in
    rw e
    (bits-ext _ _ m
    (λ i l. ap (λ (x : ℕ). ltb level x) (get_or-take m (drop at t) i 0 l ∙ get_or-drop at t i 0)))

-- bits of a function from one place on, where the place may be another one if there are none
moved :
    (f : ℕ → Bool) {a b k m : ℕ} → k ≡ m → ((i : ℕ) → i < k → a ≡ b) → bits (λ i. f (a + i)) k ≡ bits (λ i. f (b + i)) m
moved f {a} {b} {k} e h =
    bits-ext (λ i. f (a + i)) (λ i. f (b + i)) k (λ i l. ap (λ (x : ℕ). f (x + i)) (h i l)) ∙ ap (bits (λ i. f (b + i))) e

-- the samples from place `at` on, and at most 64 of them, last one first, give their marks
pub part_folded :
    (t : List ℕ) (level at : ℕ) {a b : ℕ} → a ≡ min (length t) at → b ≡ min (length t) (at + 64)
    → fold (with_mark level) 0 (reverse (take (b - a) (drop a t))) ≡ bits (above_from t level at) (min (length t - at) 64)
part_folded t level at {a} {b} e f =
    let inside : a + (b - a) ≤ length t = omega (arith, e, f) in
    let long : length (take (b - a) (drop a t)) ≡ b - a = length-take-le (b - a) (drop a t) (omega (arith, e, f, length-drop a t)) in
    marks_folded level (take (b - a) (drop a t)) (omega (arith, e, f, long))
    ∙ part t level a (b - a) inside
    ∙ moved (λ i. ltb level (get_or t i 0)) {a = a} {b = at} {k = b - a} (omega (arith, e, f)) (λ i l. omega (arith, e, f))

-- the contour as the code makes it: four words, each of at most 64 of the samples that are left
pub contour-parts :
    (n : ℕ) (t w : List ℕ) {level : ℕ} → n ≤ greatest_size → length t ≡ n * n → level ≡ threshold n t
    → let word = λ (at : ℕ). bits (above_from t level at) (min (length t - at) 64) in
    get_or w 0 0 ≡ word 0 → get_or w 1 0 ≡ word 64 → get_or w 2 0 ≡ word 128 → get_or w 3 0 ≡ word 192
    → four_at w 0 ≡ contour_of n t
unfolding contour_of
contour-parts n t w {level} h square e p q r u =
    let f : ℕ → Bool = λ i. ltb level (get_or t i 0) in
    let c = length t in
    let small : c ≤ 256 = omega (arith, square, square-256 h) in
    let third : min (c - 128) 64 ≡ min (c - 64 - 64) 64 = omega arith in
    let fourth : min (c - 192) 64 ≡ min (c - 64 - 64 - 64) 64 = omega arith in
    let first : min (c - 0) 64 ≡ min c 64 = omega arith in
    four_same
    (p ∙ ap (bits (above_from t level 0)) first ∙ bits-ext _ _ (min c 64) (λ i _. ap f (let z : 0 + i ≡ i = omega arith in z)))
    q
    (r ∙ ap (bits (above_from t level 128)) third)
    (u ∙ ap (bits (above_from t level 192)) fourth)
    ∙ sym (four-parted f c small)
    ∙ ap (bits f) square
    ∙ ap (λ (k : ℕ). bits (λ i. ltb k (get_or t i 0)) (n * n)) e

-- two corners change places, and two stay
threshold-transposed : (n : ℕ) (t : List ℕ) → 1 ≤ n → threshold n (transposed_list n t) ≡ threshold n t
unfolding threshold
threshold-transposed n t some =
    let first : 0 < n = omega arith in
    let last : n - 1 < n = omega arith in
    rw (transposed-at n t 0 0 first first, transposed-at n t (n - 1) 0 last first, transposed-at n t 0 (n - 1) first last, transposed-at n t (n - 1) (n - 1) last last)
    (ap (λ (x : ℕ). x / 4) (omega arith))

-- the samples above a level, by column and row
by-samples : (n h : ℕ) (t : List ℕ) → bits (λ i. ltb h (get_or t i 0)) (n * n) ≡ pattern n (λ x y. ltb h (texture_at n t x y))
by-samples n h t =
    bits-ext (λ i. ltb h (get_or t i 0)) (λ i. ltb h (get_or t (place n (i % n) (i / n)) 0)) (n * n)
    (λ i _. ap (λ (k : ℕ). ltb h (get_or t k 0)) (sym (place-own n i)))

pub contour-transposed : (n : ℕ) (t : List ℕ) → contour_of n (transposed_list n t) ≡ transposed n (contour_of n t)
unfolding contour_of bits
contour-transposed zero t = refl
contour-transposed (suc m) t =
    let n = suc m in
    let h = threshold n t in
    ap (λ (k : ℕ). bits (λ i. ltb k (get_or (transposed_list n t) i 0)) (n * n)) (threshold-transposed n t (omega arith))
    ∙ by-samples n h (transposed_list n t)
    ∙ pattern-ext n _ _ (λ x y hx hy. ap (ltb h) (transposed-at n t x y hx hy))
    ∙ sym (ap (transposed n) (by-samples n h t) ∙ transposed_pattern n (λ x y. ltb h (texture_at n t x y)))

-- a sample is above the threshold where the contour marks all
all_above :
    (n : ℕ) (t : List ℕ) (x y : ℕ) → x < n → y < n → contour_of n t ≡ 2 ^ (n * n) - 1 → threshold n t < texture_at n t x y
unfolding contour_of
all_above n t x y hx hy e =
    let i = place n x y in
    let l = place-lt n x y hx hy in
    ltb-true (threshold n t) (texture_at n t x y)
    (sym (bits_at (λ i. ltb (threshold n t) (get_or t i 0)) (n * n) i l)
    ∙ ap (λ (w : ℕ). test_bit w i) (e ∙ sym (bits-all (n * n)))
    ∙ bits_at (λ _. true) (n * n) i l)

-- a contour never marks all samples: the least corner is not above the threshold
pub contour-not-all : (n : ℕ) (t : List ℕ) → 1 ≤ n → contour_of n t < 2 ^ (n * n) - 1
unfolding threshold
contour-not-all n t some =
    let first : 0 < n = omega arith in
    let last : n - 1 < n = omega arith in
    let no : contour_of n t ≡ 2 ^ (n * n) - 1 → ⊥ =
    λ e.
    omega (
      arith,
      all_above n t 0 0 first first e,
      all_above n t (n - 1) 0 last first e,
      all_above n t 0 (n - 1) first last e,
      all_above n t (n - 1) (n - 1) last last e,
    )
    in
    omega (arith, contour-lt n t)
