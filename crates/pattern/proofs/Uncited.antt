-- A law that no proof cites: docs/LANDINGS.md names it.
use Prim.Native.Nat.{ℕ, ◌+◌, ◌-◌, ◌*◌, ◌≤◌, min}
use mathlib.Core.List.{List}
use mathlib.Core.Bool.{Bool}
use mathlib.Core.Path.{◌≡◌, sym, ap, ◌∙◌}
use native.Mathlib.Omega.{arith}
use lib.Dec.{ltb}
use lib.ListN.{get_or}
use Rattle.arith.specs.Bits.{bits}
use Rattle.arith.proofs.BitLaws.{bits-ext}
use Rattle.pattern.specs.Size.{greatest_size}
use Rattle.pattern.specs.Contour.{threshold, contour_of}
use Rattle.pattern.specs.Words.{four_words}
use Rattle.pattern.proofs.SizeLaws.{square-256}
use Rattle.pattern.proofs.WordLaws.{four_same, four-parted}
use Rattle.pattern.proofs.ContourLaws.{above_from}

-- the contour in four words, each of at most 64 of the samples that are left
pub contour-words :
    (n : ℕ) (t : List ℕ) {level a b c d c1 c2 c3 m0 m1 m2 m3 : ℕ} → n ≤ greatest_size → level ≡ threshold n t
    → c1 ≡ n * n - 64 → c2 ≡ c1 - 64 → c3 ≡ c2 - 64 → m0 ≡ min (n * n) 64 → m1 ≡ min c1 64 → m2 ≡ min c2 64 → m3 ≡ min c3 64
    → a ≡ bits (λ i. above_from t level 0 i) m0 → b ≡ bits (λ i. above_from t level 64 i) m1
    → c ≡ bits (λ i. above_from t level 128 i) m2 → d ≡ bits (λ i. above_from t level 192 i) m3
    → four_words a b c d ≡ contour_of n t
unfolding contour_of
contour-words n t {level} {c1 = c1} {c2 = c2} {c3 = c3} {m0 = m0} h e e1 e2 e3 k0 k1 k2 k3 p q r u =
    let g2 : c2 ≡ n * n - 64 - 64 = e2 ∙ ap (λ (x : ℕ). x - 64) e1 in
    let g3 : c3 ≡ n * n - 64 - 64 - 64 = e3 ∙ ap (λ (x : ℕ). x - 64) g2 in
    let f : ℕ → Bool = λ i. ltb level (get_or t i 0) in
    let first : bits (λ i. above_from t level 0 i) m0 ≡ bits f m0 =
    bits-ext _ _ m0 (λ i _. ap (λ (j : ℕ). ltb level (get_or t j 0)) (let z : 0 + i ≡ i = omega arith in z)) in
    four_same
    (p ∙ first ∙ ap (bits f) k0)
    (q ∙ ap (bits (above_from t level 64)) (k1 ∙ ap (λ (x : ℕ). min x 64) e1))
    (r ∙ ap (bits (above_from t level 128)) (k2 ∙ ap (λ (x : ℕ). min x 64) g2))
    (u ∙ ap (bits (above_from t level 192)) (k3 ∙ ap (λ (x : ℕ). min x 64) g3))
    ∙ sym (four-parted f (n * n) (square-256 h))
    ∙ ap (λ (k : ℕ). bits (λ i. ltb k (get_or t i 0)) (n * n)) e
