-- What is shown of the wedgelet list, as statements.
use Rattle.std.specs.Prelude.{ℕ, ◌<◌, false, ◌≡◌, List, length, get_or}
use Rattle.pattern.specs.Pattern.{mark, transposed}

-- no pattern is zero
abbrev pub Nonzero : List ℕ → Type 0
Nonzero l = (i : ℕ) → i < length l → get_or l i 0 ≡ 0 → ⊥

-- no pattern stands twice
abbrev pub Distinct : List ℕ → Type 0
Distinct l = (i j : ℕ) → i < length l → j < length l → get_or l i 0 ≡ get_or l j 0 → i ≡ j

-- no pattern marks (0,0)
abbrev pub OriginUnmarked : ℕ → List ℕ → Type 0
OriginUnmarked n l = (i : ℕ) → i < length l → mark n (get_or l i 0) 0 0 ≡ false

-- w stands at exactly one place of the list
pub record Once (l : List ℕ) (w : ℕ) : Type 0 where
  pub index : ℕ
  pub inside : index < length l
  pub there : get_or l index 0 ≡ w
  pub only : (i : ℕ) → i < length l → get_or l i 0 ≡ w → i ≡ index

-- each entry's transposed pattern is exactly one entry
abbrev pub TransposeClosed : ℕ → List ℕ → Type 0
TransposeClosed n l = (i : ℕ) → i < length l → Once l (transposed n (get_or l i 0))
