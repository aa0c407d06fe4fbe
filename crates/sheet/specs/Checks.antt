-- Document 01, "Sheet": what every call checks of a sheet's numbers and of what is lent.
use Rattle.std.specs.Prelude.{ℕ, ◌*◌, Bool, ◌&&◌, List, [], ◌∷◌, ◌++◌, eqb, leb, ltb}
use Rattle.arith.specs.Checks.{refusal}
use Rattle.pattern.specs.Size.{size_ok}
use Rattle.pattern.specs.Answer.{count_ok, texture_ok}
use Rattle.sheet_grid.specs.Grid.{side_ok, blocks}

-- ---- size and sides

-- whether both sides are allowed
abbrev pub sides_ok_by : ℕ → ℕ → ℕ → Bool
sides_ok_by n w h = side_ok n w && side_ok n h

-- of a new sheet: 1, the size; 8, a side
unfoldable pub new_refusal : ℕ → ℕ → ℕ → ℕ
new_refusal n w h = refusal ((size_ok n, 1) ∷ (sides_ok_by n w h, 8) ∷ []) 0

-- ---- what is lent

-- as many samples as width * height, texture of none or as many samples, and a count that the lent patterns and 9,999 allow
unfoldable pub lengths_ok_by : ℕ → ℕ → ℕ → ℕ → ℕ → ℕ → Bool
lengths_ok_by w h samples patterns count texture =
    eqb samples (w * h) && (texture_ok texture (w * h) && count_ok patterns count)

-- ---- a state, with k blocks placed

-- 1: the size; 2: the lengths, whether they hold; 8: a side; 23: more blocks placed than the sheet has
abbrev pub state_checks : ℕ → ℕ → ℕ → ℕ → Bool → List (Bool × ℕ)
state_checks n w h k lengths = (size_ok n, 1) ∷ (lengths, 2) ∷ (sides_ok_by n w h, 8) ∷ (leb k (blocks n w h), 23) ∷ []

abbrev pub state_refusal_by : ℕ → ℕ → ℕ → ℕ → Bool → ℕ → ℕ
state_refusal_by n w h k lengths rest = refusal (state_checks n w h k lengths) rest

-- in placing and composing, 20: all blocks are placed; then the rest
abbrev pub start_checks : ℕ → ℕ → ℕ → ℕ → Bool → List (Bool × ℕ)
start_checks n w h k lengths = state_checks n w h k lengths ++ ((ltb k (blocks n w h), 20) ∷ [])

unfoldable pub start_refusal_by : ℕ → ℕ → ℕ → ℕ → Bool → ℕ → ℕ
start_refusal_by n w h k lengths rest = refusal (start_checks n w h k lengths) rest
