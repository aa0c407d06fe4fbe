-- Document 01, "Sheet": the state of a sheet, and what every call on one checks of it.
use Rattle.std.specs.Prelude.{ℕ, ◌+◌, ◌*◌, ◌≤◌, ◌<◌, ◌≡◌, Bool, true, [], ◌∷◌, ◌⊎◌}
use Rattle.arith.specs.Checks.{refusal, Answer, answer}
use Rattle.pattern.specs.Size.{greatest_size, size_ok}
use Rattle.sheet_grid.specs.Grid.{longest, blocks, block_x, block_y}
use Rattle.sheet.specs.Checks.{sides_ok_by, new_refusal, lengths_ok_by, start_refusal_by}
use Rattle.sheet.specs.declared.Sheet.{Sheet}

-- The state is n, width, height and the number of blocks placed.
abbrev pub state_of : ℕ → ℕ → ℕ → ℕ → Sheet
state_of n w h k = record { n = n; width = w; height = h; placed = k }

-- the state after k blocks more
abbrev pub after : ℕ → Sheet → Sheet
after k S = state_of S.n S.width S.height (S.placed + k)

-- the number of its samples and of its blocks
abbrev pub area : Sheet → ℕ
area S = S.width * S.height

abbrev pub blocks_of : Sheet → ℕ
blocks_of S = blocks S.n S.width S.height

-- the state of the finished sheet
abbrev pub finished : Sheet → Sheet
finished S = state_of S.n S.width S.height (blocks_of S)

-- column and row of the first sample of the next block
abbrev pub next_x : Sheet → ℕ
next_x S = block_x S.n S.width S.placed

abbrev pub next_y : Sheet → ℕ
next_y S = block_y S.n S.width S.placed

-- ---- a new sheet

abbrev pub sides_ok : Sheet → Bool
sides_ok S = sides_ok_by S.n S.width S.height

-- `Sheet::new` answers the state of an empty sheet
unfoldable pub new_answer : ℕ → ℕ → ℕ → Answer Sheet
new_answer n w h = answer (new_refusal n w h) (state_of n w h 0)

-- ---- what is checked of a state

-- 2: the lengths of the lent samples, patterns, count and texture
abbrev pub lengths_ok : Sheet → ℕ → ℕ → ℕ → ℕ → Bool
lengths_ok S samples patterns count texture = lengths_ok_by S.width S.height samples patterns count texture

-- in placing and composing 1, 2, 8, 23, 20, then the rest
abbrev pub start_refusal : Sheet → Bool → ℕ → ℕ
start_refusal S lengths rest = start_refusal_by S.n S.width S.height S.placed lengths rest

-- and 3 before the rest, where the table is not as asked
abbrev pub open_refusal : Sheet → Bool → Bool → ℕ → ℕ
open_refusal S lengths asked rest = start_refusal S lengths (refusal ((asked, 3) ∷ []) rest)

-- what holds of a state that has a block to place
pub record Open (S : Sheet) : Type 0 where
  pub size : size_ok S.n ≡ true
  pub sides : sides_ok S ≡ true
  pub low : 4 ≤ S.n
  pub high : S.n ≤ greatest_size
  pub wide : S.n ≤ S.width
  pub narrow : S.width ≤ longest
  pub short : S.height ≤ longest
  pub missing : S.placed < blocks_of S

-- what `lengths_ok` says of the lent samples, patterns, count and texture
pub record Lengths (S : Sheet) (samples patterns count texture : ℕ) : Type 0 where
  pub whole : samples ≡ area S
  pub optional : (texture ≡ 0) ⊎ (texture ≡ area S)
  pub inside : count ≤ patterns
  pub few : count ≤ 9999
