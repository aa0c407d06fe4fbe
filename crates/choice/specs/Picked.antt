-- What the search answers step by step: the best offsets of a pattern, and the best pattern.
use Rattle.std.specs.Prelude.{ℕ, ◌*◌, ◌<◌, ◌≡◌, true, false, List, [], length, get_or}
use Rattle.depth_table.specs.Table.{table_ok, index_of}
use Rattle.depth_table.specs.declared.DepthIndex.{DepthIndex}
use Rattle.choice.specs.Layers.{Layered}
use Rattle.prediction.specs.SideAnswer.{sides_refusal}
use Rattle.choice.specs.Case.{Case, case_of}
use Rattle.choice.specs.Cases.{depth_in}
use Rattle.choice.specs.Search.{best_trial, best_cost, pattern_at, best_pattern, tried}

-- a case without patterns: what the cost of one pattern depends on
abbrev pub block_case : ℕ → List ℕ → List ℕ → List ℕ → ℕ → Case
block_case n neighbours original table reach = case_of n [] 0 neighbours original table reach []

-- what weighing the pattern w relies on
pub record Weighable (n w : ℕ) (neighbours original table : List ℕ) (reach : ℕ) : Type 0 where
  pub sides : sides_refusal n w neighbours ≡ 0
  pub square : length original ≡ n * n
  pub sound : table_ok table ≡ true
  pub near : reach < length table

-- the index at a place
abbrev pub index_at : List DepthIndex → ℕ → ℕ
index_at indices k = (get_or indices k (record { 0 = 0 })).0

-- the index of the depth in each of the first m cases
abbrev pub CaseIndices : ℕ → ℕ → List ℕ → List ℕ → List DepthIndex → Type 0
CaseIndices m n neighbours table indices = (k : ℕ) → k < m → index_at indices k ≡ index_of table (depth_in n neighbours k)

-- what is worked out once for a block: the layers of its samples with their sums, and the index of the depth in each of the eight cases
pub record Prepared (n : ℕ) (neighbours original table : List ℕ) (below sums : List (List ℕ)) (indices : List DepthIndex) : Type 0 where
  pub layers : Layered original below sums
  pub index_at : CaseIndices 8 n neighbours table indices

-- the numbers of the best offsets of a pattern, and its cost there
pub record SidesOf (C : Case) (w trial0 trial1 cost : ℕ) : Type 0 where
  pub first : trial0 ≡ best_trial C w false
  pub second : trial1 ≡ best_trial C w true
  pub its_cost : cost ≡ best_cost C w

-- the number of the chosen pattern, those of its offsets, its cost, and how many offsets were tried in all
pub record PickedOf (C : Case) (number trial0 trial1 cost count : ℕ) : Type 0 where
  pub best : number ≡ best_pattern C
  pub sides : SidesOf C (pattern_at C number) trial0 trial1 cost
  pub counted : count ≡ tried C
