-- A partition's cost is convex in the depth value: where it turns along the table, and its cost by an offset's number.
use Rattle.std.specs.Prelude.{ℕ, suc, ◌+◌, ◌-◌, ◌*◌, ◌≤◌, ◌<◌, ◌≡◌, Bool, true, cond, List, ◌⊎◌, leb, length, get_or}
use Rattle.std.specs.Int.Bits.{bit_and}
use Rattle.std.specs.Int.Count.{ones}
use Rattle.arith.specs.Distance.{clamped}
use Rattle.depth_table.specs.Table.{table_ok}
use Rattle.choice.specs.Cost.{side_cost}
use Rattle.choice.specs.Layers.{layer_at}
use Rattle.choice.specs.Offset.{offset}
use Rattle.choice.specs.Trial.{Better}

-- the cost is convex in the depth value: from v to v + 1 it changes by twice `below (v + 1)`, which does not fall as v grows, less `size`
pub record Convex (cost below : ℕ → ℕ) (size : ℕ) : Type 0 where
  pub step : (v : ℕ) → cost (suc v) + size ≡ cost v + 2 * below (suc v)
  pub more : (v : ℕ) → below v ≤ below (suc v)

-- the level at j is the best of those at lo .. hi, and the first in the order of offsets from i
pub record BestLevel (F : ℕ → ℕ) (lo hi i j : ℕ) : Type 0 where
  pub low : lo ≤ j
  pub high : j ≤ hi
  pub least : (k : ℕ) → lo ≤ k → k ≤ hi → F j ≤ F k
  pub above : i < j → (k : ℕ) → lo ≤ k → k < j → F j < F k
  pub under : j < i → (k : ℕ) → j < k → k ≤ hi → F j < F k

-- twice the samples of the word that are below the value at index j, plus 0 or 1
abbrev pub twice : List (List ℕ) → ℕ → List ℕ → ℕ → ℕ → ℕ
twice below word table plus j = 2 * ones (bit_and word (layer_at below (get_or table j 0 + plus)))

-- r is one of from .. to - 1; it is the first or twice is below the limit; the next is `to` or twice is not
pub record Turn (below : List (List ℕ)) (word limit : ℕ) (table : List ℕ) (plus from to r : ℕ) : Type 0 where
  pub low : from ≤ r
  pub high : r < to
  pub falls : (r ≡ from) ⊎ (twice below word table plus r < limit)
  pub stays : (r + 1 ≡ to) ⊎ (limit ≤ twice below word table plus (r + 1))

-- what partition m of the pattern w costs at the offset with the number t, where its depth has the index i
abbrev pub offset_cost : List ℕ → ℕ → Bool → List ℕ → ℕ → ℕ → ℕ
offset_cost samples w m table i t = side_cost (length samples) samples w m (get_or table (clamped (length table) i (offset t)) 0)

-- what finding the best offset relies on
pub record Findable (table : List ℕ) (i R : ℕ) : Type 0 where
  pub sound : table_ok table ≡ true
  pub inside : i < length table
  pub near : R ≤ 255

-- the number of the offset that leads from one index to another
abbrev pub number_to : ℕ → ℕ → ℕ
number_to i j = cond (leb i j) (2 * (j - i)) (2 * (i - j) - 1)

-- what the samples that a word marks cost at the value at index j
abbrev pub level_cost : List ℕ → ℕ → List ℕ → ℕ → ℕ
level_cost samples word table j = side_cost (length samples) samples word true (get_or table j 0)

-- the better of the level at the turn and the next one, upward and downward
pub record UpTried (samples : List ℕ) (below : List (List ℕ)) (word size : ℕ) (table : List ℕ) (i to number cost : ℕ) : Type 0 where
  pub l : ℕ
  pub turned : Turn below word size table 1 i to l
  pub better :
      Better (2 * (l - i)) (side_cost (length samples) samples word true (get_or table l 0)) (2 * (l + 1 - i))
      (side_cost (length samples) samples word true (get_or table (l + 1) 0)) number cost

pub record DownTried (samples : List ℕ) (below : List (List ℕ)) (word size : ℕ) (table : List ℕ) (i end number cost : ℕ) : Type 0 where
  pub l : ℕ
  pub turned : Turn below word (size + 1) table 0 end i l
  pub better :
      Better (2 * (i - (l + 1)) - 1) (side_cost (length samples) samples word true (get_or table (l + 1) 0)) (2 * (i - l) - 1)
      (side_cost (length samples) samples word true (get_or table l 0)) number cost
