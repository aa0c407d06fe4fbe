-- Document 01, "Choice": what a choice is given.
use Rattle.std.specs.Prelude.{ℕ, ◌-◌, min, List, length}
use Rattle.pattern.specs.Words.{patterns_of}
use Rattle.choice.specs.declared.Input.{Input}

-- what a choice is given: the size, the wedgelet list (document 01: the edge list) and its count, the neighbours (the border), the
-- original samples, the depth table, the reach, and texture samples; no texture is the empty list
pub record Case : Type 0 where
  pub n : ℕ
  pub list : List ℕ
  pub count : ℕ
  pub neighbours : List ℕ
  pub original : List ℕ
  pub table : List ℕ
  pub reach : ℕ
  pub texture : List ℕ

-- Document 02, Ask 4: of a reach R, what a table of so many values can use: the smaller of R and table count - 1
abbrev pub usable_reach : ℕ → ℕ → ℕ
usable_reach R values = min R (values - 1)

-- the reach in use: only offsets that the table can use are tried
abbrev pub reach_in_use : Case → ℕ
reach_in_use C = usable_reach C.reach (length C.table)

abbrev pub case_of : ℕ → List ℕ → ℕ → List ℕ → List ℕ → List ℕ → ℕ → List ℕ → Case
case_of n list count neighbours original table reach texture =
    record {
      n = n;
      list = list;
      count = count;
      neighbours = neighbours;
      original = original;
      table = table;
      reach = reach;
      texture = texture;
    }

-- the case that a call is lent: its list in words, and the patterns that these are
abbrev pub case_in : Input → Case
case_in I =
    case_of I.n (patterns_of I.n I.list.words.now) I.list.count I.border.now I.original.now I.table.now I.reach I.texture.now
