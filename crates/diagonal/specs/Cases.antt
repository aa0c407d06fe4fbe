-- The law on worked cases, for n = 4 and document 01's table and neighbours.
use Rattle.std.specs.Prelude.{ℕ, ◌≡◌, Bool, true, false, not, ◌||◌, List, [], ◌∷◌, map, eqb, pos}
use Rattle.depth_table.specs.Examples.{sample_table}
use Rattle.prediction.specs.Cases.{sample_neighbours}
use Rattle.choice.specs.Case.{Case, case_of}
use Rattle.choice.specs.Refusal.{choose_refusal}
use Rattle.record.specs.declared.Record.{Record}
use Rattle.choice.specs.Search.{chosen, tried}
use Rattle.diagonal.specs.Law.{transposed_case, Partner, Alike, covered}

-- the wedgelet list for n = 4
abbrev pub list : List ℕ
list =
    0xFFF0 ∷ 0xFF70 ∷ 0xF730 ∷ 0x7310 ∷ 0x3310 ∷ 0x1110 ∷ 0x008E ∷ 0x08CE ∷ 0x88CE ∷ 0xCCCE ∷ 0xEEEE ∷ 0xFEEE ∷
    0xFFEE ∷ 0xFFFE ∷ 0x008C ∷ 0x088C ∷ 0x888C ∷ 0xCCCC ∷ 0xECCC ∷ 0xFECC ∷ 0xFFEC ∷ 0xFFFC ∷ 0x8888 ∷ 0xC888 ∷
    0xEC88 ∷ 0xFEC8 ∷ 0xFFC8 ∷ 0xFFF8 ∷ 0x000E ∷ 0x000C ∷ 0x0008 ∷ 0xC880 ∷ 0xEC80 ∷ 0xFC80 ∷ 0xFF80 ∷ 0x00CE ∷
    0x0088 ∷ 0xC800 ∷ 0xE800 ∷ 0xF800 ∷ 0xFF00 ∷ 0xFF10 ∷ 0x08CC ∷ 0x0888 ∷ 0xF000 ∷ 0xF100 ∷ 0xF310 ∷ 0x8CEE ∷
    0x8CCC ∷ 0x8880 ∷ 0x8800 ∷ 0x8000 ∷ 0x7100 ∷ 0xCEEE ∷ 0xCCC8 ∷ 0xCC80 ∷ 0xC000 ∷ 0x3100 ∷ 0x3110 ∷ 0xEEEC ∷
    0xEEC8 ∷ 0xEC00 ∷ 0xE000 ∷ 0xFEEC ∷ 0xFEC0 ∷ 0xFE00 ∷ 0x7000 ∷ 0x3000 ∷ 0x1000 ∷ 0xFFE8 ∷ 0xFFE0 ∷ 0xF700 ∷
    0x7300 ∷ 0x1100 ∷ []

-- an edge that no entry has exactly, and spots that no entry comes near
abbrev pub edge : List ℕ
edge = 128 ∷ 128 ∷ 128 ∷ 128 ∷ 140 ∷ 140 ∷ 128 ∷ 128 ∷ 140 ∷ 140 ∷ 140 ∷ 128 ∷ 140 ∷ 140 ∷ 140 ∷ 141 ∷ []

abbrev pub spots : List ℕ
spots = 128 ∷ 128 ∷ 140 ∷ 128 ∷ 128 ∷ 140 ∷ 140 ∷ 128 ∷ 140 ∷ 128 ∷ 128 ∷ 128 ∷ 128 ∷ 128 ∷ 128 ∷ 140 ∷ []

-- a case with the list as built
abbrev pub with : ℕ → List ℕ → ℕ → List ℕ → Case
with l7 original reach texture = case_of 4 list 74 (sample_neighbours l7) original sample_table reach texture

-- two cases that are covered: an edge, and spots with a texture that has them
abbrev pub edged : Case
edged = with 81 edge 1 []

abbrev pub spotted : Case
spotted = with 81 spots 2 spots

-- and two that are not: runs that both change by 70 and end on 80 and 170, and a list of one pattern
abbrev pub tied : Case
tied = with 80 edge 1 []

abbrev pub single : Case
single = case_of 4 (0xFFF0 ∷ []) 1 (sample_neighbours 81) edge sample_table 0 []

-- the same with spots, and with a reach of 2
abbrev pub tied_spots : Case
tied_spots = with 80 spots 1 []

abbrev pub alone : Case
alone = case_of 4 (0xFFF0 ∷ []) 1 (sample_neighbours 81) edge sample_table 2 []

abbrev pub cases : List Case
cases = edged ∷ spotted ∷ tied ∷ single ∷ []

-- the chosen costs, for the case and for the transposed case
abbrev pub costs : Case → ℕ × ℕ
costs C = ((chosen C).1, (chosen (transposed_case C)).1)

-- the offsets tried, likewise
abbrev pub counts : Case → ℕ × ℕ
counts C = (tried C, tried (transposed_case C))

-- the law on one case: where it is covered, the two costs are equal
abbrev pub holds_of : Case → Bool
holds_of C = not (covered C) || eqb (costs C).0 (costs C).1

-- a record with an entry and offsets 1
abbrev pub entry : ℕ → Record
entry k = record { kind = 0; entry = k; off0 = pos 1; off1 = pos 1 }

pub record WorkedCases : Type 0 where
  -- the law holds of each case
  pub hold : map holds_of cases ≡ true ∷ true ∷ true ∷ true ∷ []
  -- a choice accepts each, and the first two are covered: the premises can be met
  pub accepted : map choose_refusal cases ≡ 0 ∷ 0 ∷ 0 ∷ 0 ∷ []
  pub which : map covered cases ≡ true ∷ true ∷ false ∷ false ∷ []
  -- the costs of the other two differ: neither premise can be dropped
  pub unequal : map costs (tied ∷ single ∷ []) ≡ (73, 97) ∷ (557, 221) ∷ []
  -- as many offsets are tried for the first case and the transposed one; not where the runs tie, nor with a list of one pattern
  pub tried_are : map counts (edged ∷ tied_spots ∷ alone ∷ []) ≡ (422, 422) ∷ (436, 438) ∷ (8, 10) ∷ []
  -- entry 24, 0xEC88, and its partner for the transposed block, entry 33, 0xFC80, are the chosen ones of the first case
  pub chosen_are : chosen edged ≡ (entry 24, 97)
  pub chosen_transposed : chosen (transposed_case edged) ≡ (entry 33, 97)
  pub partner : Partner edged (entry 24) (entry 33)
  pub alike : Alike edged (entry 24) (entry 33)
