-- Demand 3, the least cost and the diagonal law, of what the calls answer: `Case`, `Within`, `pattern_of`, `prediction_of`, `cost_of`,
-- `choose_refusal` and `choose_answer` are those that the contract of `choose` cites; `list_answer` and `list_after` are what `wedgelets`
-- answers and leaves, `contour_answer` what `contour` answers, `predict_block` what `predict` leaves, and `choice_struct` of
-- `choose_answer` of `built_case` what `depth_bench_choose` answers. Turning is called transposing.
use Rattle.std.specs.Prelude.{ℕ, ◌*◌, ◌≡◌, Bool, true, ◌&&◌, List, [], ◌∷◌, length}
use Rattle.arith.specs.Checks.{given}
use Rattle.arith.specs.Square.{transposed_list}
use Rattle.pattern.specs.Pattern.{transposed}
use Rattle.pattern.specs.Words.{patterns_of}
use Rattle.pattern.specs.Answer.{contour_answer}
use Rattle.wedgelet.specs.Answer.{list_answer, list_after, as_built}
use Rattle.prediction.specs.Answer.{predict_block}
use Rattle.prediction.specs.Transposed.{transposed_neighbours, ends_decide}
use Rattle.choice.specs.Case.{Case, case_of}
use Rattle.choice.specs.Refusal.{choose_refusal}
use Rattle.choice.specs.Record.{Within, pattern_of, prediction_of, cost_of, LeastRecord, OneLeast}
use Rattle.choice.specs.Search.{tried}
use Rattle.record.specs.declared.Record.{Record}
use Rattle.choice.specs.Answer.{choose_answer}
use Rattle.depth_bench.specs.declared.Choice.{Choice}
use Rattle.depth_bench.specs.Built.{built_case, pattern_answer}
use Rattle.depth_bench.specs.Structs.{choice_struct, chosen_record}

-- ---- the least cost

-- Exactly one record within the reach is the one of least cost, first in the order between equals, and `choose` answers it with its cost
-- and the number of offsets tried.
pub record AnswersLeast (C : Case) : Type 0 where
  pub one : OneLeast C
  pub answers : choose_answer C ≡ given (one.chosen, one.cost, tried C)

-- ---- the transposed block

-- No texture stays none.
abbrev pub transposed_texture : ℕ → List ℕ → List ℕ
transposed_texture n [] = []
transposed_texture n (a ∷ t) = transposed_list n (a ∷ t)

-- The transposed case: the samples of block and texture move from (x, y) to (y, x); the left run of the neighbours is the old top run,
-- and the top run the old left run; list, table and reach are kept.
abbrev pub transposed_case : Case → Case
transposed_case C =
    case_of C.n C.list C.count
    (transposed_neighbours C.n C.neighbours) (transposed_list C.n C.original) C.table C.reach
    (transposed_texture C.n C.texture)

-- A partner is a record within the reach for the transposed block, of the same kind and offsets, whose pattern is the first record's
-- transposed.
pub record Partner (C : Case) (r s : Record) : Type 0 where
  pub within : Within (transposed_case C) s
  pub same_kind : s.kind ≡ r.kind
  pub same_off0 : s.off0 ≡ r.off0
  pub same_off1 : s.off1 ≡ r.off1
  pub transposed_pattern : pattern_of (transposed_case C) s ≡ transposed C.n (pattern_of C r)

-- A partner predicts the transposed prediction, at the same cost.
pub record Alike (C : Case) (r s : Record) : Type 0 where
  pub same_prediction : prediction_of (transposed_case C) s ≡ transposed_list C.n (prediction_of C r)
  pub same_cost : cost_of (transposed_case C) s ≡ cost_of C r

-- A record has exactly one partner, and that one costs the same.
pub record OnePartner (C : Case) (r : Record) : Type 0 where
  pub partner : Record
  pub is_partner : Partner C r partner
  pub only : (s : Record) → Partner C r s → s ≡ partner
  pub alike : Alike C r partner

-- The cost in the answers for the case and for the transposed case is one number, and so is the count of offsets tried. The two records
-- need not be partners.
pub record OneCost (C : Case) : Type 0 where
  pub chosen : Record
  pub chosen_transposed : Record
  pub cost : ℕ
  pub answers : choose_answer C ≡ given (chosen, cost, tried C)
  pub answers_transposed : choose_answer (transposed_case C) ≡ given (chosen_transposed, cost, tried C)

-- The cases of which this is said: the list is the one as built, and the runs of the neighbours differ from end to end by unequal
-- amounts or end on equal samples.
unfoldable pub covered : Case → Bool
covered C = as_built C.n C.list C.count && ends_decide C.n C.neighbours

-- ---- the choice for C

module _ (n : ℕ) (neighbours original table : List ℕ) (reach : ℕ) (texture : List ℕ) where
  -- the case that `depth_bench_choose` builds, and what it answers for the block and for the transposed block
  abbrev pub case_for_c : Case
  case_for_c = built_case n neighbours original table reach texture

  abbrev pub chosen_for_c : Choice
  chosen_for_c = choice_struct (choose_answer case_for_c)

  abbrev pub transposed_for_c : Choice
  transposed_for_c =
      choice_struct
      (choose_answer
      (built_case n (transposed_neighbours n neighbours) (transposed_list n original) table reach (transposed_texture n texture)))

  -- A choice for C that is not refused.
  pub record LawForC : Type 0 where
    -- its case has the list as built
    pub is_built : as_built n case_for_c.list case_for_c.count ≡ true
    -- it answers the record of least cost
    pub least : LeastRecord case_for_c (chosen_record chosen_for_c) chosen_for_c.cost
    -- and how many offsets were tried
    pub counted : chosen_for_c.tried ≡ tried case_for_c
    -- what `depth_bench_pattern_of` answers for a record within the reach is its pattern
    pub patterns : (r : Record) → Within case_for_c r → pattern_answer n r.kind r.entry texture ≡ given (pattern_of case_for_c r)
    -- the choice for the transposed block is not refused
    pub accepted : transposed_for_c.refusal ≡ 0
    -- where the runs decide, every record within the reach has exactly one partner, and both answers have the same cost and count
    pub partners : ends_decide n neighbours ≡ true → (r : Record) → Within case_for_c r → OnePartner case_for_c r
    pub costs : ends_decide n neighbours ≡ true → transposed_for_c.cost ≡ chosen_for_c.cost
    pub counts : ends_decide n neighbours ≡ true → transposed_for_c.tried ≡ chosen_for_c.tried

-- ---- the law

-- Demand 3. Every case that a choice accepts has its one record of least cost, whatever its list and its neighbours; the rest is said of
-- the cases that are covered.
pub record DiagonalLaw : Type 0 where
  -- the patterns that `wedgelets` leaves in a lent list, with the count that it answers, are the list as built
  pub built :
      (n : ℕ) (old : List ℕ) (count : ℕ) → list_answer n old ≡ given count → as_built n (patterns_of n (list_after n old)) count ≡ true
  -- what `contour` answers for texture that is lent is the pattern of kind 1
  pub outlined :
      (C : Case) → choose_refusal C ≡ 0 → (r : Record) → Within C r → r.kind ≡ 1
      → contour_answer C.n C.texture ≡ given (pattern_of C r)
  -- what `predict` writes to a lent block of n * n samples for a record within the reach is its prediction
  pub written :
      (C : Case) → choose_refusal C ≡ 0 → (r : Record) → Within C r → (block : List ℕ) → length block ≡ C.n * C.n
      → predict_block C.n (pattern_of C r) C.neighbours C.table r.off0 r.off1 block ≡ prediction_of C r
  -- no record within the reach costs less than the chosen one
  pub least : (C : Case) → choose_refusal C ≡ 0 → AnswersLeast C
  -- the transposed case is accepted too
  pub accepted : (C : Case) → choose_refusal C ≡ 0 → choose_refusal (transposed_case C) ≡ 0
  -- every record within the reach has exactly one partner
  pub partners : (C : Case) → choose_refusal C ≡ 0 → covered C ≡ true → (r : Record) → Within C r → OnePartner C r
  -- the two chosen costs are equal, and so are the counts of offsets tried
  pub costs : (C : Case) → choose_refusal C ≡ 0 → covered C ≡ true → OneCost C
  -- and all of it for C
  pub for_c :
      (n : ℕ) (neighbours original table : List ℕ) (reach : ℕ) (texture : List ℕ)
      → (chosen_for_c n neighbours original table reach texture).refusal ≡ 0 → LawForC n neighbours original table reach texture
