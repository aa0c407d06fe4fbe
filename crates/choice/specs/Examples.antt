-- Worked examples of the definitions, for n = 4 and document 01's table, neighbours and first seven entries.
use Rattle.std.specs.Prelude.{ℕ, ◌≡◌, refl, List, [], ◌∷◌, map, ℤ, pos, negsuc, replicate}
use Rattle.arith.specs.Bits.{bits}
use Rattle.arith.specs.Checks.{Answer, refused, given}
use Rattle.arith.specs.Distance.{clamped}
use Rattle.arith.specs.Least.{least_to}
use Rattle.arith.specs.Lists.{list_of}
use Rattle.arith.specs.Sum.{sum_to}
use Rattle.depth_table.specs.Table.{bytes, rising, table_ok, nearest_to, index_of}
use Rattle.depth_table.specs.Examples.{sample_table}
use Rattle.pattern.specs.Contour.{threshold, contour_of}
use Rattle.prediction.specs.Sides.{vert_edge, hor_edge, lt_by, br_by, lt, br, side_depth}
use Rattle.depth_table.specs.Offset.{level_of}
use Rattle.prediction.specs.Block.{sample_of, predicted}
use Rattle.prediction.specs.Cases.{sample_neighbours}
use Rattle.choice.specs.Offset.{offset}
use Rattle.choice.specs.Cost.{side_cost}
use Rattle.choice.specs.Case.{Case, case_of}
use Rattle.choice.specs.Refusal.{lengths_ok, words_ok, choose_refusal}
use Rattle.choice.specs.Record.{difference, cost_of}
use Rattle.record.specs.declared.Record.{Record}
use Rattle.choice.specs.Search.{best_cost, tried_at, best_pattern, chosen, tried}
use Rattle.choice.specs.Trial.{trial_from}
use Rattle.choice.specs.Answer.{choose_answer}

-- the order of offsets between equals
offsets : map offset (0 ∷ 1 ∷ 2 ∷ 3 ∷ 4 ∷ []) ≡ pos 0 ∷ negsuc 0 ∷ pos 1 ∷ negsuc 1 ∷ pos 2 ∷ []
offsets = refl

-- document 01's first seven entries
abbrev pub entries : List ℕ
entries = 0xFFF0 ∷ 0xFF70 ∷ 0xF730 ∷ 0x7310 ∷ 0x3310 ∷ 0x1110 ∷ 0x008E ∷ []

-- a choice with the first `count` entries
abbrev pub with : ℕ → List ℕ → ℕ → List ℕ → Case
with count original reach texture = case_of 4 entries count (sample_neighbours 80) original sample_table reach texture

-- a record with its cost and how many offsets were tried
abbrev pub answers : ℕ → ℕ → ℤ → ℤ → ℕ → ℕ → Answer (Record × ℕ × ℕ)
answers kind entry off0 off1 cost count = given (record { kind = kind; entry = entry; off0 = off0; off1 = off1 }, cost, count)

-- 140 where 0xF730 marks and 128 elsewhere, but for the last sample
abbrev pub wedge : List ℕ
wedge = 128 ∷ 128 ∷ 128 ∷ 128 ∷ 140 ∷ 140 ∷ 128 ∷ 128 ∷ 140 ∷ 140 ∷ 140 ∷ 128 ∷ 140 ∷ 140 ∷ 140 ∷ 141 ∷ []

-- 128 and 140 by turns, which no entry has
abbrev pub turns : List ℕ
turns = 128 ∷ 140 ∷ 128 ∷ 140 ∷ 140 ∷ 128 ∷ 140 ∷ 128 ∷ 128 ∷ 140 ∷ 128 ∷ 140 ∷ 140 ∷ 128 ∷ 140 ∷ 128 ∷ []

-- record, cost and offsets tried: with a reach of 2, of 1 and of 0; where every entry costs 0, the first entry and offsets 0; with texture,
-- the contour beside seven entries and beside none; where a side has no sample, and an entry stands twice (5 + 1, 1 + 5, 3 + 5 and 3 + 5
-- offsets tried); neither entry nor texture. Document 02, Ask 4: reaches of 3 and 255 answer what one of 2 does, since the table has three
-- values; with one value, one offset is tried for each side of seven entries; a reach of 256 is refused
pub answered :
    map choose_answer
    (with 7 wedge 2 []
    ∷ with 7 wedge 1 []
    ∷ with 7 wedge 0 []
    ∷ with 7 (replicate 16 100) 2 []
    ∷ with 7 turns 2 turns
    ∷ with 0 turns 2 turns
    ∷ case_of 4 (0x0000 ∷ 0xFFFF ∷ 0xF730 ∷ 0xF730 ∷ []) 4 (sample_neighbours 80) wedge sample_table 2 []
    ∷ with 0 turns 2 []
    ∷ with 7 wedge 3 []
    ∷ with 7 wedge 255 []
    ∷ case_of 4 entries 7 (sample_neighbours 80) wedge (128 ∷ []) 255 []
    ∷ with 7 wedge 256 []
    ∷ [])
    ≡ answers 0 2 (pos 1) (pos 2) 1 60
    ∷ answers 0 0 (pos 1) (pos 1) 109 40
    ∷ answers 0 6 (pos 0) (pos 0) 445 14
    ∷ answers 0 0 (pos 0) (pos 0) 0 15
    ∷ answers 1 0 (pos 1) (pos 2) 0 78
    ∷ answers 1 0 (pos 1) (pos 2) 0 8
    ∷ answers 0 2 (pos 1) (pos 2) 1 28
    ∷ refused 10
    ∷ answers 0 2 (pos 1) (pos 2) 1 60
    ∷ answers 0 2 (pos 1) (pos 2) 1 60
    ∷ answers 0 0 (pos 0) (pos 0) 109 14
    ∷ refused 4
    ∷ []
unfolding bits clamped least_to sum_to bytes rising table_ok nearest_to index_of threshold contour_of
    vert_edge hor_edge lt_by br_by lt br side_depth level_of side_cost trial_from best_cost best_pattern chosen tried_at tried
    lengths_ok words_ok choose_refusal choose_answer
answered = refl

-- the cost of the first of these records, from its predicted block
pub cost_summed : cost_of (with 7 wedge 2 []) (record { kind = 0; entry = 2; off0 = pos 1; off1 = pos 2 }) ≡ 1
unfolding list_of clamped sum_to nearest_to index_of vert_edge hor_edge lt_by br_by lt br side_depth level_of sample_of predicted difference
cost_summed = refl

-- refusals in order: 1, 2, 3, 5, 4, 10
pub in_order :
    map choose_refusal
    (case_of 5 (0x10000 ∷ []) 1 [] [] [] 256 []
    ∷ case_of 4 (0x10000 ∷ []) 2 (sample_neighbours 80) wedge [] 256 []
    ∷ case_of 4 (0x10000 ∷ []) 1 (sample_neighbours 80) wedge [] 256 []
    ∷ case_of 4 (0x10000 ∷ []) 1 (sample_neighbours 80) wedge sample_table 256 []
    ∷ case_of 4 (0x10000 ∷ []) 0 (sample_neighbours 80) wedge sample_table 256 []
    ∷ case_of 4 (0x10000 ∷ []) 0 (sample_neighbours 80) wedge sample_table 255 []
    ∷ [])
    ≡ 1 ∷ 2 ∷ 3 ∷ 5 ∷ 4 ∷ 10 ∷ []
unfolding bytes rising table_ok lengths_ok words_ok choose_refusal
in_order = refl
