-- The law on worked cases, with document 01's table.
use Rattle.std.specs.Prelude.{ℕ, ◌-◌, ◌*◌, ◌/◌, ◌^◌, ◌≡◌, Bool, true, false, not, ◌&&◌, ◌||◌, eqb, ℤ, pos, negsuc}
use Rattle.std.specs.Prelude.{List, [], ◌∷◌, ◌++◌, map, take, drop, replicate}
use Rattle.arith.specs.Checks.{Answer, refused}
use Rattle.arith.specs.Raised.{raised_list}
use Rattle.depth_table.specs.Examples.{sample_table}
use Rattle.prediction.specs.Cases.{sample_neighbours}
use Rattle.record.specs.declared.Record.{Record}
use Rattle.choice.specs.Case.{Case, case_of}
use Rattle.choice.specs.Refusal.{choose_refusal}
use Rattle.choice.specs.Record.{prediction_of}
use Rattle.choice.specs.Search.{chosen, tried}
use Rattle.choice.specs.Answer.{choose_answer}
use Rattle.choice.specs.Examples.{entries, with, answers, wedge, turns}
use Rattle.level.specs.Law.{raisable, raised_case, RecordRises, SameChoice}

-- ---- cases of n = 4 with document 01's neighbours, 10 to 170, which can fall by 10 and rise by 85

-- an edge that no entry has exactly
abbrev pub edged : Case
edged = with 7 wedge 1 []

-- a texture whose contour comes closest
abbrev pub outlined : Case
outlined = with 7 turns 2 turns

-- ---- a block of any size, 128 in its upper half and 140 in its lower one, with neighbours of 100: it can fall by 100 and rise by 115

abbrev pub half : ℕ → Case
half n =
    case_of n ((2 ^ (n * n) - 2 ^ (n * n / 2)) ∷ []) 1
    (replicate (4 * n) 100) (replicate (n * n / 2) 128 ++ replicate (n * n / 2) 140) sample_table 2 []

-- ---- a block of n = 4 with neighbours of one value and samples of one value

abbrev pub flat : ℕ → ℕ → List ℕ → Case
flat neighbour sample table = case_of 4 (0xFFF0 ∷ []) 1 (replicate 16 neighbour) (replicate 16 sample) table 0 []

-- ---- cases, each with the number that is added to it

-- to both ends of the range
abbrev pub ends : List (ℤ × Case)
ends =
    (negsuc 9, edged) ∷ (pos 85, edged)
    ∷ (negsuc 9, outlined) ∷ (pos 85, outlined)
    ∷ (negsuc 99, half 8) ∷ (pos 115, half 8)
    ∷ (negsuc 99, half 16) ∷ (pos 115, half 16)
    ∷ []

-- one step too far, of one part alone: a table that ends in 256, and one that starts in -1; neighbours of -1; samples of -1. A sum of -1
-- is taken as 1
abbrev pub too_far_cases : List (ℤ × Case)
too_far_cases =
    (pos 116, flat 100 100 sample_table) ∷ (negsuc 100, flat 128 128 (100 ∷ 101 ∷ 140 ∷ []))
    ∷ (negsuc 0, flat 0 5 (1 ∷ 2 ∷ []))
    ∷ (negsuc 0, flat 2 0 (2 ∷ []))
    ∷ []

-- the raised case
abbrev pub raised_by : ℤ × Case → Case
raised_by x = raised_case x.0 x.1

-- what is answered for a case and for the raised case
abbrev pub both_answers : ℤ × Case → Answer (Record × ℕ × ℕ) × Answer (Record × ℕ × ℕ)
both_answers x = (choose_answer x.1, choose_answer (raised_by x))

-- refusal, cost and count of two cases are equal
abbrev pub alike : Case → Case → Bool
alike D C = eqb (choose_refusal D) (choose_refusal C) && (eqb (chosen D).1 (chosen C).1 && eqb (tried D) (tried C))

-- the law on one case, but for the record: where all stay within 0 to 255, these are equal
abbrev pub holds_of : ℤ × Case → Bool
holds_of x = not (raisable x.0 x.1) || alike (raised_by x) x.1

-- the record that is chosen for the first case, and one that its reach leaves out, with row 1 of the prediction where k is added
abbrev pub best : Record
best = record { kind = 0; entry = 0; off0 = pos 1; off1 = pos 1 }

abbrev pub beyond : Record
beyond = record { kind = 0; entry = 2; off0 = pos 1; off1 = pos 2 }

abbrev pub row : ℤ → List ℕ
row k = take 4 (drop 4 (prediction_of (raised_case k edged) beyond))

-- the first case by its neighbours, original and table; and 10 taken off each value of a list
abbrev pub partly : List ℕ → List ℕ → List ℕ → Case
partly neighbours original table = case_of 4 entries 7 neighbours original table 1 []

abbrev pub lowered : List ℕ → List ℕ
lowered t = raised_list (negsuc 9) t

pub record LevelCases : Type 0 where
  -- the law holds of each case
  pub hold : map holds_of (ends ++ too_far_cases) ≡ replicate 12 true
  -- a choice accepts each, and at the ends of the range all stay: the premises can be met
  pub accepted : map (λ x. choose_refusal x.1) (ends ++ too_far_cases) ≡ replicate 12 0
  pub which : map (λ x. raisable x.0 x.1) (ends ++ too_far_cases) ≡ replicate 8 true ++ replicate 4 false
  -- the answers before and after where one part goes too far: none of the three ranges can be dropped
  pub too_far :
      map both_answers too_far_cases
      ≡ (answers 0 0 (pos 0) (pos 0) 0 2, refused 3)
      ∷ (answers 0 0 (pos 0) (pos 0) 192 2, refused 3)
      ∷ (answers 0 0 (pos 0) (pos 0) 64 2, answers 0 0 (pos 0) (pos 0) 48 2)
      ∷ (answers 0 0 (pos 0) (pos 0) 32 2, answers 0 0 (pos 0) (pos 0) 0 2)
      ∷ []
  -- with all of them lowered the answer stays; with the neighbours, the original or the table kept another one is given
  pub kept :
      map choose_answer
      (partly (lowered (sample_neighbours 80)) (lowered wedge) (lowered sample_table)
      ∷ partly (sample_neighbours 80) (lowered wedge) (lowered sample_table)
      ∷ partly (lowered (sample_neighbours 80)) wedge (lowered sample_table)
      ∷ partly (lowered (sample_neighbours 80)) (lowered wedge) sample_table
      ∷ [])
      ≡ answers 0 0 (pos 1) (pos 1) 109 40
      ∷ answers 0 0 (pos 0) (pos 1) 109 35
      ∷ answers 0 6 (pos 1) (pos 1) 237 42
      ∷ answers 0 0 (pos 1) (pos 1) 89 42
      ∷ []
  -- the answers at both ends, which are those of the cases as they are
  pub same_answers : map (λ x. choose_answer (raised_by x)) ends ≡ map (λ x. choose_answer x.1) ends
  pub answers_are :
      map (λ x. choose_answer x.1) ends
      ≡ replicate 2 (answers 0 0 (pos 1) (pos 1) 109 40)
      ++ replicate 2 (answers 1 0 (pos 1) (pos 2) 0 78)
      ++ replicate 4 (answers 0 0 (pos 1) (pos 2) 0 8)
  -- a row of a prediction as it is, and at both ends
  pub rows_are :
      map row (pos 0 ∷ negsuc 9 ∷ pos 85 ∷ [])
      ≡ (140 ∷ 140 ∷ 128 ∷ 128 ∷ []) ∷ (130 ∷ 130 ∷ 118 ∷ 118 ∷ []) ∷ (225 ∷ 225 ∷ 213 ∷ 213 ∷ []) ∷ []
  -- the statements of the law themselves, of the first case
  pub same : SameChoice (negsuc 9) edged
  pub rises : RecordRises (pos 85) edged beyond
