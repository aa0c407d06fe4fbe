-- Document 02, Ask 8: the level law, of what the calls answer. `Case`, `choose_refusal`, `choose_answer`, `prediction_of`, `cost_of` and
-- `tried` are those that the contract of `choose` cites; `predict_answer` and `predict_block` are what `predict` answers and leaves in the
-- lent block, and `depth_bench_predict` too, for the pattern `used_words` of its words; `choice_struct` of `choose_answer` of
-- `built_case` is what `depth_bench_choose` answers. Adding is called raising: the whole number k may be negative.
use Rattle.std.specs.Prelude.{ℕ, ◌≡◌, Bool, true, ◌&&◌, List, ℤ, length}
use Rattle.arith.specs.Checks.{given}
use Rattle.arith.specs.Raised.{raised_list, raised_in_range}
use Rattle.prediction.specs.Answer.{predict_answer, predict_block}
use Rattle.record.specs.declared.Record.{Record}
use Rattle.choice.specs.Case.{Case, case_of}
use Rattle.choice.specs.Refusal.{choose_refusal}
use Rattle.choice.specs.Record.{prediction_of, cost_of}
use Rattle.choice.specs.Search.{tried}
use Rattle.choice.specs.Answer.{choose_answer}
use Rattle.depth_bench.specs.Built.{built_case}
use Rattle.depth_bench.specs.Structs.{choice_struct}

-- ---- the raised case

-- With k added, every sample or value of a list is within 0 to 255.
abbrev pub stays : ℤ → List ℕ → Bool
stays k t = raised_in_range 255 k t

-- All stay so: every border sample, every original sample and every table value.
unfoldable pub raisable : ℤ → Case → Bool
raisable k C = stays k C.neighbours && (stays k C.original && stays k C.table)

-- The raised case: k is added to every border sample, every original sample and every table value; size, list, count, reach and texture
-- are kept.
abbrev pub raised_case : ℤ → Case → Case
raised_case k C =
    case_of C.n C.list C.count
    (raised_list k C.neighbours) (raised_list k C.original) (raised_list k C.table) C.reach
    C.texture

-- ---- what rises, and what is kept

-- The samples u are the samples t with k added, and all of them are within 0 to 255.
pub record RisesBy (k : ℤ) (t u : List ℕ) : Type 0 where
  pub in_range : stays k t ≡ true
  pub risen : u ≡ raised_list k t

-- A record's prediction rises by k, and its cost is kept.
pub record RecordRises (k : ℤ) (C : Case) (r : Record) : Type 0 where
  pub prediction : RisesBy k (prediction_of C r) (prediction_of (raised_case k C) r)
  pub same_cost : cost_of (raised_case k C) r ≡ cost_of C r

-- One record, at one cost, is in the answers for the case and for the raised case, with one count of offsets tried.
pub record SameChoice (k : ℤ) (C : Case) : Type 0 where
  pub chosen : Record
  pub cost : ℕ
  pub answers : choose_answer C ≡ given (chosen, cost, tried C)
  pub answers_raised : choose_answer (raised_case k C) ≡ given (chosen, cost, tried C)

-- `predict`, for the pattern w, the neighbours s and the table t, answers the same number of marks where s and t are raised, and what it
-- writes to the lent block rises by k.
pub record PredictRises (k : ℤ) (n w : ℕ) (s t : List ℕ) (off0 off1 : ℤ) (block : List ℕ) (marks : ℕ) : Type 0 where
  pub same_marks : predict_answer n w (raised_list k s) (raised_list k t) off0 off1 (length block) ≡ given marks
  pub written : RisesBy k (predict_block n w s t off0 off1 block) (predict_block n w (raised_list k s) (raised_list k t) off0 off1 block)

-- ---- the law

-- For every whole number k and every case that a choice accepts, of any size, with texture or without, where all stay within 0 to 255.
pub record LevelLaw : Type 0 where
  -- the raised case is accepted too
  pub accepted : (k : ℤ) (C : Case) → choose_refusal C ≡ 0 → raisable k C ≡ true → choose_refusal (raised_case k C) ≡ 0
  -- the choice names the same record at the same cost, and tries as many offsets
  pub choices : (k : ℤ) (C : Case) → choose_refusal C ≡ 0 → raisable k C ≡ true → SameChoice k C
  -- each record's prediction rises by k, of wedgelets and contours, within the reach or not
  pub records : (k : ℤ) (C : Case) → choose_refusal C ≡ 0 → raisable k C ≡ true → (r : Record) → RecordRises k C r
  -- and so does what `predict` writes, whatever the pattern, the offsets and the lent block, where it is not refused
  pub predictions :
      (k : ℤ) (n w : ℕ) (s t : List ℕ) (off0 off1 : ℤ) (block : List ℕ) (marks : ℕ)
      → predict_answer n w s t off0 off1 (length block) ≡ given marks → stays k s ≡ true → stays k t ≡ true
      → PredictRises k n w s t off0 off1 block marks
  -- `depth_bench_choose` answers the same for the raised block, where it is not refused
  pub for_c :
      (k : ℤ) (n : ℕ) (neighbours original table : List ℕ) (reach : ℕ) (texture : List ℕ)
      → let C = built_case n neighbours original table reach texture in
      (choice_struct (choose_answer C)).refusal ≡ 0 → raisable k C ≡ true
      → choice_struct (choose_answer (built_case n (raised_list k neighbours) (raised_list k original) (raised_list k table) reach texture))
      ≡ choice_struct (choose_answer C)
