-- A whole number added to the neighbours: the side depths rise by it. Added to the table too: the predicted block rises by it, and `predict`
-- answers as before. For every n and every pattern.
use Prim.Native.Nat.{ℕ, ◌+◌, ◌-◌, ◌*◌, ◌/◌, ◌<◌}
use mathlib.Core.Path.{◌≡◌, sym, ap, ◌∙◌}
use mathlib.Core.Bool.{Bool, true, false, cond}
use mathlib.Core.List.{List}
use native.Mathlib.Omega.{arith}
use lib.Count.{ones}
use lib.Dec.{ltb}
use lib.IntN.{ℤ}
use lib.ListN.{length, get_or, length-map}
use Rattle.arith.specs.Bits.{test_bit}
use Rattle.arith.specs.Checks.{given}
use Rattle.arith.specs.Raised.{raised, raised_list, raised_in_range}
use Rattle.arith.proofs.CheckLaws.{answer-given, lent-given, given-means}
use Rattle.arith.proofs.RaisedLaws.{up, down, Risen, RisenList, dist-raised, mean-raised, pick-raised, list-raised}
use Rattle.depth_table.specs.Table.{table_ok}
use Rattle.depth_table.proofs.RaisedLaws.{table-raised, level-raised}
use Rattle.pattern.specs.Pattern.{mark}
use Rattle.prediction.specs.Sides.{left_at, top_at, left_change, top_change, differ, vert_edge, hor_edge, lt_by, br_by, lt, br, side_depth}
use Rattle.prediction.specs.Block.{sample_of, predicted}
use Rattle.prediction.specs.Answer.{predict_refusal_by, predict_answer_by, predict_block_by, predict_answer, predict_block}
use Rattle.prediction.proofs.BlockLaws.{length-predicted, predicted-at, predicted-bytes}
use Rattle.prediction.proofs.CallLaws.{PredictAccepted, predict-accepted}

module _ {p q : ℕ} (n : ℕ) (s s' : List ℕ) (some : 0 < n) (long : length s ≡ 4 * n) (r : RisenList p q s s') where
  -- both runs rise
  left-raised : (i : ℕ) → i < 2 * n → Risen p q (left_at s i) (left_at s' i)
  left-raised i h = r.each i (omega arith)

  top-raised : (i : ℕ) → i < 2 * n → Risen p q (top_at n s i) (top_at n s' i)
  top-raised i h = r.each (2 * n + i) (omega arith)

  -- both runs change as before
  left-change : left_change n s' ≡ left_change n s
  left-change = dist-raised (left-raised 0 (omega arith)) (left-raised (2 * n - 1) (omega arith))

  top-change : top_change n s' ≡ top_change n s
  top-change = dist-raised (top-raised 0 (omega arith)) (top-raised (2 * n - 1) (omega arith))

  -- both depths rise, case by case
  lt-raised : (v h : Bool) → Risen p q (lt_by n s v h) (lt_by n s' v h)
  unfolding lt_by
  lt-raised true true = mean-raised (left-raised 0 (omega arith)) (top-raised 0 (omega arith))
  lt-raised false false = mean-raised (left-raised 0 (omega arith)) (top-raised 0 (omega arith))
  lt-raised false true = top-raised ((n - 1) / 2) (omega arith)
  lt-raised true false = left-raised ((n - 1) / 2) (omega arith)

  br-raised : (v h : Bool) → Risen p q (br_by n s v h) (br_by n s' v h)
  unfolding br_by
  br-raised true true = mean-raised (left-raised (n - 1) (omega arith)) (top-raised (n - 1) (omega arith))
  br-raised false false =
      rw (top-change, left-change)
      (pick-raised (left-raised (2 * n - 1) (omega arith)) (top-raised (2 * n - 1) (omega arith)) (ltb (top_change n s) (left_change n s)))
  br-raised false true = left-raised (n - 1) (omega arith)
  br-raised true false = top-raised (n - 1) (omega arith)

  -- both side depths rise
  pub sides-raised : (w : ℕ) → Risen p q (lt n w s) (lt n w s') × Risen p q (br n w s) (br n w s')
  unfolding lt br
  sides-raised w = (lt-raised (vert_edge n w) (hor_edge n w), br-raised (vert_edge n w) (hor_edge n w))

  -- and so does the depth of the samples with a mark
  pub side-depth-raised : (w : ℕ) (m : Bool) → Risen p q (side_depth n w s m) (side_depth n w s' m)
  unfolding side_depth
  side-depth-raised w m = pick-raised (sides-raised w).1 (sides-raised w).0 (differ m (mark n w 0 0))

  module _ (t t' : List ℕ) (rt : RisenList p q t t') (ok : table_ok t ≡ true) (ok' : table_ok t' ≡ true) (w : ℕ) (off0 off1 : ℤ) where
    -- the value of the samples with a mark rises
    sample-raised : (m : Bool) → Risen p q (sample_of n w s t off0 off1 m) (sample_of n w s' t' off0 off1 m)
    unfolding sample_of
    sample-raised m = level-raised t t' rt ok (side_depth n w s m) (side_depth n w s' m) (side-depth-raised w m) ok' (cond m off1 off0)

    -- the predicted block rises
    pub prediction-raised : RisenList p q (predicted n w s t off0 off1) (predicted n w s' t' off0 off1)
    prediction-raised =
        let all = length-predicted n w s t off0 off1 in
        record {
          same_length = length-predicted n w s' t' off0 off1 ∙ sym all;
          each = λ i l.
              let h : i < n * n = omega arith in
              rw (predicted-at n w s t off0 off1 i h, predicted-at n w s' t' off0 off1 i h) (sample-raised (test_bit w i));
        }

-- ---- the call: a prediction that is not refused, with k added to neighbours and table, which stay within 0 to 255

module _
    (k : ℤ) (n w : ℕ) (s t : List ℕ) (off0 off1 : ℤ) (held : List ℕ) (marks : ℕ)
    (answered : predict_answer n w s t off0 off1 (length held) ≡ given marks)
    (in-s : raised_in_range 255 k s ≡ true) (in-t : raised_in_range 255 k t ≡ true) where
  -- the raised neighbours and the raised table
  abbrev s' : List ℕ
  s' = raised_list k s

  abbrev t' : List ℕ
  t' = raised_list k t

  -- the refusal of neighbours and a table
  abbrev refusal_of : List ℕ → List ℕ → ℕ
  refusal_of x y = predict_refusal_by (table_ok y) n w (length x) (length y) off0 off1 (length held)

  -- no check fails
  passes : (refusal_of s t ≡ 0) × (ones w ≡ marks)
  unfolding predict_answer_by
  passes = given-means (refusal_of s t) (ones w) marks answered

  -- so the sizes and the table are as they should be
  fine : PredictAccepted (table_ok t) n w (length s) (length t) off0 off1 (length held)
  fine = predict-accepted (table_ok t) n w (length s) (length t) off0 off1 (length held) passes.0

  -- the raised table is sound
  sound' : table_ok t' ≡ true
  sound' = table-raised k t fine.as_asked in-t

  -- the checks see the lengths of neighbours and table, and whether the table is sound
  passes' : refusal_of s' t' ≡ 0
  passes' = rw (sound', ← fine.as_asked, length-map s (raised k), length-map t (raised k)) passes.0

  -- it is not refused, and has the same number of marks
  pub answer-kept : predict_answer n w s' t' off0 off1 (length held) ≡ given marks
  unfolding predict_answer_by
  answer-kept = sym (answer-given (refusal_of s' t') (ones w) passes') ∙ ap given passes.1

  -- what it leaves in the lent block is raised, and is bytes
  pub block-raised :
      RisenList (up k) (down k) (predict_block n w s t off0 off1 held) (predict_block n w s' t' off0 off1 held)
      × ((i : ℕ) → get_or (predict_block n w s' t' off0 off1 held) i 0 < 256)
  unfolding predict_block_by
  block-raised =
      rw (
        ← lent-given (refusal_of s t) (predicted n w s t off0 off1) held passes.0,
        ← lent-given (refusal_of s' t') (predicted n w s' t' off0 off1) held passes',
      ) (
        prediction-raised n s s' (omega (arith, fine.low)) fine.long (list-raised 255 k s in-s) t t' (list-raised 255 k t in-t)
            fine.as_asked sound' w off0 off1,
        predicted-bytes n w s' t' off0 off1 sound',
      )
