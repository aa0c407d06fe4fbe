-- The level law. Every partition costs the same at each offset in the raised case, so every record does, and the record of least cost is the
-- same one.
use Prim.Native.Nat.{ℕ, ◌+◌, ◌-◌, ◌*◌, ◌<◌, min}
use mathlib.Core.Path.{◌≡◌, sym, ap, ap₂, subst, ◌∙◌}
use mathlib.Core.Bool.{Bool, true, false}
use mathlib.Core.List.{List}
use native.Mathlib.Omega.{arith}
use lib.IntN.{ℤ}
use lib.ListN.{length, get_or}
use Rattle.arith.specs.Checks.{given}
use Rattle.arith.specs.Raised.{raised_list}
use Rattle.arith.proofs.Bools.{both_of}
use Rattle.arith.proofs.RaisedLaws.{up, down, RisenList, list-raised, raised_is, raised-in-range}
use Rattle.arith.proofs.Sums.{sum-ext}
use Rattle.depth_table.specs.Table.{table_ok}
use Rattle.depth_table.proofs.RaisedLaws.{table-raised, level-raised}
use Rattle.prediction.specs.Sides.{side_depth}
use Rattle.prediction.specs.Answer.{predict_answer}
use Rattle.prediction.proofs.BlockLaws.{predicted-bytes}
use Rattle.prediction.proofs.RaisedLaws.{side-depth-raised, prediction-raised, answer-kept, block-raised}
use Rattle.record.specs.declared.Record.{Record}
use Rattle.choice.specs.Case.{Case, reach_in_use}
use Rattle.choice.specs.Offset.{offset, trial}
use Rattle.choice.specs.Refusal.{choose_refusal}
use Rattle.choice.specs.Record.{WithinReach, pattern_of, cost_of, LeastWithin, LeastRecord}
use Rattle.choice.specs.Search.{trial_cost, pattern_at, last_pattern, chosen, tried}
use Rattle.choice.specs.Answer.{choose_answer}
use Rattle.choice.proofs.AcceptLaws.{Accepted, accepted, accept}
use Rattle.choice.proofs.AnswerLaws.{answered}
use Rattle.choice.proofs.CostLaws.{side-cost-raised}
use Rattle.choice.proofs.LeastLaws.{chosen-least, least-unique}
use Rattle.choice.proofs.SideLaws.{cost-trials}
use Rattle.choice.proofs.TriedLaws.{tried-alike}
use Rattle.depth_bench.specs.Built.{built_case}
use Rattle.depth_bench.specs.Structs.{choice_struct}
use Rattle.depth_bench.proofs.Built.{not-refused}
use Rattle.level.specs.Law.{stays, raisable, raised_case, RisesBy, RecordRises, SameChoice, PredictRises, LevelLaw}

-- samples that are raised, and bytes, rise by k
rises_by : (k : ℤ) (t u : List ℕ) → RisenList (up k) (down k) t u → ((i : ℕ) → get_or u i 0 < 256) → RisesBy k t u
rises_by k t u r small =
    record { in_range = raised-in-range k t u r 255 (λ i. omega (arith, small i)); risen = raised_is k t u r }

module _ (k : ℤ) (C : Case) (passes : choose_refusal C ≡ 0) (all : raisable k C ≡ true) where
  abbrev D : Case
  D = raised_case k C

  fine : Accepted C
  fine = accepted C passes

  -- ---- the raised case

  -- the three premises
  all_stay : (stays k C.neighbours ≡ true) × (stays k C.original ≡ true) × (stays k C.table ≡ true)
  unfolding raisable
  all_stay =
      let a = both_of (stays k C.neighbours) _ all in
      let b = both_of (stays k C.original) (stays k C.table) a.1 in
      (a.0, b.0, b.1)

  -- neighbours, original and table are raised, and the table stays sound
  border : RisenList (up k) (down k) C.neighbours D.neighbours
  border = list-raised 255 k C.neighbours all_stay.0

  samples : RisenList (up k) (down k) C.original D.original
  samples = list-raised 255 k C.original all_stay.1

  values : RisenList (up k) (down k) C.table D.table
  values = list-raised 255 k C.table all_stay.2

  sound : table_ok D.table ≡ true
  sound = table-raised k C.table fine.sound all_stay.2

  -- nothing else that is checked is changed
  raised-accepted : choose_refusal D ≡ 0
  raised-accepted =
      let l = fine.lengths in
      accept D (record {
        size = fine.size;
        low = fine.low;
        high = fine.high;
        lengths =
            record {
              bordered = border.same_length ∙ l.bordered;
              square = samples.same_length ∙ l.square;
              optional = l.optional;
              inside = l.inside;
              few = l.few;
            };
        sound = sound;
        words = fine.words;
        near = fine.near;
        some = fine.some;
      })

  -- the reach in use is kept
  near-kept : reach_in_use D ≡ reach_in_use C
  near-kept = ap (λ (j : ℕ). min C.reach (j - 1)) values.same_length

  -- ---- a record

  -- what a partition costs at an offset is kept
  trial-kept : (w : ℕ) (m : Bool) (t : ℕ) → trial_cost D w m t ≡ trial_cost C w m t
  trial-kept w m t =
      let depth = side-depth-raised C.n C.neighbours D.neighbours (omega (arith, fine.low)) fine.lengths.bordered border w m in
      side-cost-raised (C.n * C.n) C.original D.original w m _ _ (omega (arith, fine.lengths.square)) samples
      (level-raised C.table D.table values fine.sound (side_depth C.n w C.neighbours m) (side_depth C.n w D.neighbours m)
      depth sound (offset t))

  -- so is what a record costs
  cost-kept : (r : Record) → cost_of D r ≡ cost_of C r
  cost-kept r =
      let w = pattern_of C r in
      cost-trials D w r.off0 r.off1
      ∙ ap₂ ◌+◌ (trial-kept w false (trial r.off0)) (trial-kept w true (trial r.off1))
      ∙ sym (cost-trials C w r.off0 r.off1)

  -- its prediction rises
  record-rises : (r : Record) → RecordRises k C r
  record-rises r =
      let w = pattern_of C r in
      record {
        prediction =
            rises_by k _ _
            (prediction-raised C.n C.neighbours D.neighbours (omega (arith, fine.low)) fine.lengths.bordered border
            C.table D.table values fine.sound sound w r.off0 r.off1)
            (predicted-bytes C.n w D.neighbours D.table r.off0 r.off1 sound);
        same_cost = cost-kept r;
      }

  -- ---- the choice

  -- the same records are within a reach
  within-kept : {R : ℕ} {r : Record} → WithinReach R D r → WithinReach R C r
  within-kept h = record { pattern_in = h.pattern_in; off0_in = h.off0_in; off1_in = h.off1_in }

  -- the record of least cost has it in the raised case too
  least_kept : (r : Record) (c : ℕ) → LeastRecord C r c → LeastRecord D r c
  least_kept r c x =
      subst (λ (R : ℕ). LeastWithin R D r c) (sym near-kept) (record {
        within = record { pattern_in = x.within.pattern_in; off0_in = x.within.off0_in; off1_in = x.within.off1_in };
        its_cost = x.its_cost ∙ sym (cost-kept r);
        least = λ s h. rw (cost-kept s) (x.least s (within-kept h));
        first = λ s h b. rw (cost-kept s) (x.first s (within-kept h) b);
      })

  -- as many offsets are tried
  tried-kept : tried D ≡ tried C
  unfolding tried
  tried-kept = sum-ext _ _ (last_pattern C + 1) (λ p l. tried-alike C D (pattern_at C p) (pattern_at C p) near-kept (trial-kept (pattern_at C p)))

  -- so the answers are the same
  same-choice : SameChoice k C
  same-choice =
      let x = least_kept (chosen C).0 (chosen C).1 (chosen-least C fine.some) in
      let same = least-unique D (chosen D).0 (chosen C).0 (chosen D).1 (chosen C).1 (chosen-least D fine.some) x in
      record {
        chosen = (chosen C).0;
        cost = (chosen C).1;
        answers = answered C passes;
        answers_raised = answered D raised-accepted ∙ (λ i. given (same.0 i, same.1 i, tried-kept i));
      }

-- ---- the calls

-- what `predict` answers and writes
predict-rises :
    (k : ℤ) (n w : ℕ) (s t : List ℕ) (off0 off1 : ℤ) (block : List ℕ) (marks : ℕ)
    → predict_answer n w s t off0 off1 (length block) ≡ given marks → stays k s ≡ true → stays k t ≡ true
    → PredictRises k n w s t off0 off1 block marks
predict-rises k n w s t off0 off1 block marks e in-s in-t =
    let b = block-raised k n w s t off0 off1 block marks e in-s in-t in
    record { same_marks = answer-kept k n w s t off0 off1 block marks e in-s in-t; written = rises_by k _ _ b.0 b.1 }

-- what `depth_bench_choose` answers
same-for-c :
    (k : ℤ) (n : ℕ) (s o t : List ℕ) (R : ℕ) (x : List ℕ) → let C = built_case n s o t R x in
    (choice_struct (choose_answer C)).refusal ≡ 0 → raisable k C ≡ true
    → choice_struct (choose_answer (built_case n (raised_list k s) (raised_list k o) (raised_list k t) R x)) ≡ choice_struct (choose_answer C)
same-for-c k n s o t R x e all =
    let C = built_case n s o t R x in
    let same = same-choice k C (not-refused C e) all in
    ap choice_struct (same.answers_raised ∙ sym same.answers)

pub level-law : LevelLaw
level-law =
    record {
      accepted = raised-accepted;
      choices = same-choice;
      records = record-rises;
      predictions = predict-rises;
      for_c = same-for-c;
    }
