-- The least cost and the diagonal law. The transposed case costs no more, since the chosen record has a partner there; transposed again it is the first case,
-- so that the first costs no more either.
use Prim.Native.Nat.{ℕ, ◌≤◌}
use mathlib.Core.Bool.{true}
use mathlib.Core.List.{List}
use mathlib.Core.Path.{◌≡◌, sym, ap, ap₂, subst, ◌∙◌}
use native.Mathlib.Nat.{le_antisymm}
use native.Mathlib.Omega.{arith}
use Rattle.arith.specs.Checks.{given}
use Rattle.arith.proofs.Bools.{both_of}
use Rattle.wedgelet.specs.Answer.{as_built}
use Rattle.wedgelet.proofs.AnswerLaws.{Built, built-is, wedgelets-build}
use Rattle.prediction.specs.Transposed.{ends_decide, EndsDecide}
use Rattle.prediction.proofs.SideTransposedLaws.{ends-transposed}
use Rattle.choice.specs.Case.{Case}
use Rattle.choice.specs.Refusal.{choose_refusal}
use Rattle.choice.specs.Record.{Within, LeastRecord}
use Rattle.record.specs.declared.Record.{Record}
use Rattle.choice.specs.Search.{chosen, tried}
use Rattle.choice.specs.Answer.{chosen_all}
use Rattle.choice.proofs.AcceptLaws.{Accepted, accepted}
use Rattle.choice.proofs.AnswerLaws.{answered}
use Rattle.choice.proofs.LeastLaws.{chosen-least, one-least}
use Rattle.depth_bench.specs.Structs.{choice_struct}
use Rattle.depth_bench.proofs.Built.{list-as-built, least-told, not-refused}
use Rattle.depth_bench.proofs.PatternLaws.{pattern-answers}
use Rattle.diagonal.specs.Law.{transposed_case, AnswersLeast, OnePartner, OneCost, covered, case_for_c, chosen_for_c, transposed_for_c, LawForC, DiagonalLaw}
use Rattle.diagonal.proofs.RecordLaws.{contour-answers, predict-writes}
use Rattle.diagonal.proofs.TransposedLaws.{case_twice, refusal-transposed}
use Rattle.diagonal.proofs.PartnerLaws.{one-partner}
use Rattle.diagonal.proofs.TriedLaws.{tried-transposed}

-- what a case needs for its law
record Fit (C : Case) : Type 0 where
  passes : choose_refusal C ≡ 0
  built : as_built C.n C.list C.count ≡ true
  ends : EndsDecide C.n C.neighbours

fit : (C : Case) → choose_refusal C ≡ 0 → covered C ≡ true → Fit C
unfolding covered
fit C e h =
    let p = both_of (as_built C.n C.list C.count) (ends_decide C.n C.neighbours) h in
    record { passes = e; built = p.0; ends = p.1 }

-- ---- the least cost

answers-least : (C : Case) → choose_refusal C ≡ 0 → AnswersLeast C
answers-least C passes =
    let o = one-least C passes in
    let u = o.only (chosen C).0 (chosen C).1 (chosen-least C (accepted C passes).some) in
    record { one = o; answers = answered C passes ∙ (λ i. given (u.0 i, u.1 i, tried C)) }

-- ---- equal costs

module _ (C : Case) (f : Fit C) where
  fine : Accepted C
  fine = accepted C f.passes

  least : LeastRecord C (chosen C).0 (chosen C).1
  least = chosen-least C fine.some

  fit-transposed : Fit (transposed_case C)
  fit-transposed =
      record {
        passes = refusal-transposed C f.passes;
        built = f.built;
        ends = ends-transposed C.n C.neighbours fine.lengths.bordered (omega (arith, fine.low)) f.ends;
      }

  is_built : Built C.n C.list C.count
  is_built = built-is C.n C.list C.count f.built

  partners : (r : Record) → Within C r → OnePartner C r
  partners = one-partner C fine is_built f.ends

  -- as many offsets are tried
  tried_same : tried (transposed_case C) ≡ tried C
  tried_same = tried-transposed C fine is_built f.ends

-- the transposed case costs no more
cost-le : (C : Case) → Fit C → (chosen (transposed_case C)).1 ≤ (chosen C).1
cost-le C f =
    let x = least C f in
    let p = partners C f (chosen C).0 x.within in
    omega (arith, x.its_cost, p.alike.same_cost, (least (transposed_case C) (fit-transposed C f)).least p.partner p.is_partner.within)

cost-same : (C : Case) → Fit C → (chosen (transposed_case C)).1 ≡ (chosen C).1
cost-same C f =
    le_antisymm (cost-le C f)
    (subst (λ (D : Case). (chosen D).1 ≤ (chosen (transposed_case C)).1) (case_twice C (fine C f)) (cost-le (transposed_case C) (fit-transposed C f)))

one-cost : (C : Case) → Fit C → OneCost C
one-cost C f =
    let D = transposed_case C in
    let g = fit-transposed C f in
    record {
      chosen = (chosen C).0;
      chosen_transposed = (chosen D).0;
      cost = (chosen C).1;
      answers = answered C f.passes;
      answers_transposed =
          answered D g.passes ∙ ap₂ (λ (c t : ℕ). given ((chosen D).0, c, t)) (cost-same C f) (tried_same C f);
    }

-- ---- the choice for C

module _ (n : ℕ) (s o t : List ℕ) (R : ℕ) (x : List ℕ) (given-one : (chosen_for_c n s o t R x).refusal ≡ 0) where
  abbrev C : Case
  C = case_for_c n s o t R x

  passes : choose_refusal C ≡ 0
  passes = not-refused C given-one

  -- the two structs that C gets
  got : chosen_for_c n s o t R x ≡ choice_struct (given (chosen_all C))
  got = ap choice_struct (answered C passes)

  got-transposed : transposed_for_c n s o t R x ≡ choice_struct (given (chosen_all (transposed_case C)))
  got-transposed = ap choice_struct (answered (transposed_case C) (refusal-transposed C passes))

  fine-for-c : Accepted C
  fine-for-c = accepted C passes

  fit-for-c : EndsDecide n s → Fit C
  fit-for-c d = record { passes = passes; built = list-as-built n fine-for-c.size; ends = d }

  law-for-c : LawForC n s o t R x
  law-for-c =
      record {
        is_built = list-as-built n fine-for-c.size;
        least = (least-told C given-one).0;
        counted = ap (λ c. c.tried) got;
        patterns = λ r h. pattern-answers n s o t R x fine-for-c.size fine-for-c.lengths.optional r.kind r.entry h.pattern_in;
        accepted = ap (λ c. c.refusal) got-transposed;
        partners = λ d. partners C (fit-for-c d);
        costs = λ d. ap (λ c. c.cost) got-transposed ∙ cost-same C (fit-for-c d) ∙ sym (ap (λ c. c.cost) got);
        counts = λ d. ap (λ c. c.tried) got-transposed ∙ tried_same C (fit-for-c d) ∙ sym (ap (λ c. c.tried) got);
      }

pub diagonal-law : DiagonalLaw
diagonal-law =
    record {
      built = wedgelets-build;
      outlined = λ C e. contour-answers C (accepted C e);
      written = λ C e. predict-writes C (accepted C e);
      least = answers-least;
      accepted = refusal-transposed;
      partners = λ C e h. partners C (fit C e h);
      costs = λ C e h. one-cost C (fit C e h);
      for_c = law-for-c;
    }
