-- Every record within the reach has exactly one partner, which predicts the transposed block at the same cost.
use Prim.Native.Nat.{ℕ, ◌*◌, ◌<◌}
use mathlib.Core.Path.{◌≡◌, refl, sym, ap, ap₂, subst, ◌∙◌}
use mathlib.Core.List.{List}
use mathlib.Core.Logic.{inl, inr, ⊎_elim}
use native.Mathlib.Omega.{arith}
use lib.ListN.{length, get_or}
use Rattle.arith.specs.Distance.{dist}
use Rattle.arith.specs.Square.{transposed_list}
use Rattle.arith.proofs.Sums.{sum-ext}
use Rattle.arith.proofs.SquareLaws.{transposed-across, sum-across}
use Rattle.pattern.specs.Contour.{contour_of}
use Rattle.pattern.specs.Pattern.{transposed}
use Rattle.wedgelet.specs.Wedgelet.{wedgelet_list}
use Rattle.pattern.proofs.ContourLaws.{contour-transposed}
use Rattle.wedgelet.proofs.WedgeletLaws.{list-closed}
use Rattle.wedgelet.proofs.AnswerLaws.{Built, built-at}
use Rattle.prediction.specs.Transposed.{transposed_neighbours, EndsDecide}
use Rattle.prediction.specs.Block.{predicted}
use Rattle.prediction.proofs.TransposedLaws.{prediction-transposed}
use Rattle.choice.specs.Case.{Case}
use Rattle.choice.specs.Record.{PatternIn, Within, pattern_by, pattern_of, prediction_of, difference, cost_of}
use Rattle.record.specs.declared.Record.{Record}
use Rattle.choice.proofs.AcceptLaws.{Accepted}
use Rattle.choice.proofs.LeastLaws.{same-record}
use Rattle.diagonal.specs.Law.{transposed_case, Partner, OnePartner}
use Rattle.diagonal.proofs.TransposedLaws.{texture-length, texture-lent}

-- ---- what a transposed prediction costs

pub difference-transposed : (C : Case) (p : List ℕ) → difference (transposed_case C) (transposed_list C.n p) ≡ difference C p
unfolding difference
difference-transposed C p =
    let n = C.n in
    sum-ext _ _ (n * n) (λ k l. ap₂ dist (transposed-across n p k l) (transposed-across n C.original k l))
    ∙ sum-across (λ k. dist (get_or p k 0) (get_or C.original k 0)) n

-- ---- the partner of an entry, and of the contour

module _ (C : Case) (k : Accepted C) (built : Built C.n C.list C.count) where
  abbrev D : Case
  D = transposed_case C

  -- the entry e' of the transposed case has the transposed pattern of the entry e, and no other has
  record OneEntry (kind entry : ℕ) : Type 0 where
    entry' : ℕ
    inside : PatternIn D kind entry'
    turned : pattern_by D kind entry' ≡ transposed C.n (pattern_by C kind entry)
    only : (e : ℕ) → PatternIn D kind e → pattern_by D kind e ≡ transposed C.n (pattern_by C kind entry) → e ≡ entry'

  wedgelet-partner : (entry : ℕ) → entry < C.count → OneEntry 0 entry
  wedgelet-partner entry h =
      let n = C.n in
      let at : (i : ℕ) → i < C.count → get_or C.list i 0 ≡ get_or (wedgelet_list n) i 0 = built-at built in
      let o = list-closed n entry (omega (arith, built.counted)) in
      let in_list : o.index < C.count = omega (arith, built.counted, o.inside) in
      record {
        entry' = o.index;
        inside = inl (refl, in_list);
        turned = at o.index in_list ∙ o.there ∙ ap (transposed n) (sym (at entry h));
        only =
            λ e. ⊎_elim
            (λ w q. o.only e (omega (arith, built.counted, w.1)) (sym (at e w.1) ∙ q ∙ ap (transposed n) (at entry h)))
            (λ w q. absurd (omega (arith, w.0)));
      }

  contour-partner : (entry : ℕ) → 0 < length C.texture → OneEntry 1 entry
  contour-partner entry h =
      record {
        entry' = 0;
        inside = inr (refl, refl, omega (arith, texture-length C.n C.texture k.lengths.optional));
        turned = ap (contour_of C.n) (texture-lent C.n C.texture h) ∙ contour-transposed C.n C.texture;
        only = λ e. ⊎_elim (λ w q. absurd (omega (arith, w.0))) (λ w q. w.1);
      }

  one_entry : (kind entry : ℕ) → PatternIn C kind entry → OneEntry kind entry
  one_entry kind entry =
      ⊎_elim
      (λ w. subst (λ (x : ℕ). OneEntry x entry) (sym w.0) (wedgelet-partner entry w.1))
      (λ w. subst (λ (x : ℕ). OneEntry x entry) (sym w.0) (contour-partner entry w.2))

  -- ---- the partner of a record

  module _ (ends : EndsDecide C.n C.neighbours) where
    -- a partner predicts the transposed block
    pub partner-predicts : (r s : Record) → Partner C r s → prediction_of D s ≡ transposed_list C.n (prediction_of C r)
    partner-predicts r s p =
        let n = C.n in
        let w = pattern_of C r in
        (λ i. predicted n (p.transposed_pattern i) (transposed_neighbours n C.neighbours) C.table (p.same_off0 i) (p.same_off1 i))
        ∙ prediction-transposed n w C.neighbours k.lengths.bordered ends C.table r.off0 r.off1

    -- at the same cost
    pub partner-costs : (r s : Record) → Partner C r s → cost_of D s ≡ cost_of C r
    partner-costs r s p = ap (difference D) (partner-predicts r s p) ∙ difference-transposed C (prediction_of C r)

    pub one-partner : (r : Record) → Within C r → OnePartner C r
    one-partner r h =
        let o = one_entry r.kind r.entry h.pattern_in in
        let s : Record = record { kind = r.kind; entry = o.entry'; off0 = r.off0; off1 = r.off1 } in
        let p : Partner C r s =
        record {
          within = record { pattern_in = o.inside; off0_in = h.off0_in; off1_in = h.off1_in };
          same_kind = refl;
          same_off0 = refl;
          same_off1 = refl;
          transposed_pattern = o.turned;
        } in
        record {
          partner = s;
          is_partner = p;
          only = λ x q. same-record x.kind x.entry x.off0 x.off1 q.same_kind
              (o.only x.entry
              (subst (λ (j : ℕ). PatternIn D j x.entry) q.same_kind q.within.pattern_in)
              (subst (λ (j : ℕ). pattern_by D j x.entry ≡ transposed C.n (pattern_of C r)) q.same_kind q.transposed_pattern))
              q.same_off0 q.same_off1;
          alike = record { same_prediction = partner-predicts r s p; same_cost = partner-costs r s p };
        }
