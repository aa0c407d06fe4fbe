-- What `contour` and `predict` answer for a record within the reach of an accepted case.
use Prim.Native.Nat.{ℕ, ◌*◌}
use mathlib.Core.Path.{◌≡◌, sym, ap, ◌∙◌}
use mathlib.Core.Bool.{true}
use mathlib.Core.List.{List}
use mathlib.Core.Logic.{⊎_elim}
use native.Mathlib.Decide.{dec_lt}
use native.Mathlib.Omega.{arith}
use lib.ListN.{length}
use borrow.Author.Tests.{eq-eqb}
use Rattle.arith.specs.Checks.{given}
use Rattle.arith.proofs.CheckLaws.{answer-given, lent-given}
use Rattle.pattern.specs.Size.{word_ok}
use Rattle.pattern.specs.Answer.{samples_refusal, contour_answer}
use Rattle.pattern.specs.Contour.{contour_of}
use Rattle.depth_table.specs.Table.{table_ok}
use Rattle.prediction.specs.Answer.{lengths_ok, predict_refusal_by, predict_block_by, predict_block}
use Rattle.choice.specs.Case.{Case}
use Rattle.choice.specs.Record.{Within, pattern_by, pattern_of, prediction_of}
use Rattle.record.specs.declared.Record.{Record}
use Rattle.choice.proofs.AcceptLaws.{Accepted, accept}
use Rattle.choice.proofs.NumberLaws.{number_of, number-pattern}
use Rattle.choice.proofs.ReachLaws.{reach-enough}
use Rattle.choice.proofs.SearchLaws.{texture-judged, pattern-inside}

module _ (C : Case) (k : Accepted C) (r : Record) (h : Within C r) where
  -- kind 1 stands for the contour of the texture
  pub contour-answers : r.kind ≡ 1 → contour_answer C.n C.texture ≡ given (pattern_of C r)
  unfolding contour_answer
  contour-answers e =
      let passes : samples_refusal C.n (length C.texture) ≡ 0 =
      ⊎_elim
      (λ z. ⊎_elim (λ w. absurd (omega (arith, w.0))) (λ w. absurd (omega (arith, w.2))) h.pattern_in)
      (λ z. z)
      (texture-judged C.n (length C.texture) k.size k.lengths.optional) in
      sym (answer-given (samples_refusal C.n (length C.texture)) (contour_of C.n C.texture) passes)
      ∙ ap (λ (j : ℕ). given (pattern_by C j r.entry)) (sym e)

  inside : word_ok C.n (pattern_of C r) ≡ true
  inside =
      let p = number_of C r.kind r.entry in
      ap (word_ok C.n) (sym (number-pattern C r.kind r.entry h.pattern_in)) ∙ pattern-inside C k p (dec_lt p C.count)

  abbrev refusal : ℕ → ℕ
  refusal samples = predict_refusal_by (table_ok C.table) C.n (pattern_of C r) (length C.neighbours) (length C.table) r.off0 r.off1 samples

  predict-passes : (samples : ℕ) → samples ≡ C.n * C.n → refusal samples ≡ 0
  unfolding predict_refusal_by lengths_ok
  predict-passes samples e =
      let o = (reach-enough C).passes (accept C k) r h in
      rw (
        k.size,
        eq-eqb (length C.neighbours) (4 * C.n) k.lengths.bordered,
        eq-eqb samples (C.n * C.n) e,
        k.sound,
        inside,
        o.0,
        o.1.0,
      )

  pub predict-writes :
      (block : List ℕ) → length block ≡ C.n * C.n
      → predict_block C.n (pattern_of C r) C.neighbours C.table r.off0 r.off1 block ≡ prediction_of C r
  unfolding predict_block_by
  predict-writes block e = sym (lent-given (refusal (length block)) (prediction_of C r) block (predict-passes (length block) e))
