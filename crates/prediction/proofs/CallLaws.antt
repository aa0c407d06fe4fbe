-- What holds where no check of `predict` fails.
use Prim.Native.Nat.{ℕ, ◌*◌, ◌^◌, ◌≤◌, ◌<◌}
use mathlib.Core.Path.{◌≡◌, sym, ap, ◌∙◌}
use mathlib.Core.Bool.{Bool, true}
use mathlib.Core.List.{List}
use native.Mathlib.Omega.{arith}
use lib.Count.{ones}
use lib.Dec.{eqb}
use lib.IntN.{ℤ}
use lib.ListN.{length}
use borrow.Author.Tests.{eqb-true, ltb-true}
use Rattle.arith.specs.Bits.{bit, test_bit}
use Rattle.arith.specs.Checks.{Answer, refused, given, answer}
use Rattle.arith.specs.Sum.{sum_to}
use Rattle.arith.proofs.Bools.{both_of}
use Rattle.arith.proofs.CheckLaws.{holds, refused-by, refused-means, answer-given, given-means, lent-refused, lent-given}
use Rattle.depth_table.specs.Table.{table_ok, some_value}
use Rattle.pattern.specs.Size.{greatest_size, size_ok}
use Rattle.pattern.proofs.PatternLaws.{marks-counted}
use Rattle.pattern.proofs.SizeLaws.{size-bounds}
use Rattle.depth_table.specs.Offset.{offset_ok, offsets_ok, offsets_usable}
use Rattle.prediction.specs.Block.{predicted}
use Rattle.prediction.specs.Answer.{lengths_ok, predict_checks, predict_refusal_by, predict_answer_by, predict_block_by, predict_answer, Predictable}

module _ (asked : Bool) (n : ℕ) (s t : List ℕ) (off0 off1 : ℤ) (held : List ℕ) {w v : ℕ} (e : w ≡ v) where
  -- the number that the checks say of the pattern w, or of an equal one
  abbrev number_by : ℕ → ℕ
  number_by x = predict_refusal_by asked n x (length s) (length t) off0 off1 (length held)

  -- where a check fails, its number is answered and the lent block stays as it was
  module _ {k : ℕ} (h : ◌≡◌ {A = Answer (Unit {0})} (refused k) (answer (number_by w) tt)) where
    failing : (k ≡ number_by v) × (number_by v ≡ 0 → ⊥)
    failing = rw e at (refused-means (number_by w) k tt (sym h))

    pub answer-refusing : refused k ≡ predict_answer_by asked n v s t off0 off1 (length held)
    unfolding predict_answer_by
    answer-refusing = refused-by (ones v) failing.0 (λ z. failing.1 (sym failing.0 ∙ z))

    pub block-refusing : held ≡ predict_block_by asked n v s t off0 off1 held
    unfolding predict_block_by
    block-refusing = lent-refused (number_by v) _ held failing.1

  -- and where none does, the marks are answered and the block is the predicted one
  module _ (h : ◌≡◌ {A = Answer (Unit {0})} (given tt) (answer (number_by w) tt)) where
    passing : number_by v ≡ 0
    passing = rw e at (given-means (number_by w) tt tt (sym h)).0

    pub answer-giving : {marks : ℕ} → marks ≡ ones w → given marks ≡ predict_answer_by asked n v s t off0 off1 (length held)
    unfolding predict_answer_by
    answer-giving p = ap given (p ∙ ap ones e) ∙ answer-given (number_by v) (ones v) passing

    pub block-giving : {new : List ℕ} → new ≡ predicted n w s t off0 off1 → new ≡ predict_block_by asked n v s t off0 off1 held
    unfolding predict_block_by
    block-giving p = p ∙ ap (λ (x : ℕ). predicted n x s t off0 off1) e ∙ lent-given (number_by v) _ held passing

-- nothing is refused
pub record PredictAccepted (asked : Bool) (n w neighbours values : ℕ) (off0 off1 : ℤ) (samples : ℕ) : Type 0 where
  pub size : size_ok n ≡ true
  pub low : 4 ≤ n
  pub high : n ≤ greatest_size
  pub long : neighbours ≡ 4 * n
  pub full : samples ≡ n * n
  pub as_asked : asked ≡ true
  pub inside : w < 2 ^ (n * n)
  pub allowed : offsets_ok off0 off1 ≡ true
  pub usable : offsets_usable values off0 off1 ≡ true

pub predict-accepted :
    (asked : Bool) (n w neighbours values : ℕ) (off0 off1 : ℤ) (samples : ℕ)
    → predict_refusal_by asked n w neighbours values off0 off1 samples ≡ 0 → PredictAccepted asked n w neighbours values off0 off1 samples
unfolding predict_refusal_by lengths_ok
predict-accepted asked n w neighbours values off0 off1 samples h =
    let c = (holds (predict_checks asked n w neighbours values off0 off1 samples) 0 h).0 in
    let b = size-bounds n c.0 in
    let l = both_of (eqb neighbours (4 * n)) (eqb samples (n * n)) c.1.0 in
    record {
      size = c.0;
      low = b.0;
      high = b.1;
      long = eqb-true _ _ l.0;
      full = eqb-true _ _ l.1;
      as_asked = c.1.1.0;
      inside = ltb-true w (2 ^ (n * n)) c.1.1.1.0;
      allowed = c.1.1.1.1.0;
      usable = c.1.1.1.1.1.0;
    }

-- then the values of the block can be worked out
pub predictable :
    {asked : Bool} {n w : ℕ} (s : List ℕ) {t : List ℕ} {off0 off1 : ℤ} {samples : ℕ} → (asked ≡ true → some_value t ≡ true)
    → PredictAccepted asked n w (length s) (length t) off0 off1 samples → Predictable n s t off0 off1
predictable s {off0 = off0} {off1 = off1} v p =
    let o = both_of (offset_ok off0) (offset_ok off1) p.allowed in
    record {
      some = omega (arith, p.low);
      high = p.high;
      long = p.long;
      valued = v p.as_asked;
      first = o.0;
      second = o.1;
    }

-- the number of marks in the answer is the number of marked samples
pub marks-answered :
    (n w : ℕ) (s t : List ℕ) (off0 off1 : ℤ) (samples count : ℕ) → predict_answer n w s t off0 off1 samples ≡ given count
    → count ≡ sum_to (λ k. bit (test_bit w k)) (n * n)
unfolding predict_answer_by
marks-answered n w s t off0 off1 samples count e =
    let m = given-means _ (ones w) count e in
    sym m.1 ∙ marks-counted n w (predict-accepted (table_ok t) n w (length s) (length t) off0 off1 samples m.0).inside
