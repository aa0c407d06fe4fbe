-- `paint` meets its contract: after the loop every sample has its value.
use Rattle.std.proofs.Common.{◌≡◌, ◌<◌, ◌≤◌, ◌+◌, ◌/◌, ◌%◌, ℕ, cond, get_or}
use Prim.Native.Nat.{zero, suc}
use mathlib.Core.List.{[], ◌∷◌}
use mathlib.Core.Path.{refl, sym, ap, ◌∙◌}
use native.Mathlib.Nat.{add-zero, div-one}
use native.Mathlib.Omega.{arith}
use borrow.Author.Rules.{rules}
use borrow.Author.Tests.{le-ltb}
use lib.Dec.{eqb}
use lib.Pow.{shr-shr}
use Rattle.arith.specs.Bits.{test_bit}
use Rattle.arith.proofs.BitLaws.{bit_past}
use Rattle.arith.proofs.ListLaws.{stored, stored-all}
use Rattle.pattern.specs.Words.{pattern_number}
use Rattle.pattern.proofs.WordLaws.{four_bit, four_past}
use Rattle.prediction.proofs.block.paint.Goals.{then-k-eq0+then-k-lt-WORDS, then-k-eq0+else-k-lt-WORDS, else-k-eq0}
use Rattle.prediction.proofs.block.paint.Goals as goal

-- of two values the one that a bit names
picked : (v0 v1 m : ℕ) → m < 2 → get_or (v0 ∷ v1 ∷ []) m 0 ≡ cond (eqb m 1) v1 v0
picked v0 v1 zero h = refl
picked v0 v1 (suc zero) h = refl
picked v0 v1 (suc (suc m)) h = absurd (omega arith)

pub loop-k-preserved : goal.loop-k-preserved
loop-k-preserved c =
    let l = c.loop-k in
    let a = c.args in
    let k = l.k in
    let words = a.p.words in
    let word = c.if-k-eq0.word in
    let marks : (j : ℕ) → k % 64 + j < 64 → test_bit word j ≡ test_bit (pattern_number a.p) (k + j) =
    λ j h. elim c.if-k-eq0.branch [
      | then-k-eq0+then-k-lt-WORDS w ↦
          let place : k / 64 ≡ (k + j) / 64 = omega (arith, w.if-k-eq0.true, h) in
          let bit : j ≡ (k + j) % 64 = omega (arith, w.if-k-eq0.true, h) in
          let inside : (k + j) / 64 < 4 = omega (arith, w.if-k-eq0.true, w.if-k-lt-WORDS.true, h) in
          ap (λ x. test_bit x j) w.word-is
          ∙ (λ i. test_bit (get_or words (place i) 0) (bit i))
          ∙ sym (four_bit words (k + j) (search rules) (search rules) (search rules) inside)
      | then-k-eq0+else-k-lt-WORDS w ↦
          let past : 4 ≤ (k + j) / 64 = omega (arith, w.if-k-eq0.true, w.if-k-lt-WORDS.false, h) in
          ap (λ x. test_bit x j) w.word-is
          ∙ bit_past 0 0 j (omega arith) (omega arith)
          ∙ sym (le-ltb ((k + j) / 64) 4 past)
          ∙ four_past words (k + j) (search rules) (search rules) (search rules) (search rules) past
      | else-k-eq0 w ↦ ap (λ x. test_bit x j) w.word-is ∙ l.invariant.1 j (omega (arith, w.if-k-eq0.false)) h
    ] in
    let first : eqb (word % 2) 1 ≡ test_bit (pattern_number a.p) k =
    ap (λ x. eqb (x % 2) 1) (sym (div-one word)) ∙ marks 0 (omega arith) ∙ ap (test_bit (pattern_number a.p)) (add-zero k) in (
      stored (λ j. cond (test_bit (pattern_number a.p) j) a.v1 a.v0) 0 l.block k _
          (omega (arith, c.loop-k-test.true, l.auto.block))
          (picked a.v0 a.v1 (word % 2) (omega arith) ∙ ap (λ b. cond b a.v1 a.v0) first)
          l.invariant.0,
      λ j o h.
          let next : k + (1 + j) ≡ k + 1 + j = omega arith in
          ap (λ x. eqb (x % 2) 1) (shr-shr word 1 j) ∙ marks (1 + j) (omega arith) ∙ ap (test_bit (pattern_number a.p)) next,
    )

pub returns : goal.returns
returns c =
    let l = c.loop-k in
    stored-all _ 0 l.block _ l.auto.block (λ j h. l.invariant.0 j (omega arith))
