-- `word_sum` meets its contract: after k bytes the sum is theirs.
use native.Mathlib.Omega.{arith}
use Prim.Native.Nat.{ℕ, ◌+◌, ◌*◌, ◌<◌}
use mathlib.Core.List.{List, []}
use mathlib.Core.Path.{◌∙◌, ap}
use lib.ListN.{get_or}
use borrow.Author.Rules.{rules}
use Rattle.choice.proofs.SumLaws.{bytes-none, bytes-more, byte_is}
use Rattle.choice.proofs.sums.word_sum.Goals as goal

pub loop-k-init : goal.loop-k-init
loop-k-init c = let a = c.args in (omega arith, bytes-none a.sums.now a.i a.w, omega arith)

pub loop-k-preserved : goal.loop-k-preserved
loop-k-preserved c =
    let l = c.loop-k in
    let a = c.args in
    let byte = c.from.ensures ∙ ap (λ (b : List ℕ). get_or b l.k 0) c.to_le_bytes.ensures ∙ byte_is a.w l.k (omega arith) in
    let small : get_or (get_or a.sums.now (8 * a.i + l.k) []) c.from.result 0 < 65536 = search rules in (
      omega arith,
      bytes-more a.sums.now a.i a.w l.k l.invariant.1 (c.from-sum.ensures ∙ ap (λ (b : ℕ). get_or (get_or a.sums.now (8 * a.i + l.k) []) b 0) byte),
      omega (arith, c.from-sum.ensures),
    )
