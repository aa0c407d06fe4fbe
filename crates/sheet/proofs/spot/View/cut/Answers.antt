-- `cut` meets its contract: after r rows the first r are filled.
use Prim.Native.Nat.{ℕ, ◌+◌, ◌<◌}
use mathlib.Core.List.{List, ◌++◌}
use mathlib.Core.Path.{ap, ◌∙◌}
use native.Mathlib.Omega.{arith}
use lib.ListN.{length, get_or, drop, replicate}
use Rattle.arith.specs.Square.{place}
use Rattle.arith.proofs.ListLaws.{length-upto, upto-ext, fill-by, fill_end}
use Rattle.block.specs.Block.{capacity, block_by}
use Rattle.sheet.proofs.RowLaws.{front-none, front-all, cut_row, spot-high}
use Rattle.sheet.proofs.spot.View.cut.Goals as goal

pub loop-r-init : goal.loop-r-init
loop-r-init c = (omega arith, front-none c.args.self.spot.n capacity _ (replicate capacity 0) (spot-high c.args.self.spot.sized))

pub loop-r-preserved : goal.loop-r-preserved
loop-r-preserved c =
    let S = c.args.self.spot in
    let r = c.loop-r.r in
    let s = c.args.self.samples.now in
    let i = c.loop-r.invariant in
    let full = ap length i.1 ∙ length-upto S.n _ _ (replicate capacity 0) in
    let more : r < S.n = omega (arith, full, c.loop-r.auto.row-items, c.loop-r-test.true) in
    let row =
    upto-ext capacity S.n
    (λ k. get_or s (place S.width S.x (S.y + r) + k) 0) (λ k. get_or s (place S.width (S.x + k) (S.y + r)) 0) 0
    (λ k l. ap (λ (p : ℕ). get_or s p 0) (omega arith))
    in
    (omega arith, fill-by S.n _ (cut_row S.n S.width S.x S.y s) (replicate capacity 0) i.1 (c.row.ensures ∙ row) more)

pub returns : goal.returns
unfolding block_by
returns c =
    let S = c.args.self.spot in
    let i = c.loop-r.invariant in
    let full = ap length i.1 ∙ length-upto S.n _ _ (replicate capacity 0) in
    ap (λ (l : List (List ℕ)). l ++ drop S.n (replicate capacity (replicate capacity 0)))
    (fill_end S.n _ S.n _ (replicate capacity 0) i.1 i.0 (omega (arith, full, c.loop-r.auto.row-items, c.loop-r-test.false)))
    ∙ front-all S.n capacity _ (replicate capacity 0) (spot-high S.sized)
