-- `put_samples` meets its contract: after y rows the places of those rows hold the block's samples.
use borrow.Author.Rules.{rules}
use Prim.Native.Nat.{ℕ, ◌+◌, ◌*◌, ◌≤◌, ◌<◌}
use mathlib.Core.List.{List, []}
use mathlib.Core.Path.{◌≡◌, ap, ◌∙◌}
use native.Mathlib.Nat.{mul-le-mul_right}
use native.Mathlib.Omega.{arith}
use lib.ListN.{length, get_or, take}
use lib.Seq.{length-take-le}
use Rattle.std.proofs.lemmas.List.{get_or-take}
use Rattle.arith.proofs.ListLaws.{stored-all}
use Rattle.block.specs.Block.{capacity, samples_of}
use Rattle.block.proofs.BlockLaws.{row-written}
use Rattle.block.proofs.rows.put_samples.Goals.{Start}
use Rattle.block.proofs.rows.put_samples.Goals as goal

-- the block has n rows
rows : (d : goal.Start) → length (take d.args.size.n d.args.b) ≡ d.args.size.n
rows d =
    let b : length d.args.b ≡ capacity = search rules in
    length-take-le d.args.size.n d.args.b (omega (arith, d.args.size.high))

pub loop-y-preserved : goal.loop-y-preserved
loop-y-preserved c =
    let n = c.args.size.n in
    let b = c.args.b in
    let y = c.loop-y.y in
    let more : y < n = omega (arith, rows (goal.at.loop-y-preserved c).Start, c.loop-y-test.true) in
    row-written n y b c.loop-y.samples c.copy_from_slice.new.self _
    (omega (arith, c.requires, c.loop-y.auto.samples, mul-le-mul_right {m = y + 1} {n = n} n (omega arith))) (search rules)
    (λ x h.
    ap (λ (l : List ℕ). get_or l x 0) c.copy_from_slice.ensures.after
    ∙ get_or-take n (get_or (take n b) y []) x 0 h
    ∙ ap (λ (l : List ℕ). get_or l x 0) (get_or-take n b y [] more))
    c.loop-y.invariant

pub returns : goal.returns
unfolding samples_of
returns c =
    let n = c.args.size.n in
    let all : n ≤ c.loop-y.y = omega (arith, rows (goal.at.returns c).Start, c.loop-y-test.false) in
    stored-all _ 0 _ (n * n) (search rules)
    (λ i h. c.loop-y.invariant i (omega (arith, mul-le-mul_right {m = n} {n = c.loop-y.y} n all)))
