-- `weigh` meets its contract: what it costs, and how many offsets are tried, is the sum over its partitions.
use Prim.Native.Nat.{◌*◌}
use mathlib.Core.Bool.{true, false}
use mathlib.Core.Path.{◌≡◌, refl}
use native.Mathlib.Omega.{arith}
use Rattle.pattern.specs.Words.{pattern_number}
use Rattle.choice.specs.Case.{reach_in_use, case_in}
use Rattle.choice.specs.Cases.{side_case}
use Rattle.choice.specs.Picked.{block_case, Weighable, Prepared}
use Rattle.choice.specs.Search.{trial_cost}
use Rattle.choice.specs.Trial.{TrialOf}
use Rattle.choice.proofs.AcceptLaws.{accepted}
use Rattle.choice.proofs.CaseLaws.{other-case}
use Rattle.choice.proofs.WeighLaws.{word_small, trial-weighed, reach_few, reach-used}
use Rattle.choice.proofs.TrialLaws.{trial-low}
use Rattle.choice.proofs.TriedLaws.{tried_here}
use Rattle.choice.proofs.SearchLaws.{weighable, sides-at, both-sides, both-tried}
use Rattle.choice.proofs.search.Block.weigh.Goals.{After-best_offset-marked, After-best_offset-unmarked, After-pattern_at-marks, After-side_case-k}
use Rattle.choice.proofs.search.Block.weigh.Goals as goal

-- what is worked out once, and that the pattern can be weighed
prepared : (c : goal.After-pattern_at-marks) →
    let b = c.args.self.now in
    let I = b.input in
    Prepared I.n I.border.now b.layers.samples.now I.table.now b.layers.below.now b.layers.sums.now b.indices
prepared c = let b = c.args.self.now in record { layers = b.layers.layered; index_at = b.index_at }

weighs : (c : goal.After-pattern_at-marks) →
    let b = c.args.self.now in
    let I = b.input in
    Weighable I.n (pattern_number c.pattern_at-marks.result) I.border.now b.layers.samples.now I.table.now b.reach
weighs c =
    let b = c.args.self.now in
    let C = case_in b.input in
    rw b.sampled (weighable C (accepted C b.passes) c.args.number c.pattern_at-marks.ensures b.used)

-- the case of the unmarked samples
side : (c : goal.After-side_case-k) → c.side_case-k.result ≡ side_case c.args.self.now.input.n (pattern_number c.pattern_at-marks.result) false
side c = rw c.args.self.now.sized at c.side_case-k.ensures.0

pub parts-requires : goal.parts-requires
parts-requires c =
    let g = (goal.at.parts-requires c).After-pattern_at-marks in
    word_small _ _ _ _ _ _ (weighs g) _ _ _ (prepared g) c.args.self.now.layers.bytes

pub search-requires : goal.search-requires
search-requires c = c.side_case-k.ensures.1

-- the best offset of each partition
unmarked :
    (c : goal.After-best_offset-unmarked)
    → let b = c.args.self.now in
    let t = c.best_offset-unmarked.result in
    let C = block_case b.input.n b.input.border.now b.layers.samples.now b.input.table.now b.reach in
    TrialOf (trial_cost C (pattern_number c.pattern_at-marks.result) false) (2 * reach_in_use C) t.number t.cost
unmarked c =
    let g = (goal.at.After-best_offset-unmarked c).After-pattern_at-marks in
    let k = side (goal.at.After-best_offset-unmarked c).After-side_case-k in
    let t = rw (c.search.ensures.0, c.search.ensures.1, c.search.ensures.2, c.search.ensures.3, c.parts.ensures.0) at c.best_offset-unmarked.ensures in
    trial-weighed _ _ _ _ _ _ (weighs g) _ _ _ (prepared g) c.args.self.now.layers.bytes false k c.side_case-k.ensures.1 c.parts.ensures.1 t

marked :
    (c : goal.After-best_offset-marked)
    → let b = c.args.self.now in
    let t = c.best_offset-marked.result in
    let C = block_case b.input.n b.input.border.now b.layers.samples.now b.input.table.now b.reach in
    TrialOf (trial_cost C (pattern_number c.pattern_at-marks.result) true) (2 * reach_in_use C) t.number t.cost
marked c =
    let g = (goal.at.After-best_offset-marked c).After-pattern_at-marks in
    let e = c.search-2.ensures in
    let t = rw (e.0, e.1, e.2, e.3, c.parts.ensures.2, c.parts.ensures.3) at c.best_offset-marked.ensures in
    trial-weighed _ _ _ _ _ _ (weighs g) _ _ _ (prepared g) c.args.self.now.layers.bytes true (other-case _ _ (side (goal.at.After-best_offset-marked c).After-side_case-k)) (omega arith) refl t

pub tried-tried0-requires : goal.tried-tried0-requires
tried-tried0-requires c =
    let near = reach_few _ _ _ _ _ _ (weighs (goal.at.tried-tried0-requires c).After-pattern_at-marks) in
    (omega (arith, trial-low c.best_offset-unmarked.ensures, near), near)

pub tried-tried1-requires : goal.tried-tried1-requires
tried-tried1-requires c =
    let near = reach_few _ _ _ _ _ _ (weighs (goal.at.tried-tried1-requires c).After-pattern_at-marks) in
    (omega (arith, trial-low c.best_offset-marked.ensures, near), near)

pub returns : goal.returns
returns c =
    let b = c.args.self.now in
    let C = case_in b.input in
    let g = goal.at.returns c in
    let used = reach-used _ _ _ _ _ _ (weighs g.After-pattern_at-marks) in
    let p = unmarked g.After-best_offset-unmarked in
    let q = marked g.After-best_offset-marked in
    let B = block_case b.input.n b.input.border.now b.layers.samples.now b.input.table.now b.reach in
    let w = pattern_number c.pattern_at-marks.result in
    let e = c.pattern_at-marks.ensures in (
      refl,
      sides-at C c.args.number e b.used (rw b.sampled at (both-sides B w p q)),
      tried_here C c.args.number e b.used (rw b.sampled at (both-tried B w p q used c.tried-tried0.ensures.0 c.tried-tried1.ensures.0)),
    )
