-- `turn` meets its contract: low falls or is the first, high does not fall or is the last.
use Prim.Native.Nat.{◌-◌, ◌≤◌, ◌<◌}
use mathlib.Core.Path.{◌≡◌}
use mathlib.Core.Logic.{◌⊎◌}
use Rattle.pattern.specs.Words.{pattern_number}
use Rattle.choice.specs.Turn.{twice}
use Rattle.choice.proofs.offsets.Search.turn.Given as goal

abbrev pub invariant-loop-low : goal.invariant-loop-low
invariant-loop-low l =
    let p = l.self.part in
    let T = l.self.table in
    (l.from ≤ l.low)
    × (l.low < l.high)
    × (l.high ≤ l.to)
    × ((l.low ≡ l.from) ⊎ (twice p.layers.below.now (pattern_number p.marks) T.now l.plus l.low < l.limit))
    × ((l.high ≡ l.to) ⊎ (l.limit ≤ twice p.layers.below.now (pattern_number p.marks) T.now l.plus l.high))

abbrev pub decreases-loop-low : goal.decreases-loop-low
decreases-loop-low l = l.high - l.low
