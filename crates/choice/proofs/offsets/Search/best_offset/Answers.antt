-- `best_offset` meets its contract: upward, downward, or neither.
use native.Mathlib.Omega.{arith}
use Prim.Native.Nat.{◌+◌, ◌-◌, ◌≤◌, ◌<◌, min}
use mathlib.Core.Logic.{◌⊎◌, inl, inr}
use lib.ListN.{length}
use Rattle.pattern.specs.Words.{pattern_number}
use Rattle.choice.specs.Turn.{twice}
use Rattle.choice.proofs.FindLaws.{up-farther, up-tried, up-found, down-farther, down-tried, down-found, here_found}
use Rattle.choice.proofs.offsets.Search.best_offset.Goals.{After-turn-low, After-turn-low-then-size-twice}
use Rattle.choice.proofs.offsets.Search.best_offset.Goals.{else-at-last-via-then-at-last+else-twice-size, else-at-last-via-else-at-last}
use Rattle.choice.proofs.offsets.Search.best_offset.Goals.{else-end-at-via-then-end-at+else-size-twice, else-end-at-via-else-end-at}
use Rattle.choice.proofs.offsets.Search.best_offset.Goals as goal

-- what the tests say upward and downward
falls : (c : goal.After-turn-low) →
    let s = c.args.self.now in
    twice s.part.layers.below.now (pattern_number s.part.marks) s.table.now 1 s.at < s.part.size
falls c = omega (arith, c.if-twice-size.true, c.twice.ensures.0)

rises : (c : goal.After-turn-low-then-size-twice) →
    let s = c.args.self.now in
    s.part.size < twice s.part.layers.below.now (pattern_number s.part.marks) s.table.now 0 s.at
rises c = omega (arith, c.if-size-twice.true, c.twice-then-end-at.ensures.0)

pub better_level-requires : goal.better_level-requires
better_level-requires c =
    let s = c.args.self.now in
    let t = c.turn-low.ensures in
    let next : c.turn-low.result + 1 < length s.table.now = omega (arith, t.high, s.findable.inside, c.min-last.ensures) in (
      omega (arith, next),
      next,
      up-farther _ _ _ _ _ _ s.part.parted _ _ _ s.findable (falls (goal.at.better_level-requires c).After-turn-low) t next,
    )

pub returns-then-twice-size : goal.returns-then-twice-size
returns-then-twice-size c =
    let s = c.args.self.now in
    let q = s.part.parted in
    let f = s.findable in
    let d = falls (goal.at.returns-then-twice-size c).After-turn-low in
    up-found _ _ _ _ _ _ q _ _ _ f c.min-last.ensures d (up-tried _ _ _ _ _ _ q _ _ _ f d c.turn-low.ensures c.better_level.ensures)

pub better_level-requires-then-size-twice : goal.better_level-requires-then-size-twice
better_level-requires-then-size-twice c =
    let s = c.args.self.now in
    let t = c.turn-low-then-size-twice.ensures in
    let inside = s.findable.inside in (
      omega (arith, t.high, inside),
      omega (arith, t.high, inside),
      down-farther _ _ _ _ _ _ s.part.parted _ _ _ s.findable
          (rises (goal.at.better_level-requires-then-size-twice c).After-turn-low-then-size-twice) t,
    )

pub returns-then-size-twice : goal.returns-then-size-twice
returns-then-size-twice c =
    let s = c.args.self.now in
    let q = s.part.parted in
    let f = s.findable in
    let d = rises (goal.at.returns-then-size-twice c).After-turn-low-then-size-twice in
    down-found _ _ _ _ _ _ q _ _ _ f c.saturating_sub-end.ensures d
    (down-tried _ _ _ _ _ _ q _ _ _ f d c.turn-low-then-size-twice.ensures c.better_level-then-size-twice.ensures)

pub returns : goal.returns
returns c =
    let s = c.args.self.now in
    let p = s.part in
    let w = pattern_number p.marks in
    let below = p.layers.below.now in
    let table = s.table.now in
    let i = s.at in
    let up : (min (i + s.reach) (length table - 1) ≤ i) ⊎ (p.size ≤ twice below w table 1 i) =
    elim c.else-at-last.branch [
      | else-at-last-via-then-at-last+else-twice-size x ↦ inr (omega (arith, x.if-twice-size.false, x.twice.ensures.0))
      | else-at-last-via-else-at-last x ↦ inl (omega (arith, x.if-at-last.false, c.min-last.ensures))
    ]
    in
    let down : (i ≤ i - s.reach) ⊎ (twice below w table 0 i ≤ p.size) =
    elim c.else-end-at.branch [
      | else-end-at-via-then-end-at+else-size-twice x ↦ inr (omega (arith, x.if-size-twice.false, x.twice-then-end-at.ensures.0))
      | else-end-at-via-else-end-at x ↦ inl (omega (arith, x.if-end-at.false, c.saturating_sub-end.ensures))
    ]
    in
    let l = c.level.ensures in
    here_found _ _ _ _ _ _ p.parted table i s.reach s.findable up down l.0 l.1
