-- `best_pattern` meets its contract: before turn p the first of least cost among the patterns 0 .. p - 1 is kept.
use Prim.Native.Nat.{◌+◌, ◌≤◌}
use mathlib.Core.Path.{◌≡◌}
use Rattle.choice.specs.Case.{case_in}
use Rattle.choice.specs.Search.{last_pattern, tried_to}
use Rattle.choice.proofs.SearchLaws.{KeptSides}
use Rattle.choice.proofs.search.best_pattern.Given as goal

abbrev pub invariant-loop-number : goal.invariant-loop-number
invariant-loop-number l =
    let C = case_in l.input in
    (l.number ≤ last_pattern C + 1)
    × KeptSides C l.number l.best.number l.best.trial0 l.best.trial1 l.best.cost
    × (l.best.tried ≡ tried_to C l.number)
