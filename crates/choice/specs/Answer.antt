-- What `choose` answers: the refusal; or the record, its cost, and how many offsets were tried.
use Rattle.std.specs.Prelude.{ℕ}
use Rattle.arith.specs.Checks.{Answer, refused, given, answer}
use Rattle.choice.specs.Case.{Case}
use Rattle.choice.specs.Refusal.{choose_refusal}
use Rattle.choice.specs.Record.{LeastRecord}
use Rattle.record.specs.declared.Record.{Record}
use Rattle.choice.specs.Search.{chosen, tried, TriedInAll}
use Rattle.choice.specs.declared.Choice.{Choice}

-- the chosen record, its cost, and how many offsets were tried
abbrev pub chosen_all : Case → Record × ℕ × ℕ
chosen_all C = ((chosen C).0, (chosen C).1, tried C)

-- that, or the refusal
unfoldable pub choose_answer : Case → Answer (Record × ℕ × ℕ)
choose_answer C = answer (choose_refusal C) (chosen_all C)

-- the record, its cost and the number of offsets that the code answers
abbrev pub chosen_values : Choice → Record × ℕ × ℕ
chosen_values c = (c.record, c.cost, c.tried)

-- a record that is answered is the one of least cost, first in the order between equals, the cost is its own, and so many offsets were
-- tried in all
abbrev pub LeastGiven : Case → Answer (Record × ℕ × ℕ) → Type 0
LeastGiven C (refused number) = Unit {0}
LeastGiven C (given (r, cost, count)) = LeastRecord C r cost × TriedInAll C count
