-- The structs that C gets: a refusal has its number, and 0 in the other fields.
use Rattle.std.specs.Prelude.{ℕ, ◌≡◌, List, [], ◌∷◌, pos}
use Rattle.arith.specs.Checks.{Answer, refused, given}
use Rattle.pattern.specs.Words.{in_four}
use Rattle.choice.specs.Case.{Case}
use Rattle.choice.specs.Record.{LeastRecord}
use Rattle.choice.specs.Search.{TriedInAll}
use Rattle.record.specs.declared.Record.{Record}
use Rattle.depth_bench.specs.declared.Prediction.{Prediction}
use Rattle.depth_bench.specs.declared.Choice.{Choice}
use Rattle.depth_bench.specs.declared.Pattern.{Pattern}

abbrev pub prediction_struct : Answer ℕ → Prediction
prediction_struct (refused number) = record { refusal = number; marks = 0 }
prediction_struct (given count) = record { refusal = 0; marks = count }

abbrev pub refused_choice : ℕ → Choice
refused_choice number = record { refusal = number; kind = 0; entry = 0; off0 = pos 0; off1 = pos 0; cost = 0; tried = 0 }

abbrev pub choice_struct : Answer (Record × ℕ × ℕ) → Choice
choice_struct (refused number) = refused_choice number
choice_struct (given (r, cost, count)) =
    record { refusal = 0; kind = r.kind; entry = r.entry; off0 = r.off0; off1 = r.off1; cost = cost; tried = count }

-- the record in a choice
abbrev pub chosen_record : Choice → Record
chosen_record r = record { kind = r.kind; entry = r.entry; off0 = r.off0; off1 = r.off1 }

-- a choice that is not refused is the record of least cost, first in the order between equals, the cost is its own, and so many offsets
-- were tried in all
abbrev pub LeastChoice : Case → Choice → Type 0
LeastChoice C r = r.refusal ≡ 0 → LeastRecord C (chosen_record r) r.cost × TriedInAll C r.tried

-- a pattern that is not refused, by its words
abbrev pub words_struct : List ℕ → Pattern
words_struct words = record { refusal = 0; word = words }

-- a pattern in four words, lowest bit first: one of at most 64 samples has 0 in words 1 to 3
abbrev pub pattern_struct : Answer ℕ → Pattern
pattern_struct (refused number) = record { refusal = number; word = 0 ∷ 0 ∷ 0 ∷ 0 ∷ [] }
pattern_struct (given w) = words_struct (in_four w)
