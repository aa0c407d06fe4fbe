-- What a call is lent, and what it answers.
use Rattle.std.specs.Prelude.{ℕ}
use Rattle.pattern.specs.Words.{patterns_of}
use Rattle.sheet.specs.Place.{Material, material_of}
use Rattle.sheet.specs.Compose.{Task, task_of}
use Rattle.sheet.specs.declared.Sheet.{Sheet}
use Rattle.sheet.specs.declared.PlaceInput.{PlaceInput}
use Rattle.sheet.specs.declared.ComposeInput.{ComposeInput}
use Rattle.sheet.specs.declared.Composed.{Composed}

-- what records of blocks of size n are placed with: the list's patterns, of its words
abbrev pub material_in : ℕ → PlaceInput → Material
material_in n I = material_of (patterns_of n I.list.words.now) I.list.count I.table.now I.texture.now

-- what blocks of size n are composed from
abbrev pub task_in : ℕ → ComposeInput → Task
task_in n I = task_of (material_in n I.place) I.original.now I.reach

-- the state and the number of records that the code answers
abbrev pub composed_values : Composed → Sheet × ℕ
composed_values c = (c.sheet, c.written)
