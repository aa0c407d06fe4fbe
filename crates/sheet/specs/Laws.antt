-- What is shown of drawing and of composing, as statements.
use Rattle.std.specs.Prelude.{ℕ, ◌+◌, ◌*◌, ◌<◌, List, ◌≡◌, length}
use Rattle.arith.specs.Checks.{given}
use Rattle.record.specs.declared.Record.{Record}
use Rattle.sheet_grid.specs.NeighbourCases.{SameBefore}
use Rattle.choice.specs.Record.{LeastRecord}
use Rattle.choice.specs.Search.{chosen}
use Rattle.sheet.specs.State.{after, area}
use Rattle.sheet.specs.Place.{Material, drawn, place_answer, place_after, placed_in_turn}
use Rattle.sheet.specs.Compose.{missing, Task, compose_case, composed_to, composed_record}
use Rattle.sheet.specs.declared.Sheet.{Sheet}

-- what is shown of drawing a record: a block of n * n samples, which depends only on samples of blocks already placed
pub record Draws (S : Sheet) (M : Material) (r : Record) : Type 0 where
  pub whole : (s : List ℕ) → length (drawn S M s r) ≡ S.n * S.n
  pub before : (s t : List ℕ) → SameBefore S.n S.width (area S) S.placed s t → drawn S M s r ≡ drawn S M t r

-- what is shown of composing: it places the chosen records one by one, and each is the choice for its block
pub record Composes (S : Sheet) (T : Task) (s : List ℕ) : Type 0 where
  -- the samples are those of placing the records in turn
  pub in_turn : (k : ℕ) → composed_to S T s k ≡ placed_in_turn S T.material (composed_record S T s) s k
  -- `place` accepts each of them, and hands the next state back
  pub accepted :
      (k : ℕ) → k < missing S
      → place_answer (after k S) (composed_to S T s k) T.material (composed_record S T s k) ≡ given (after (k + 1) S)
  -- and leaves the next samples
  pub left :
      (k : ℕ) → k < missing S
      → place_after (after k S) (composed_to S T s k) T.material (composed_record S T s k) ≡ composed_to S T s (k + 1)
  -- no record within the reach costs less, and each one before it in the order between equals costs more
  pub least :
      (k : ℕ) → k < missing S
      → let C = compose_case (after k S) T (composed_to S T s k) in LeastRecord C (composed_record S T s k) (chosen C).1
