-- Records placed in turn.
use Prim.Native.Nat.{ℕ, zero, suc, ◌+◌, ◌≤◌, ◌<◌}
use mathlib.Core.List.{List}
use mathlib.Core.Path.{◌≡◌, refl, sym, ap, ◌∙◌}
use native.Mathlib.Numerals.{add-one}
use native.Mathlib.Omega.{arith}
use lib.ListN.{length}
use lib.Seq.{ext_get_or}
use Rattle.arith.specs.Checks.{given}
use Rattle.depth_table.specs.Table.{table_ok}
use Rattle.record.specs.declared.Record.{Record}
use Rattle.sheet.specs.State.{after, area, Open}
use Rattle.sheet.specs.Place.{Material, place_refusal, place_answer, place_after, placed_in_turn}
use Rattle.sheet.specs.Compose.{missing}
use Rattle.sheet_grid.specs.NeighbourCases.{SameBefore}
use Rattle.sheet.specs.declared.Sheet.{Sheet}
use Rattle.sheet.proofs.PlaceLaws.{length-placed, place-accepted}
use Rattle.sheet.proofs.OtherLaws.{placed_same, holding-inside}
use Rattle.sheet.proofs.TurnLaws.{after_more, open_after}

module _ (S : Sheet) (M : Material) (records : ℕ → Record) where
  pub length-in-turn : (s : List ℕ) (k : ℕ) → length (placed_in_turn S M records s k) ≡ length s
  unfolding placed_in_turn
  length-in-turn s zero = refl
  length-in-turn s (suc k) = length-placed (after k S) M (placed_in_turn S M records s k) (records k) ∙ length-in-turn s k

  -- `place` that accepts the next record takes the samples one record further, and answers the next state
  pub placed-in-turn :
      (s : List ℕ) (k : ℕ) → place_refusal (after k S) (length s) M (records k) ≡ 0
      → (place_answer (after k S) (placed_in_turn S M records s k) M (records k) ≡ given (after (k + 1) S))
      × (place_after (after k S) (placed_in_turn S M records s k) M (records k) ≡ placed_in_turn S M records s (k + 1))
  unfolding placed_in_turn
  placed-in-turn s k e =
      let p = place-accepted (table_ok M.table) (after k S) (placed_in_turn S M records s k) M (records k) (rw (length-in-turn s k) e) in
      (p.0 ∙ ap given (after_more S k {u = after k S} refl refl), rw add-one p.1)

  -- samples that are the same in every placed block stay so
  pub in-turn-same :
      (s t : List ℕ) → Open S → length s ≡ area S → length t ≡ area S → SameBefore S.n S.width (area S) S.placed s t
      → (k : ℕ) → k ≤ missing S
      → SameBefore S.n S.width (area S) (S.placed + k) (placed_in_turn S M records s k) (placed_in_turn S M records t k)
  unfolding placed_in_turn
  in-turn-same s t o ls lt same zero h = λ j l b. same j l (omega arith)
  in-turn-same s t o ls lt same (suc k) h =
      let u = placed_same (after k S) (open_after S k {u = after k S} o (omega arith) refl) M (placed_in_turn S M records s k) (placed_in_turn S M records t k) (records k)
      (length-in-turn s k ∙ ls) (length-in-turn t k ∙ lt) (in-turn-same s t o ls lt same k (omega arith)) in
      λ j l b. u j l (omega arith)

  -- a whole sheet does not depend on what stood in the blocks that were missing
  pub whole_same :
      (s t : List ℕ) → Open S → length s ≡ area S → length t ≡ area S → SameBefore S.n S.width (area S) S.placed s t
      → placed_in_turn S M records s (missing S) ≡ placed_in_turn S M records t (missing S)
  whole_same s t o ls lt same =
      ext_get_or 0 (placed_in_turn S M records s (missing S)) (placed_in_turn S M records t (missing S))
      (length-in-turn s (missing S) ∙ ls ∙ sym (length-in-turn t (missing S) ∙ lt))
      (λ j l.
      let i : j < area S = omega (arith, length-in-turn s (missing S)) in
      in-turn-same s t o ls lt same (missing S) (omega arith) j i (omega (arith, holding-inside S o j i, o.missing)))
