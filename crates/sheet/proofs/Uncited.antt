-- Laws that no proof cites: docs/PORT.md names them.
use Prim.Native.Nat.{ℕ, ◌*◌, ◌<◌}
use mathlib.Core.Bool.{Bool, true, false, cond}
use mathlib.Core.List.{List, [], ◌∷◌, ◌++◌}
use mathlib.Core.Path.{◌≡◌, refl, ap, ◌∙◌}
use native.Mathlib.Omega.{arith}
use borrow.Author.Tests.{ltb-true}
use lib.Dec.{ltb}
use lib.ListN.{length, take}
use Rattle.pattern.specs.Size.{greatest_neighbours}
use Rattle.sheet_grid.specs.Neighbours.{neighbours}
use Rattle.sheet_grid.specs.Counts.{left_count, top_count, counted}
use Rattle.sheet_grid.specs.Samples.{cut, filled}
use Rattle.sheet_grid.proofs.FilledLaws.{take-filled}
use Rattle.sheet_grid.proofs.NeighbourLaws.{length-neighbours}
use Rattle.sheet_grid.proofs.PlacedLaws.{neighbours-counted}
use Rattle.arith.proofs.CheckLaws.{kept}
use Rattle.sheet.specs.Checks.{start_checks, start_refusal_by}
use Rattle.sheet.specs.Next.{Next}
use Rattle.sheet.specs.Place.{next_texture}
use Rattle.sheet.specs.State.{next_x, next_y, open_refusal}
use Rattle.sheet.specs.declared.Sheet.{Sheet}

-- a refusal of the state or the table stays, whatever is checked after it
pub open_kept :
    (S : Sheet) (lengths asked : Bool) (rest : ℕ) → (open_refusal S lengths asked 0 ≡ 0 → ⊥)
    → open_refusal S lengths asked rest ≡ open_refusal S lengths asked 0
unfolding start_refusal_by
open_kept S lengths asked rest h = kept (start_checks S.n S.width S.height S.placed lengths ++ ((asked, 3) ∷ [])) rest h

-- ---- the next block: its neighbours and its texture, each at the front of an array

module _ (S : Sheet) {n w x y : ℕ} (at : Next S n w x y) where
  pub near_next :
      (s : List ℕ) {near : List ℕ}
      → near ≡ filled greatest_neighbours (4 * n) (counted n w x y (left_count n x) (top_count n w x y) s)
      → take (4 * n) near ≡ neighbours S.n S.width S.placed s
  near_next s {near} e =
      let o = at.is_open in
      let c = neighbours-counted S.n S.width S.placed s (omega (arith, o.low)) o.wide in
      let f : near ≡ filled greatest_neighbours (4 * S.n) (neighbours S.n S.width S.placed s) =
      rw c (rw (at.size, at.wide, at.column, at.row) at e) in
      ap (λ (m : ℕ). take (4 * m) near) at.size
      ∙ ap (take (4 * S.n)) f
      ∙ take-filled greatest_neighbours (4 * S.n) (neighbours S.n S.width S.placed s)
      (length-neighbours S.n S.width S.placed s) (omega (arith, o.high))

  pub light-next :
      (l light : List ℕ) {part : ℕ}
      → (0 < length l → take (n * n) light ≡ cut n w x y l)
      → part ≡ cond (ltb 0 (length l)) (n * n) 0 → take part light ≡ next_texture S l
  light-next l light {part} h e = ap (λ (m : ℕ). take m light) e ∙ go (ltb 0 (length l)) refl
    where
      go :
          (b : Bool) → ltb 0 (length l) ≡ b
          → take (cond b (n * n) 0) light ≡ cond b (cut S.n S.width (next_x S) (next_y S) l) []
      go true q = h (ltb-true 0 (length l) q) ∙ rw (at.size, at.wide, at.column, at.row)
      go false q = refl
