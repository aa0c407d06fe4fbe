-- Records placed in turn on an empty sheet: what stood there before makes no difference.
use Prim.Native.Nat.{ℕ, ◌*◌, ◌/◌}
use mathlib.Core.Path.{◌≡◌, subst}
use mathlib.Core.Bool.{true}
use mathlib.Core.List.{List}
use native.Mathlib.Nat.{mul-le-mul, sub-zero}
use native.Mathlib.Omega.{arith}
use lib.ListN.{length, replicate, length-replicate}
use Rattle.arith.proofs.Bools.{both_of}
use Rattle.pattern.specs.Size.{size_ok}
use Rattle.pattern.proofs.SizeLaws.{size-bounds}
use Rattle.record.specs.declared.Record.{Record}
use Rattle.sheet.specs.declared.Sheet.{Sheet}
use Rattle.sheet_grid.specs.Grid.{side_ok}
use Rattle.sheet_grid.proofs.GridLaws.{per_pos}
use Rattle.sheet.specs.State.{state_of, area, blocks_of, sides_ok, Open}
use Rattle.sheet.specs.Place.{Material, placed_in_turn}
use Rattle.sheet.proofs.SideLaws.{side-bounds}
use Rattle.sheet.proofs.InTurnLaws.{whole_same}
use Rattle.record_read.specs.Back.{drawn_on}

module _ (n w h : ℕ) (size : size_ok n ≡ true) (sides : sides_ok (state_of n w h 0) ≡ true) where
  abbrev empty : Sheet
  empty = state_of n w h 0

  -- an empty sheet of allowed sides has a block to place
  pub open-empty : Open (state_of n w h 0)
  open-empty =
      let b = size-bounds n size in
      let s = both_of (side_ok n w) (side_ok n h) sides in
      let x = side-bounds n w s.0 in
      let y = side-bounds n h s.1 in
      record {
        size = size;
        sides = sides;
        low = b.0;
        high = b.1;
        wide = x.0;
        narrow = x.1;
        short = y.1;
        missing =
            mul-le-mul {n₁ = 1} {m₁ = 1} {n₂ = w / n} {m₂ = h / n}
            (per_pos n w (omega (arith, b.0)) x.0) (per_pos n h (omega (arith, b.0)) y.0);
      }

  -- the samples s before the first record make no difference
  pub empty-same :
      (M : Material) (records : ℕ → Record) (s : List ℕ) → length s ≡ w * h
      → placed_in_turn (state_of n w h 0) M records s (blocks_of (state_of n w h 0)) ≡ drawn_on (state_of n w h 0) M records
  empty-same M records s long =
      let zeros : List ℕ = replicate (area empty) 0 in
      subst (λ (m : ℕ). placed_in_turn empty M records s m ≡ placed_in_turn empty M records zeros m) (sub-zero (blocks_of empty))
      (whole_same empty M records s zeros open-empty long (length-replicate {A = ℕ} (area empty) 0) (λ j l b. absurd (omega arith)))
