-- Placing writes its own block only, by what stands in the blocks before it.
use Prim.Native.Nat.{ℕ, ◌+◌, ◌-◌, ◌*◌, ◌/◌, ◌%◌, ◌≤◌, ◌<◌}
use mathlib.Core.Bool.{Bool, true, false}
use mathlib.Core.List.{List, []}
use mathlib.Core.Path.{◌≡◌, refl, sym, ap, ap₂, ◌∙◌}
use native.Mathlib.Nat.{div-add-mod', div-lt_iff_lt-mul, mod-lt, mul_comm}
use native.Mathlib.Omega.{arith}
use lib.Arith.{digits_lt, digits_div, digits_mod}
use lib.ListN.{length, get_or}
use Rattle.arith.specs.Square.{place}
use Rattle.arith.proofs.Bools.{clash, both_of}
use Rattle.choice.specs.Case.{case_of}
use Rattle.choice.specs.Record.{prediction_of}
use Rattle.record.specs.declared.Record.{Record}
use Rattle.sheet_grid.specs.Grid.{side_ok, block_x, block_y, block_holding}
use Rattle.sheet_grid.specs.Samples.{covers, written}
use Rattle.sheet.specs.State.{area, blocks_of, next_x, next_y, Open}
use Rattle.sheet.specs.Place.{Material, next_texture, drawn, placed_samples}
use Rattle.sheet.specs.Laws.{Draws}
use Rattle.prediction.proofs.BlockLaws.{length-predicted}
use Rattle.sheet_grid.specs.NeighbourCases.{SameBefore}
use Rattle.sheet.specs.declared.Sheet.{Sheet}
use Rattle.sheet.proofs.SideLaws.{multiple}
use Rattle.sheet_grid.proofs.NeighbourLaws.{neighbours-same}
use Rattle.sheet_grid.proofs.SampleLaws.{covered, covers-all, written-covered, written-others}

-- a sample that block k covers is held by block k
along : (n q c : ℕ) → q * n ≤ c → c < q * n + n → c / n ≡ q
along n q c l h =
    let e : q * n + (c - q * n) ≡ c = omega arith in
    ap (λ (a : ℕ). a / n) (sym e) ∙ digits_div q {m = n} {r = c - q * n} (omega arith)

pub covers-holding : (n w k j : ℕ) → covers n (block_x n w k) (block_y n w k) (j % w) (j / w) ≡ true → block_holding n w j ≡ k
covers-holding n w k j e =
    let p = covered n (block_x n w k) (block_y n w k) (j % w) (j / w) e in
    ap₂ (place (w / n)) (along n (k % (w / n)) (j % w) p.left p.right) (along n (k / (w / n)) (j / w) p.top p.bottom)
    ∙ div-add-mod' k (w / n)

-- every other sample keeps its value
pub place-others :
    (S : Sheet) (M : Material) (s : List ℕ) (r : Record) (j : ℕ) → j < length s → (block_holding S.n S.width j ≡ S.placed → ⊥)
    → get_or (placed_samples S M s r) j 0 ≡ get_or s j 0
unfolding placed_samples
place-others S M s r j l h = written-others S.n S.width _ _ _ s j l (go (covers S.n _ _ (j % S.width) (j / S.width)) refl)
  where
    go :
        (b : Bool)
        → covers S.n (block_x S.n S.width S.placed) (block_y S.n S.width S.placed) (j % S.width) (j / S.width) ≡ b
        → b ≡ false
    go true e = absurd (h (covers-holding S.n S.width S.placed j e))
    go false e = refl

-- ---- a sheet whose sides are multiples of n

module _ (S : Sheet) (o : Open S) where
  -- its sides as blocks
  wide-blocks : S.width / S.n * S.n ≡ S.width
  wide-blocks = multiple S.n S.width (both_of (side_ok S.n S.width) (side_ok S.n S.height) o.sides).0

  high-blocks : S.height / S.n * S.n ≡ S.height
  high-blocks = multiple S.n S.height (both_of (side_ok S.n S.width) (side_ok S.n S.height) o.sides).1

  positive-n : 0 < S.n
  positive-n = omega (arith, o.low)

  positive-width : 0 < S.width
  positive-width = omega (arith, o.low, o.wide)

  column-block : (j : ℕ) → j % S.width / S.n < S.width / S.n
  column-block j = (div-lt_iff_lt-mul positive-n).1 (rw wide-blocks (mod-lt j positive-width))

  -- every sample is held by a block
  pub holding-inside : (j : ℕ) → j < area S → block_holding S.n S.width j < blocks_of S
  holding-inside j l =
      let r : j / S.width < S.height = (div-lt_iff_lt-mul positive-width).1 (rw mul_comm at l) in
      let q : j / S.width / S.n < S.height / S.n = (div-lt_iff_lt-mul positive-n).1 (rw high-blocks r) in
      omega (arith, digits_lt q (column-block j), mul_comm (S.width / S.n) (S.height / S.n))

  -- a sample held by the next block is covered by it
  holding-covers :
      (j : ℕ) → block_holding S.n S.width j ≡ S.placed
      → covers S.n (block_x S.n S.width S.placed) (block_y S.n S.width S.placed) (j % S.width) (j / S.width) ≡ true
  holding-covers j e =
      let n = S.n in
      let w = S.width in
      let a : S.placed % (w / n) ≡ j % w / n = ap (λ (b : ℕ). b % (w / n)) (sym e) ∙ digits_mod (j / w / n) (column-block j) in
      let b : S.placed / (w / n) ≡ j / w / n = ap (λ (b : ℕ). b / (w / n)) (sym e) ∙ digits_div (j / w / n) (column-block j) in
      rw (a, b)
      (covers-all n (j % w / n * n) (j / w / n * n) (j % w) (j / w)
      (record {
        left = omega (arith, div-add-mod' (j % w) n);
        right = omega (arith, div-add-mod' (j % w) n, mod-lt (j % w) positive-n);
        top = omega (arith, div-add-mod' (j / w) n);
        bottom = omega (arith, div-add-mod' (j / w) n, mod-lt (j / w) positive-n);
      }))

  -- ---- what a placing reads

  -- samples that are the same in every block before the next one draw the same block
  drawn-same :
      (M : Material) (r : Record) (s t : List ℕ) → SameBefore S.n S.width (area S) S.placed s t → drawn S M s r ≡ drawn S M t r
  drawn-same M r s t same =
      ap (λ (b : List ℕ). prediction_of (case_of S.n M.list M.count b [] M.table 0 (next_texture S M.texture)) r)
      (neighbours-same S.n S.width S.height S.placed positive-n o.missing s t same)

  -- what is drawn is a block of n * n samples, which depends on samples of blocks already placed only
  pub draws : (M : Material) (r : Record) → Draws S M r
  draws M r =
      record {
        whole = λ s. length-predicted S.n _ _ _ _ _;
        before = drawn-same M r;
      }

  -- and are then the same in the next block too
  pub placed_same :
      (M : Material) (s t : List ℕ) (r : Record) → length s ≡ area S → length t ≡ area S
      → SameBefore S.n S.width (area S) S.placed s t
      → SameBefore S.n S.width (area S) (S.placed + 1) (placed_samples S M s r) (placed_samples S M t r)
  unfolding placed_samples
  placed_same M s t r ls lt same j l h = go (covers n x y (j % w) (j / w)) refl
    where
      n : ℕ
      n = S.n

      w : ℕ
      w = S.width

      x : ℕ
      x = next_x S

      y : ℕ
      y = next_y S

      p : List ℕ
      p = drawn S M s r

      q : List ℕ
      q = drawn S M t r

      go : (b : Bool) → covers n x y (j % w) (j / w) ≡ b → get_or (written n w x y p s) j 0 ≡ get_or (written n w x y q t) j 0
      go true e =
          written-covered n w x y p s j (omega arith) e
          ∙ ap (λ (b : List ℕ). get_or b (place n (j % w - x) (j / w - y)) 0) (drawn-same M r s t same)
          ∙ sym (written-covered n w x y q t j (omega arith) e)
      go false e =
          let d : block_holding n w j ≡ S.placed → ⊥ = λ z. clash (sym (holding-covers j z) ∙ e) in
          written-others n w x y p s j (omega arith) e
          ∙ same j l (omega arith)
          ∙ sym (written-others n w x y q t j (omega arith) e)
