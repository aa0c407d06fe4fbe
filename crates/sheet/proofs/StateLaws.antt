-- What holds of a state that has a block to place, and of one that the checks pass.
use Prim.Native.Nat.{ℕ, ◌+◌, ◌*◌, ◌≤◌, ◌<◌}
use mathlib.Core.Bool.{Bool, true}
use mathlib.Core.List.{List, [], ◌∷◌, ◌++◌}
use mathlib.Core.Path.{◌≡◌}
use native.Mathlib.Nat.{mul-le-mul}
use native.Mathlib.Omega.{arith}
use borrow.Author.Tests.{eq-eqb, eqb-true, le-leb, lt-ltb, ltb-true}
use lib.Dec.{eqb}
use Rattle.arith.proofs.Bools.{both_of}
use Rattle.arith.proofs.CheckLaws.{holds, passes, kept}
use Rattle.arith.specs.Checks.{refusal}
use Rattle.pattern.specs.Answer.{count_ok, texture_ok}
use Rattle.pattern.proofs.AnswerLaws.{texture-is, is-texture, count-is, is-count}
use Rattle.pattern.proofs.SizeLaws.{size-bounds}
use Rattle.sheet_grid.specs.Grid.{longest, most_samples, side_ok, Inside}
use Rattle.sheet.specs.Checks.{lengths_ok_by, start_checks, start_refusal_by}
use Rattle.sheet.proofs.SideLaws.{side-bounds}
use Rattle.sheet.specs.State.{area, blocks_of, next_x, next_y, lengths_ok, start_refusal, open_refusal, Open, Lengths}
use Rattle.sheet.specs.Next.{Next}
use Rattle.sheet.specs.declared.Sheet.{Sheet}
use Rattle.sheet_grid.proofs.GridLaws.{blocks-few, block_inside}

-- a sheet has no more samples than the greatest
pub area-few : (S : Sheet) → Open S → area S ≤ most_samples
area-few S o = mul-le-mul {n₁ = S.width} {m₁ = S.height} {n₂ = longest} {m₂ = longest} o.narrow o.short

-- the next block lies inside the samples
pub next-inside : (S : Sheet) {samples : ℕ} → Open S → samples ≡ area S → Inside S.n S.width samples (next_x S) (next_y S)
next-inside S o e = rw e (block_inside S.n S.width S.height S.placed (omega (arith, o.low)) o.high o.wide o.missing)

pub down-at : (S : Sheet) {n w x y samples : ℕ} → Next S n w x y → samples ≡ area S → (y + n) * w ≤ samples
down-at S at e = rw (at.size, at.wide, at.row) (next-inside S at.is_open e).down

-- there is no more than one block placed for each sample
pub placed-few : (S : Sheet) → Open S → S.placed < most_samples
placed-few S o = omega (arith, o.missing, blocks-few S.n S.width S.height, area-few S o)

-- ---- the checks of a state

pub lengths-are :
    (S : Sheet) (samples words count texture : ℕ) → lengths_ok S samples words count texture ≡ true → Lengths S samples words count texture
unfolding lengths_ok_by
lengths-are S samples words count texture h =
    let a = both_of (eqb samples (area S)) _ h in
    let b = both_of (texture_ok texture (area S)) (count_ok words count) a.1 in
    let c = count-is words count b.1 in
    record {
      whole = eqb-true samples (area S) a.0;
      optional = texture-is texture (area S) b.0;
      inside = c.0;
      few = c.1;
    }

pub lengths-do :
    (S : Sheet) (samples words count texture : ℕ) → Lengths S samples words count texture → lengths_ok S samples words count texture ≡ true
unfolding lengths_ok_by
lengths-do S samples words count texture h =
    rw (eq-eqb samples (area S) h.whole, is-texture texture (area S) h.optional, is-count words count h.inside h.few)

module _ (S : Sheet) (lengths : Bool) where
  -- a refusal of the state stays, whatever is checked after it
  pub start-kept : (rest : ℕ) → (start_refusal S lengths 0 ≡ 0 → ⊥) → start_refusal S lengths rest ≡ start_refusal S lengths 0
  unfolding start_refusal_by
  start-kept rest h = kept (start_checks S.n S.width S.height S.placed lengths) rest h

  -- where there is none, what is checked after it decides
  pub start-passed : (rest : ℕ) → start_refusal S lengths 0 ≡ 0 → start_refusal S lengths rest ≡ rest
  unfolding start_refusal_by
  start-passed rest h =
      passes (start_checks S.n S.width S.height S.placed lengths) rest
      (holds (start_checks S.n S.width S.height S.placed lengths) 0 h).0

  -- the state then has a block to place
  pub record Started : Type 0 where
    pub right : lengths ≡ true
    pub tall : S.n ≤ S.height
    pub is : Open S

  pub started : (rest : ℕ) → start_refusal S lengths rest ≡ 0 → Started × (rest ≡ 0)
  unfolding start_refusal_by
  started rest h =
      let p = holds (start_checks S.n S.width S.height S.placed lengths) rest h in
      let c = p.0 in
      let n = size-bounds S.n c.0 in
      let sides = both_of (side_ok S.n S.width) (side_ok S.n S.height) c.1.1.0 in
      let w = side-bounds S.n S.width sides.0 in
      let v = side-bounds S.n S.height sides.1 in (
        record {
          right = c.1.0;
          tall = v.0;
          is =
              record {
                size = c.0;
                sides = c.1.1.0;
                low = n.0;
                high = n.1;
                wide = w.0;
                narrow = w.1;
                short = v.1;
                missing = ltb-true S.placed (blocks_of S) c.1.1.1.1.0;
              };
        },
        p.1,
      )

module _ (S : Sheet) (lengths asked : Bool) where
  -- the checks of the state, and whether the table is as asked
  abbrev checks : List (Bool × ℕ)
  checks = start_checks S.n S.width S.height S.placed lengths ++ ((asked, 3) ∷ [])

  -- where there is none
  pub record Opened : Type 0 where
    pub right : lengths ≡ true
    pub sound : asked ≡ true
    pub tall : S.n ≤ S.height
    pub is : Open S

  pub opened : (rest : ℕ) → open_refusal S lengths asked rest ≡ 0 → Opened × (rest ≡ 0)
  opened rest h =
      let p = started S lengths (refusal ((asked, 3) ∷ []) rest) h in
      let q = holds ((asked, 3) ∷ []) rest p.1 in
      (record { right = p.0.right; sound = q.0.0; tall = p.0.tall; is = p.0.is }, q.1)

  -- such a state is not refused
  pub open_none : (rest : ℕ) → Open S → lengths ≡ true → asked ≡ true → open_refusal S lengths asked rest ≡ rest
  unfolding start_refusal_by
  open_none rest o right sound =
      let few = le-leb S.placed (blocks_of S) (omega (arith, o.missing)) in
      passes checks rest (o.size, (right, (o.sides, (few, (lt-ltb S.placed (blocks_of S) o.missing, (sound, tt))))))
