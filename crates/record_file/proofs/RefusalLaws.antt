-- What holds where writing is not refused, and the first refusal of several.
use Prim.Native.Nat.{ℕ, zero, suc, ◌+◌, ◌≤◌, ◌<◌}
use mathlib.Core.Path.{◌≡◌, refl, sym, ◌∙◌}
use mathlib.Core.Bool.{Bool, true}
use mathlib.Core.List.{List}
use mathlib.Core.Logic.{⊎_elim}
use native.Mathlib.Numerals.{add-one}
use native.Mathlib.Omega.{arith}
use borrow.Author.Tests.{leb-true, eqb-true, le-leb, eq-eqb}
use lib.Dec.{leb}
use lib.ListN.{length}
use Rattle.arith.specs.Checks.{refusal, Hold}
use Rattle.arith.proofs.Bools.{both_of}
use Rattle.arith.proofs.CheckLaws.{holds, passes, kept}
use Rattle.arith.proofs.LeastLaws.{last-or-below}
use Rattle.depth_table.specs.Table.{table_ok}
use Rattle.depth_table.proofs.TableLaws.{table-counts}
use Rattle.pattern.specs.Size.{size_ok}
use Rattle.pattern.specs.Answer.{count_ok}
use Rattle.pattern.proofs.AnswerLaws.{count-is, is-count}
use Rattle.pattern.proofs.SizeLaws.{size-bounds}
use Rattle.sheet_grid.specs.Grid.{side_ok}
use Rattle.sheet.proofs.SideLaws.{side-bounds}
use Rattle.sheet.specs.declared.Sheet.{Sheet}
use Rattle.sheet.specs.State.{blocks_of, sides_ok}
use Rattle.record_file.proofs.MeaningLaws.{record-small}
use Rattle.record_file.specs.Writing.{Source, Small, HeadFits, first, first_to, space_for, write_lengths_ok, written_refusal}
use Rattle.record_file.specs.Writing.{write_checks, write_refusal}

-- ---- the first refusal of several

first-none : (a b : ℕ) → first a b ≡ 0 → (a ≡ 0) × (b ≡ 0)
first-none zero b h = (refl, h)
first-none (suc a) b h = absurd (omega arith)

-- where there is none, none of them refuses
pub first-all : (f : ℕ → ℕ) (m : ℕ) → first_to f m ≡ 0 → (i : ℕ) → i < m → f i ≡ 0
unfolding first_to
first-all f zero h i l = absurd (omega arith)
first-all f (suc m) h i l =
    let p = first-none (first_to f m) (f m) h in
    ⊎_elim (λ e. rw e p.1) (λ k. first-all f m p.0 i k) (last-or-below l)

pub all_first : (f : ℕ → ℕ) (m : ℕ) → ((i : ℕ) → i < m → f i ≡ 0) → first_to f m ≡ 0
unfolding first_to
all_first f zero h = refl
all_first f (suc m) h = rw (all_first f m (λ i l. h i (omega arith))) (h m (omega arith))

-- ---- the lengths

pub record LengthsRight (S : Sheet) (patterns count values records space : ℕ) : Type 0 where
  pub inside : count ≤ patterns
  pub few : count ≤ 9999
  pub enough : blocks_of S ≤ records
  pub room : space_for values (blocks_of S) ≤ space

module _ (S : Sheet) (patterns count values records space : ℕ) where
  lengths-right : write_lengths_ok S patterns count values records space ≡ true → LengthsRight S patterns count values records space
  unfolding write_lengths_ok
  lengths-right h =
      let a = both_of (count_ok patterns count) _ h in
      let b = count-is patterns count a.0 in
      let c = both_of (leb (blocks_of S) records) (leb (space_for values (blocks_of S)) space) a.1 in
      record { inside = b.0; few = b.1; enough = leb-true _ _ c.0; room = leb-true _ _ c.1 }

  right-lengths : LengthsRight S patterns count values records space → write_lengths_ok S patterns count values records space ≡ true
  unfolding write_lengths_ok
  right-lengths r = rw (is-count patterns count r.inside r.few, le-leb _ _ r.enough, le-leb _ _ r.room)

-- ---- writing

module _ (W : Source) (list : List ℕ) (count records space : ℕ) where
  -- what is checked before the records, and the refusal of the records
  abbrev pub checks : List (Bool × ℕ)
  checks = write_checks W.sheet W.table (length list) count records space

  abbrev records_refusal : ℕ
  records_refusal = first_to (λ i. written_refusal W.sheet.n list count (length W.table) (W.record-at i)) (blocks_of W.sheet)

  -- what writing asks for
  pub record Accepted : Type 0 where
    pub size : size_ok W.sheet.n ≡ true
    pub lengths : LengthsRight W.sheet (length list) count (length W.table) records space
    pub sides : sides_ok W.sheet ≡ true
    pub done : W.sheet.placed ≡ blocks_of W.sheet
    pub sound : table_ok W.table ≡ true
    pub each : (i : ℕ) → i < blocks_of W.sheet → written_refusal W.sheet.n list count (length W.table) (W.record-at i) ≡ 0

  pub accepted-parts : write_refusal W list count records space ≡ 0 → Accepted
  unfolding write_refusal
  accepted-parts h =
      let S = W.sheet in
      let p = holds checks records_refusal h in
      let q = p.0 in
      record {
        size = q.0;
        lengths = lengths-right S (length list) count (length W.table) records space q.1.0;
        sides = q.1.1.0;
        done = eqb-true _ _ q.1.1.1.1.0;
        sound = q.1.1.1.1.1.0;
        each = first-all (λ i. written_refusal S.n list count (length W.table) (W.record-at i)) (blocks_of S) p.1;
      }

  pub parts-accepted : Accepted → write_refusal W list count records space ≡ 0
  unfolding write_refusal
  parts-accepted p =
      let S = W.sheet in
      let e = p.done in
      let lent = right-lengths S (length list) count (length W.table) records space p.lengths in
      let l = le-leb S.placed (blocks_of S) (omega (arith, e)) in
      let all : Hold checks = (p.size, (lent, (p.sides, (l, (eq-eqb S.placed (blocks_of S) e, (p.sound, tt)))))) in
      passes checks records_refusal all ∙ all_first (λ i. written_refusal S.n list count (length W.table) (W.record-at i)) (blocks_of S) p.each

  -- the refusal as the code finds it: of what is checked first, then of the records
  pub write-first : {x : ℕ} → x ≡ refusal checks 0 → (x ≡ 0 → ⊥) → x ≡ write_refusal W list count records space
  unfolding write_refusal
  write-first e h = e ∙ sym (kept checks records_refusal (λ z. h (e ∙ z)))

  pub write-next : refusal checks 0 ≡ 0 → write_refusal W list count records space ≡ records_refusal
  unfolding write_refusal
  write-next h = passes checks records_refusal (holds checks 0 h).0

  -- then the lengths are right
  pub first-lengths : refusal checks 0 ≡ 0 → LengthsRight W.sheet (length list) count (length W.table) records space
  first-lengths h = lengths-right W.sheet (length list) count (length W.table) records space (holds checks 0 h).0.1.0

  -- where nothing is refused, what the texts need
  pub accepted-head : Accepted → HeadFits W.sheet (length W.table)
  accepted-head p =
      let S = W.sheet in
      let s = both_of (side_ok S.n S.width) (side_ok S.n S.height) p.sides in
      record {
        n = (size-bounds S.n p.size).1;
        width = (side-bounds S.n S.width s.0).1;
        height = (side-bounds S.n S.height s.1).1;
        table = (table-counts W.table p.sound).1;
      }

  pub accepted-small : Accepted → (i : ℕ) → i < blocks_of W.sheet → Small (W.record-at i)
  accepted-small p i h = record-small W.sheet.n list count true (length W.table) (W.record-at i) p.lengths.few (p.each i h)

-- ---- the loop that looks for the first refusal

pub first-start : (f : ℕ → ℕ) → 0 ≡ first_to f 0
unfolding first_to
first-start f = refl

-- one that was found stays
pub first-kept : (f : ℕ → ℕ) (i x : ℕ) → x ≡ first_to f i → (x ≡ 0 → ⊥) → x ≡ first_to f (i + 1)
unfolding first_to
first-kept f i x e h = rw (add-one i, ← e) (turn x h)
  where
    turn : (x : ℕ) → (x ≡ 0 → ⊥) → x ≡ first x (f i)
    turn zero h = absurd (h refl)
    turn (suc x) h = refl

-- none was found: the next one's is the first
pub first_next : (f : ℕ → ℕ) (i x y : ℕ) → x ≡ first_to f i → x ≡ 0 → y ≡ f i → y ≡ first_to f (i + 1)
unfolding first_to
first_next f i x y e z q = rw (add-one i, ← e, z) q
