-- Refusal 20: a finished sheet gets no block more, and nothing else is refused with it.
use Prim.Native.Nat.{ℕ, zero, suc, ◌≤◌}
use mathlib.Core.Bool.{Bool, true, false}
use mathlib.Core.List.{List, [], ◌∷◌}
use mathlib.Core.Path.{◌≡◌, refl}
use native.Mathlib.Omega.{arith}
use borrow.Author.Tests.{leb-true, ltb-false, le-leb, le-ltb}
use lib.Dec.{ltb}
use lib.ListN.{length}
use Rattle.arith.specs.Checks.{unless, refusal}
use Rattle.arith.proofs.CheckLaws.{later}
use Rattle.depth_table.specs.Table.{table_ok}
use Rattle.depth_table.specs.Offset.{offset_checks}
use Rattle.pattern.specs.Size.{size_ok}
use Rattle.pattern.specs.Answer.{textured}
use Rattle.record.specs.declared.Record.{Record}
use Rattle.record.specs.Meaning.{kind_meaning, kind_refusal, offset_refusal, record_refusal}
use Rattle.sheet.specs.Checks.{state_checks, start_refusal_by}
use Rattle.sheet.specs.State.{blocks_of, sides_ok, lengths_ok, open_refusal}
use Rattle.sheet.specs.Place.{Material, place_refusal_by, place_refusal}
use Rattle.sheet.specs.Compose.{Task, choice_checks, choice_refusal, compose_refusal}
use Rattle.sheet.specs.declared.Sheet.{Sheet}
use Rattle.sheet.proofs.EndLaws.{lengths_hold}

module _ (S : Sheet) (lengths asked : Bool) (rest : ℕ) where
  -- the checks before 20, and what comes after them
  abbrev checks : List (Bool × ℕ)
  checks = state_checks S.n S.width S.height S.placed lengths

  abbrev after-them : ℕ
  after-them = refusal ((ltb S.placed (blocks_of S), 20) ∷ (asked, 3) ∷ []) rest

  -- a finished sheet whose size, lengths and sides are right
  finished_open :
      size_ok S.n ≡ true → lengths ≡ true → sides_ok S ≡ true → S.placed ≡ blocks_of S → open_refusal S lengths asked rest ≡ 20
  unfolding start_refusal_by
  finished_open size right sides all =
      rw (size, right, sides, le-leb S.placed (blocks_of S) (omega arith), le-ltb S.placed (blocks_of S) (omega arith))

  -- nothing else gives 20, if the checks after these do not
  open_finished : (rest ≡ 20 → ⊥) → open_refusal S lengths asked rest ≡ 20 → S.placed ≡ blocks_of S
  unfolding start_refusal_by
  open_finished h e =
      let p = later checks after-them 20 refl e in
      go (ltb S.placed (blocks_of S)) refl (leb-true S.placed (blocks_of S) p.0.1.1.1.0) p.1
    where
      go :
          (b : Bool) → ltb S.placed (blocks_of S) ≡ b → S.placed ≤ blocks_of S → unless b 20 (refusal ((asked, 3) ∷ []) rest) ≡ 20
          → S.placed ≡ blocks_of S
      go false p l q = omega (arith, ltb-false S.placed (blocks_of S) p)
      go true p l q = absurd (h (later ((asked, 3) ∷ []) rest 20 refl q).1)

-- ---- placing

offsets-not : (values : ℕ) (r : Record) → offset_refusal values r ≡ 20 → ⊥
offsets-not values r e = omega (arith, (later (offset_checks values r.off0 r.off1) 0 20 refl e).1)

kind-not :
    (n : ℕ) (list : List ℕ) (count : ℕ) (lent : Bool) (kind entry : ℕ) {rest : ℕ} → (rest ≡ 20 → ⊥)
    → kind_refusal n list count lent kind entry rest ≡ 20 → ⊥
kind-not n list count lent zero entry {rest} h e = h (later (kind_meaning n list count lent zero entry).0 rest 20 refl e).1
kind-not n list count lent (suc zero) entry {rest} h e = h (later (kind_meaning n list count lent (suc zero) entry).0 rest 20 refl e).1
kind-not n list count lent (suc (suc kind)) entry h e = absurd (omega arith)

-- a finished sheet accepts no placing
pub place-finished :
    (S : Sheet) (samples : ℕ) (M : Material) (r : Record) → size_ok S.n ≡ true
    → lengths_ok S samples (length M.list) M.count (length M.texture) ≡ true → sides_ok S ≡ true → S.placed ≡ blocks_of S
    → place_refusal S samples M r ≡ 20
unfolding place_refusal_by
place-finished S samples M r size right sides all =
    finished_open S (lengths_ok S samples (length M.list) M.count (length M.texture)) (table_ok M.table) _ size right sides all

-- and 20 is given for nothing else
pub place-twenty : (S : Sheet) (samples : ℕ) (M : Material) (r : Record) → place_refusal S samples M r ≡ 20 → S.placed ≡ blocks_of S
unfolding place_refusal_by record_refusal
place-twenty S samples M r =
    open_finished S (lengths_ok S samples (length M.list) M.count (length M.texture)) (table_ok M.table) _
    (kind-not S.n M.list M.count (textured M.texture) r.kind r.entry (offsets-not (length M.table) r))

-- ---- composing

choice-not : (S : Sheet) (T : Task) → choice_refusal S T ≡ 20 → ⊥
unfolding choice_refusal
choice-not S T e = omega (arith, (later (choice_checks S T) 0 20 refl e).1)

pub compose-finished :
    (S : Sheet) (samples : ℕ) (T : Task) (records : ℕ) → size_ok S.n ≡ true → lengths_hold S T samples records ≡ true
    → sides_ok S ≡ true → S.placed ≡ blocks_of S → compose_refusal S samples T records ≡ 20
unfolding compose_refusal
compose-finished S samples T records size right sides all =
    finished_open S (lengths_hold S T samples records) (table_ok T.material.table) _ size right sides all

pub compose-twenty : (S : Sheet) (samples : ℕ) (T : Task) (records : ℕ) → compose_refusal S samples T records ≡ 20 → S.placed ≡ blocks_of S
unfolding compose_refusal
compose-twenty S samples T records =
    open_finished S (lengths_hold S T samples records) (table_ok T.material.table) _ (choice-not S T)
