-- The first refusal of the records, as the code looks for it.
use Prim.Native.Nat.{ℕ, zero, suc, ◌+◌, ◌<◌}
use mathlib.Core.Path.{◌≡◌, refl, sym, ◌∙◌, ap}
use mathlib.Core.Bool.{Bool, true, cond}
use mathlib.Core.List.{List}
use mathlib.Core.Logic.{⊎_elim}
use lib.ListN.{length}
use native.Mathlib.Numerals.{add-one}
use native.Mathlib.Omega.{arith}
use borrow.Author.Tests.{ne_eqb}
use lib.IntN.{ℤ}
use lib.Dec.{eqb}
use Rattle.arith.specs.Checks.{refused, given}
use Rattle.record.specs.declared.Record.{Record}
use Rattle.record.specs.Lent.{record_at}
use Rattle.record.specs.Meaning.{Named, record_meaning}
use Rattle.record.proofs.MeaningLaws.{meaning-given, meaning-refused}
use Rattle.arith.proofs.LeastLaws.{last-or-below}
use Rattle.pattern.proofs.AnswerLaws.{number-some}
use Rattle.record_file.specs.Writing.{first, first_to, written_refusal}

-- with one record more it is the one so far, or where there is none the next record's
pub first_step :
    (n : ℕ) (l : List ℕ) (count values : ℕ) (records : List (List ℤ)) (i : ℕ)
    → let f : ℕ → ℕ = λ k. written_refusal n l count values (record_at records k) in
    first_to f (i + 1) ≡ cond (eqb (first_to f i) 0) (f i) (first_to f i)
unfolding first_to
first_step n l count values records i =
    let f : ℕ → ℕ = λ k. written_refusal n l count values (record_at records k) in
    rw add-one (turn (first_to f i) (f i))
  where
    turn : (x y : ℕ) → first x y ≡ cond (eqb x 0) y x
    turn zero y = refl
    turn (suc x) y = rw (ne_eqb (suc x) 0 (λ e. omega arith))

-- a record that means nothing has the number of its refusal, and one that means something has none
module _ (n : ℕ) (l : List ℕ) (count : ℕ) {lent : Bool} (values : ℕ) (r : Record) (t : lent ≡ true) where
  pub record_refused : (k : ℕ) → refused k ≡ record_meaning n l count lent values r → k ≡ written_refusal n l count values r
  record_refused k e = (meaning-refused n l count true values r (rw t at e)).0

  pub record_given : {m : Named} → given m ≡ record_meaning n l count lent values r → 0 ≡ written_refusal n l count values r
  record_given e = sym (meaning-given n l count true values r (rw t at e)).0

first-same : (x y : ℕ) → (x ≡ 0 → ⊥) → x ≡ first x y
first-same zero y e = absurd (e refl)
first-same (suc x) y e = refl

-- the first of m refusals is at i, where none is before
found : (f : ℕ → ℕ) (m i : ℕ) → i < m → first_to f i ≡ 0 → (f i ≡ 0 → ⊥) → f i ≡ first_to f m
unfolding first_to
found f zero i h z e = absurd (omega arith)
found f (suc m) i h z e =
    ⊎_elim
    (λ q. let w : first_to f m ≡ 0 = ap (first_to f) (sym q) ∙ z in rw w (ap f q))
    (λ k. first-same (f i) (f m) e ∙ ap (λ (x : ℕ). first x (f m)) (found f m i k z e))
    (last-or-below h)

-- ---- the loop: none of the first i records is refused

module _ (n : ℕ) (l : List ℕ) (count values : ℕ) (records : List (List ℤ)) where
  abbrev refusals : ℕ → ℕ
  refusals k = written_refusal n l count values (record_at records k)

  pub first_none : first_to refusals 0 ≡ 0
  unfolding first_to
  first_none = refl

  -- nor is the next
  pub first_more : (i : ℕ) → (refusals i ≡ refusals i) × (first_to refusals i ≡ 0 → 0 ≡ refusals i → first_to refusals (i + 1) ≡ 0)
  unfolding first_to
  first_more i = (refl, λ z e. rw (add-one, z) (sym e))

  -- the next is: it is the first of all
  pub first_found :
      (i : ℕ) → (refusals i ≡ refusals i) × (i < length records → first_to refusals i ≡ 0 → (refusals i ≡ 0 → ⊥) → refusals i ≡ first_to refusals (length records))
  first_found i = (refl, λ h z e. found refusals (length records) i h z e)

-- refusals that are the same
pub first_ext : (f g : ℕ → ℕ) (m : ℕ) → ((i : ℕ) → i < m → f i ≡ g i) → first_to f m ≡ first_to g m
unfolding first_to
first_ext f g zero h = refl
first_ext f g (suc m) h = rw (first_ext f g m (λ i l. h i (omega arith)), h m (omega arith)) refl

-- what judging the records one by one cites
pub ruleset in_order = (first_more, first_found, number-some)
