-- Laws of the index of a depth: it is that of the nearest value as document 01 says, and no other is; and without
-- a value it is 0.
use Prim.Native.Nat.{ℕ, zero, suc, ◌-◌, ◌≤◌, ◌<◌}
use mathlib.Core.Path.{◌≡◌, refl, sym}
use mathlib.Core.Bool.{Bool, true, false, cond}
use mathlib.Core.List.{List}
use mathlib.Core.Logic.{⊎_elim}
use native.Mathlib.Omega.{arith}
use native.Mathlib.Nat.{eq-or-lt_of_le}
use lib.ListN.{length, get_or}
use lib.Dec.{leb}
use borrow.Author.Tests.{leb-true, leb-false}
use Rattle.arith.specs.Distance.{dist}
use Rattle.depth_table.specs.Table.{table_ok, nearest_to, index_of}
use Rattle.depth_table.specs.Nearest.{Nearest}
use Rattle.depth_table.proofs.TableLaws.{table-counts, table-rises}

module _ (t : List ℕ) (d : ℕ) where
  -- the distance of the value at j
  abbrev away : ℕ → ℕ
  away j = dist d (get_or t j 0)

  -- r is the last of 0 .. k at which the value is nearest
  record Last (k r : ℕ) : Type 0 where
    pub below : r ≤ k
    pub least : (j : ℕ) → j ≤ k → away r ≤ away j
    pub last : (j : ℕ) → r < j → j ≤ k → away r < away j

  -- one value more
  last-new : (k r : ℕ) → Last k r → away (suc k) ≤ away r → Last (suc k) (suc k)
  last-new k r p h =
      record {
        below = omega arith;
        least = λ j l. ⊎_elim (λ e. rw e (omega arith)) (λ b. omega (arith, p.least j (omega arith))) (eq-or-lt_of_le l);
        last = λ j l m. absurd (omega arith);
      }

  last-old : (k r : ℕ) → Last k r → away r < away (suc k) → Last (suc k) r
  last-old k r p h =
      record {
        below = omega (arith, p.below);
        least = λ j l. ⊎_elim (λ e. rw e (omega arith)) (λ b. p.least j (omega arith)) (eq-or-lt_of_le l);
        last = λ j l m. ⊎_elim (λ e. rw e h) (λ b. p.last j l (omega arith)) (eq-or-lt_of_le m);
      }

  nearest_to-last : (k : ℕ) → Last k (nearest_to t d k)
  unfolding nearest_to
  nearest_to-last zero =
      record {
        below = omega arith;
        least = λ j l. let e : j ≡ 0 = omega arith in rw e (omega arith);
        last = λ j l m. absurd (omega arith);
      }
  nearest_to-last (suc k) = go (nearest_to t d k) (nearest_to-last k) (leb (away (suc k)) (away (nearest_to t d k))) refl
    where
      go : (r : ℕ) → Last k r → (b : Bool) → leb (away (suc k)) (away r) ≡ b → Last (suc k) (cond b (suc k) r)
      go r p true e = last-new k r p (leb-true (away (suc k)) (away r) e)
      go r p false e = last-old k r p (leb-false (away (suc k)) (away r) e)

  -- ---- the laws

  index-last : Last (length t - 1) (index_of t d)
  unfolding index_of
  index-last = nearest_to-last (length t - 1)

  -- the index is below the count
  pub index_below : 0 < length t → index_of t d < length t
  index_below h = omega (arith, index-last.below)

  -- in a sound table the index is that of the nearest value; of two equally near, the greater
  pub index-nearest : table_ok t ≡ true → Nearest t d (index_of t d)
  index-nearest ok =
      let some = (table-counts t ok).0 in
      let k = index_of t d in
      let in_table = index_below some in
      let before : (j : ℕ) → j < length t → away k ≡ away j → k < j → ⊥ =
      λ j l e m. omega (arith, index-last.last j m (omega arith))
      in
      record {
        within = in_table;
        nearest = λ j l. index-last.least j (omega arith);
        greater =
            λ j l e.
            ⊎_elim (λ q. rw q (omega arith)) (λ m. omega (arith, table-rises t ok j k m in_table))
            (eq-or-lt_of_le (let q : j ≤ k = (let n = before j l e in omega arith) in q));
      }

  -- and there is no other such index
  pub nearest-unique : table_ok t ≡ true → (k : ℕ) → Nearest t d k → k ≡ index_of t d
  nearest-unique ok k p =
      let i = index_of t d in
      let q = index-nearest ok in
      let same : away k ≡ away i = omega (arith, p.nearest i q.within, q.nearest k p.within) in
      let above = p.greater i q.within same in
      let under = q.greater k p.within (sym same) in
      let a : k < i → ⊥ = λ l. omega (arith, table-rises t ok k i l q.within) in
      let b : i < k → ⊥ = λ l. omega (arith, table-rises t ok i k l p.within) in
      omega arith
