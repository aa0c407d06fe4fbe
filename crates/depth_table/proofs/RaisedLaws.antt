-- A whole number added to a table's values and to a depth: the table stays sound where the values stay bytes, the depth keeps its index, and
-- the value at each offset rises by that number.
use Prim.Native.Nat.{ℕ, ◌<◌}
use mathlib.Core.Path.{◌≡◌, sym, ◌∙◌}
use mathlib.Core.Bool.{true}
use mathlib.Core.List.{List}
use native.Mathlib.Omega.{arith}
use lib.IntN.{ℤ}
use lib.ListN.{length, get_or}
use Rattle.arith.specs.Distance.{dist, clamped}
use Rattle.arith.specs.Raised.{raised_list, raised_in_range}
use Rattle.arith.proofs.RaisedLaws.{Risen, RisenList, dist-raised, list-raised, raised-most}
use Rattle.depth_table.specs.Table.{table_ok, index_of}
use Rattle.depth_table.specs.Nearest.{Nearest}
use Rattle.depth_table.specs.Offset.{level_of}
use Rattle.depth_table.proofs.TableLaws.{bytes-made, rising-made, table-sound, table-made, table-counts, table-rises}
use Rattle.depth_table.proofs.IndexLaws.{index-nearest, nearest-unique}
use Rattle.depth_table.proofs.LevelLaws.{clamped-lt}

module _ {p q : ℕ} (t u : List ℕ) (r : RisenList p q t u) (ok : table_ok t ≡ true) where
  -- a raised table is sound where its values are bytes
  table-risen : ((i : ℕ) → get_or u i 0 < 256) → table_ok u ≡ true
  table-risen small =
      let s = table-sound t ok in
      let n = r.same_length in
      let rises = rising-made u 0 (λ i l. omega arith)
      (λ i j l m. omega (arith, (r.each i (omega arith)).sum, (r.each j (omega arith)).sum, table-rises t ok i j l (omega arith))) in
      table-made u (record { some = omega (arith, s.some); few = omega (arith, s.few); small = bytes-made u small; rises = rises })

  module _ (d d' : ℕ) (e : Risen p q d d') where
    -- each value is as far from the depth as before
    away : (j : ℕ) → j < length t → dist d' (get_or u j 0) ≡ dist d (get_or t j 0)
    away j l = dist-raised e (r.each j l)

    -- the nearest value stands at the same place
    nearest-raised : (k : ℕ) → Nearest t d k → Nearest u d' k
    nearest-raised k x =
        let n = r.same_length in
        let at = away k x.within in
        record {
          within = omega (arith, x.within);
          nearest = λ j l. rw (at, away j (omega arith)) (x.nearest j (omega arith));
          greater = λ j l m.
              let l' : j < length t = omega arith in
              omega (arith, (r.each k x.within).sum, (r.each j l').sum, x.greater j l' (sym at ∙ m ∙ away j l'));
        }

    module _ (ok' : table_ok u ≡ true) where
      -- a raised depth has the same index in the raised table
      pub index-raised : index_of u d' ≡ index_of t d
      index-raised = sym (nearest-unique u d' ok' (index_of t d) (nearest-raised (index_of t d) (index-nearest t d ok)))

      -- and the value at each offset is raised
      pub level-raised : (off : ℤ) → Risen p q (level_of t d off) (level_of u d' off)
      unfolding level_of
      level-raised off =
          rw (r.same_length, index-raised)
          (r.each (clamped (length t) (index_of t d) off) (clamped-lt (length t) (index_of t d) off (table-counts t ok).0))

-- a table is sound again where all of its values stay within 0 to 255
pub table-raised : (k : ℤ) (t : List ℕ) → table_ok t ≡ true → raised_in_range 255 k t ≡ true → table_ok (raised_list k t) ≡ true
table-raised k t ok h =
    table-risen t (raised_list k t) (list-raised 255 k t h) ok (λ i. omega (arith, raised-most 255 k t h i))
