-- The reach in use is enough: past it an offset reaches an end of the table that a shorter one reaches too, and the shorter one comes first.
use Prim.Native.Nat.{ℕ, zero, suc, ◌+◌, ◌-◌, ◌*◌, ◌≤◌, ◌<◌, min}
use mathlib.Core.Path.{◌≡◌, refl, sym, ap, ap₂, subst, ◌∙◌}
use mathlib.Core.Bool.{Bool, true, false}
use mathlib.Core.List.{List}
use mathlib.Core.Logic.{◌⊎◌, inl, inr, ⊎_elim}
use native.Mathlib.Decide.{dec_lt}
use native.Mathlib.Nat.{eq-or-lt_of_le}
use native.Mathlib.Omega.{arith}
use borrow.Author.Tests.{le-leb, lt-ltb, ltb-true}
use lib.IntN.{ℤ, pos, negsuc, nat_abs}
use lib.ListN.{length, get_or}
use Rattle.arith.specs.Checks.{Hold}
use Rattle.arith.specs.Distance.{clamped}
use Rattle.depth_table.specs.Table.{index_of}
use Rattle.depth_table.specs.Offset.{offset_ok, offset_usable, offset_checks, level_of}
use Rattle.depth_table.proofs.IndexLaws.{index_below}
use Rattle.depth_table.proofs.LevelLaws.{table-some}
use Rattle.prediction.specs.Sides.{side_depth}
use Rattle.record.specs.declared.Record.{Record}
use Rattle.choice.specs.Case.{Case}
use Rattle.choice.specs.Cost.{side_cost}
use Rattle.choice.specs.Offset.{InReach, Sooner, trial}
use Rattle.choice.specs.Reach.{ReachEnough}
use Rattle.choice.specs.Refusal.{choose_refusal}
use Rattle.choice.specs.Record.{WithinReach, Within, pattern_of, cost_of, Before, LeastWithin}
use Rattle.choice.proofs.AcceptLaws.{accepted}
use Rattle.choice.proofs.LeastLaws.{chosen-least, same-record}
use Rattle.choice.proofs.OffsetLaws.{sooner-trial, trial-sooner, trial-same}
use Rattle.choice.proofs.SideLaws.{part_cost, cost-split}

-- ---- one offset

-- within the reach in use it passes its checks
offset-passes : (R values : ℕ) (z : ℤ) → R ≤ 255 → 0 < values → InReach (min R (values - 1)) z → (offset_ok z ≡ true) × (offset_usable values z ≡ true)
unfolding offset_ok offset_usable
offset-passes R values z near some h = (le-leb (nat_abs z) 255 (omega arith), lt-ltb (nat_abs z) values (omega arith))

-- an offset brought to -last .. last
abbrev shortened : ℕ → ℤ → ℤ
shortened last (pos k) = pos (min k last)
shortened zero (negsuc k) = pos 0
shortened (suc last) (negsuc k) = negsuc (min k last)

-- it is in the reach that the offset is in, and in `last`
shortened-in : (R last : ℕ) (z : ℤ) → InReach R z → InReach (min R last) (shortened last z)
shortened-in R last (pos k) h = omega arith
shortened-in R zero (negsuc k) h = omega arith
shortened-in R (suc last) (negsuc k) h = omega arith

-- it comes no later
shortened-trial : (last : ℕ) (z : ℤ) → trial (shortened last z) ≤ trial z
shortened-trial last (pos k) = omega arith
shortened-trial zero (negsuc k) = omega arith
shortened-trial (suc last) (negsuc k) = omega arith

-- so it is the same, or comes first
shortened-sooner : (last : ℕ) (z : ℤ) → (shortened last z ≡ z) ⊎ Sooner (shortened last z) z
shortened-sooner last z =
    ⊎_elim (λ e. inl (trial-same (shortened last z) z e)) (λ l. inr (trial-sooner (shortened last z) z l)) (eq-or-lt_of_le (shortened-trial last z))

-- and from any index it reaches the same place of a table whose last place is `last`
clamped-shortened :
    (count last i : ℕ) (z : ℤ) → last ≡ count - 1 → (last ≡ 0) ⊎ (i ≤ last) → clamped count i (shortened last z) ≡ clamped count i z
unfolding clamped
clamped-shortened count last i (pos k) e h = ⊎_elim (λ q. omega arith) (λ l. omega arith) h
clamped-shortened count zero i (negsuc k) e h = omega arith
clamped-shortened count (suc last) i (negsuc k) e h = ⊎_elim (λ q. absurd (omega arith)) (λ l. omega arith) h

-- so it gives the same depth value
level-shortened : (t : List ℕ) (d : ℕ) (z : ℤ) → level_of t d (shortened (length t - 1) z) ≡ level_of t d z
unfolding level_of
level-shortened t d z =
    ap (λ (x : ℕ). get_or t x 0) (clamped-shortened (length t) (length t - 1) (index_of t d) z refl (go (dec_lt 0 (length t))))
  where
    go : Dec (0 < length t) → (length t - 1 ≡ 0) ⊎ (index_of t d ≤ length t - 1)
    go (yes h) = inr (omega (arith, index_below t d h))
    go (no h) = inl (omega arith)

-- ---- a record with both offsets shortened

module _ (C : Case) where
  -- the last place of the table
  abbrev last : ℕ
  last = length C.table - 1

  -- the record with both offsets brought to it
  abbrev shorter : Record → Record
  shorter r = record { kind = r.kind; entry = r.entry; off0 = shortened last r.off0; off1 = shortened last r.off1 }

  -- its partitions cost the same, and so does it
  part-shortened : (w : ℕ) (m : Bool) (z : ℤ) → part_cost C w m (shortened last z) ≡ part_cost C w m z
  part-shortened w m z = ap (side_cost (C.n * C.n) C.original w m) (level-shortened C.table (side_depth C.n w C.neighbours m) z)

  shorter-cost : (r : Record) → cost_of C (shorter r) ≡ cost_of C r
  shorter-cost r =
      let w = pattern_of C r in
      cost-split C w (shortened last r.off0) (shortened last r.off1)
      ∙ ap₂ ◌+◌ (part-shortened w false r.off0) (part-shortened w true r.off1)
      ∙ sym (cost-split C w r.off0 r.off1)

  -- it is before what the record is before
  sooner-still : (a b : ℤ) → Sooner a b → Sooner (shortened last a) b
  sooner-still a b s = trial-sooner (shortened last a) b (omega (arith, shortened-trial last a, sooner-trial a b s))

  shorter-before : (s r : Record) → Before s r → Before (shorter s) r
  shorter-before s r =
      ⊎_elim
      (λ l. inl l)
      (λ v.
      inr (
        v.0,
        ⊎_elim
            (λ l. inl l)
            (λ w.
            inr (
              w.0,
              ⊎_elim
                  (λ l. inl (sooner-still s.off0 r.off0 l))
                  (λ x.
                  ⊎_elim
                  (λ e. inr (e ∙ x.0, sooner-still s.off1 r.off1 x.1))
                  (λ l. inl (subst (Sooner (shortened last s.off0)) x.0 l))
                  (shortened-sooner last s.off0))
                  w.1,
            ))
            v.1,
      ))

  -- and it is the record itself, or before it
  shorter-same : (r : Record) → (shorter r ≡ r) ⊎ Before (shorter r) r
  shorter-same r =
      ⊎_elim
      (λ a.
      ⊎_elim
      (λ b. inl (same-record r.kind r.entry (shortened last r.off0) (shortened last r.off1) refl refl a b))
      (λ l. inr (inr (refl, inr (refl, inr (a, l)))))
      (shortened-sooner last r.off1))
      (λ l. inr (inr (refl, inr (refl, inl l))))
      (shortened-sooner last r.off0)

  -- ---- the records within the reach in use

  within-passes : choose_refusal C ≡ 0 → (r : Record) → Within C r → Hold (offset_checks (length C.table) r.off0 r.off1)
  within-passes none r h =
      let a = accepted C none in
      let some = ltb-true 0 (length C.table) (table-some C.table a.sound) in
      let p = offset-passes C.reach (length C.table) r.off0 a.near some h.off0_in in
      let q = offset-passes C.reach (length C.table) r.off1 a.near some h.off1_in in
      (rw (p.0, q.0), (rw (p.1, q.1), tt))

  -- ---- the least within a reach R, and within the lesser of R and the last place

  module _ {R used : ℕ} (e : used ≡ min R last) where
    -- a record within R is brought within the lesser, and one within the lesser is within R
    shorter-in : {r : Record} → WithinReach R C r → WithinReach used C (shorter r)
    shorter-in {r} h =
        record {
          pattern_in = h.pattern_in;
          off0_in = rw e (shortened-in R last r.off0 h.off0_in);
          off1_in = rw e (shortened-in R last r.off1 h.off1_in);
        }

    wider-in : {r : Record} → WithinReach used C r → WithinReach R C r
    wider-in h = record { pattern_in = h.pattern_in; off0_in = omega (arith, h.off0_in); off1_in = omega (arith, h.off1_in) }

    -- the least within the lesser is the least within R: each record within R has a shorter one at the same cost
    wider : {r : Record} {cost : ℕ} → LeastWithin used C r cost → LeastWithin R C r cost
    wider {r} x =
        record {
          within = wider-in x.within;
          its_cost = x.its_cost;
          least = λ s h. omega (arith, shorter-cost s, x.least (shorter s) (shorter-in h));
          first = λ s h b. omega (arith, shorter-cost s, x.first (shorter s) (shorter-in h) (shorter-before s r b));
        }

    -- and the other way round: the least within R is no longer than its shorter one, which would come first at the same cost
    narrower : {r : Record} {cost : ℕ} → LeastWithin R C r cost → LeastWithin used C r cost
    narrower {r} x =
        let short = shorter-in x.within in
        record {
          within =
              ⊎_elim
              (λ q. subst (WithinReach used C) q short)
              (λ b. absurd (omega (arith, x.its_cost, shorter-cost r, x.first (shorter r) (wider-in short) b)))
              (shorter-same r);
          its_cost = x.its_cost;
          least = λ s h. x.least s (wider-in h);
          first = λ s h b. x.first s (wider-in h) b;
        }

-- the offsets of records within the reach in use pass; what is least and first there is so within the reach as given, and nothing else is
pub reach-enough : (C : Case) → ReachEnough C
reach-enough C =
    record {
      passes = within-passes C;
      enough = λ r cost x. wider C (omega arith) x;
      only = λ r cost x. narrower C (omega arith) x;
      answered = λ h. wider C (omega arith) (chosen-least C (accepted C h).some);
    }
