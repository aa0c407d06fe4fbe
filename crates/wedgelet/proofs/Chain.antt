-- Entries by a key: from each entry to the last one before it with the same key.
use Prim.Native.Nat.{ℕ, ◌+◌, ◌≤◌, ◌<◌}
use mathlib.Core.List.{List}
use mathlib.Core.Logic.{◌⊎◌, ⊎_elim}
use mathlib.Core.Path.{◌≡◌, sym, ap, ◌∙◌}
use native.Mathlib.Decide.{ℕ_discrete}
use native.Mathlib.Nat.{eq-or-lt_of_le}
use native.Mathlib.Omega.{arith}
use Rattle.std.proofs.Common.{Option, None, Some}
use lib.Count.{ones}
use lib.ListN.{length, get_or, set, replicate, length-set, length-replicate, get_or-replicate}
use lib.Seq.{get_or-set_same, get_or-set_other}
use Rattle.pattern.specs.Size.{greatest_samples}
use Rattle.wedgelet.specs.Answer.{most_patterns}

-- the place after an entry; 0 where there is none
abbrev pub past : Option ℕ → ℕ
past None = 0
past (Some k) = k + 1

-- `at` is the place after the last of the places below `limit` where g has m ones, 0 where there is none
pub record Last (g : ℕ → ℕ) (m limit at : ℕ) : Type 0 where
  pub within : at ≤ limit
  pub its : (j : ℕ) → at ≡ j + 1 → ones (g j) ≡ m
  pub none : (i : ℕ) → at ≤ i → i < limit → ones (g i) ≡ m → ⊥

-- the entries g 0 to g (count - 1), chained: the last entry for each number of marks, and the one before each entry
pub record Chained (g : ℕ → ℕ) (latest earlier : List (Option ℕ)) (count : ℕ) : Type 0 where
  pub keys : length latest ≡ greatest_samples + 1
  pub room : length earlier ≡ most_patterns
  pub heads : (m : ℕ) → m < greatest_samples + 1 → Last g m count (past (get_or latest m None))
  pub links : (j : ℕ) → j < count → Last g (ones (g j)) j (past (get_or earlier j None))

pub chained-none : (g : ℕ → ℕ) → Chained g (replicate (greatest_samples + 1) None) (replicate most_patterns None) 0
chained-none g =
    record {
      keys = length-replicate {A = Option ℕ} (greatest_samples + 1) None;
      room = length-replicate {A = Option ℕ} most_patterns None;
      heads = λ m h. rw (get_or-replicate {A = Option ℕ} (greatest_samples + 1) m None None h) (record { within = omega arith; its = λ j e. absurd (omega arith); none = λ i _ l. absurd (omega arith) });
      links = λ j h. absurd (omega arith);
    }

-- the same entries below the limit
last_as : {g g' : ℕ → ℕ} {m m' limit at : ℕ} → ((i : ℕ) → i < limit → g' i ≡ g i) → m ≡ m' → Last g m limit at → Last g' m' limit at
last_as {g} {g'} s e l =
    record {
      within = l.within;
      its = λ j q. ap ones (s j (omega (arith, l.within))) ∙ l.its j q ∙ e;
      none = λ i a b q. l.none i a b (ap ones (sym (s i b)) ∙ q ∙ sym e);
    }

-- one entry more, which has m ones
pub chained-add :
    {g g' : ℕ → ℕ} {latest earlier : List (Option ℕ)} {count : ℕ} (m : ℕ) → m < greatest_samples + 1 → count < most_patterns → ((i : ℕ) → i < count → g' i ≡ g i) → ones (g' count) ≡ m
    → Chained g latest earlier count → Chained g' (set latest m (Some count)) (set earlier count (get_or latest m None)) (count + 1)
chained-add {g} {g'} {latest} {earlier} {count} m hm hc s o c =
    record {
      keys = length-set latest m (Some count) ∙ c.keys;
      room = length-set earlier count (get_or latest m None) ∙ c.room;
      heads = λ k h. head k h (ℕ_discrete k m);
      links = λ j h. link j (eq-or-lt_of_le (let q : j ≤ count = omega arith in q));
    }
  where
    old : (k at : ℕ) → (k ≡ m → ⊥) → Last g k count at → Last g' k (count + 1) at
    old k at d l =
        record {
          within = omega (arith, l.within);
          its = λ j q. ap ones (s j (omega (arith, l.within))) ∙ l.its j q;
          none = λ i a b q.
              ⊎_elim
              (λ (e : i ≡ count). d (sym q ∙ ap (λ (x : ℕ). ones (g' x)) e ∙ o))
              (λ (l' : i < count). l.none i a l' (ap ones (sym (s i l')) ∙ q))
              (eq-or-lt_of_le (let z : i ≤ count = omega arith in z));
        }

    new : Last g' m (count + 1) (count + 1)
    new =
        record {
          within = omega arith;
          its = λ j q. let e : j ≡ count = omega arith in ap (λ (x : ℕ). ones (g' x)) e ∙ o;
          none = λ i a b. absurd (omega arith);
        }

    head : (k : ℕ) → k < greatest_samples + 1 → Dec (k ≡ m) → Last g' k (count + 1) (past (get_or (set latest m (Some count)) k None))
    head k h (yes e) = rw (e, get_or-set_same latest m (Some count) None (omega (arith, c.keys))) new
    head k h (no d) = rw (get_or-set_other latest m k (Some count) None d) (old k (past (get_or latest k None)) d (c.heads k h))

    link : (j : ℕ) → (j ≡ count) ⊎ (j < count) → Last g' (ones (g' j)) j (past (get_or (set earlier count (get_or latest m None)) j None))
    link j h =
        ⊎_elim
        (λ (e : j ≡ count). rw (e, get_or-set_same earlier count (get_or latest m None) None (omega (arith, c.room))) (last_as s (sym o) (c.heads m hm)))
        (λ (l : j < count).
        rw (get_or-set_other earlier count j (get_or latest m None) None (λ e. omega arith))
        (last_as (λ i q. s i (omega arith)) (ap ones (sym (s j l))) (c.links j l)))
        h

-- ---- a scan down the chain for w: the entries from k on are not w

pub record Passed (g : ℕ → ℕ) (count w k : ℕ) : Type 0 where
  pub within : k ≤ count
  pub its : (j : ℕ) → k ≡ j + 1 → ones (g j) ≡ ones w
  pub fresh : (j : ℕ) → k ≤ j → j < count → g j ≡ w → ⊥

pub passed_first : {g : ℕ → ℕ} {latest earlier : List (Option ℕ)} {count m : ℕ} (w : ℕ) → m < greatest_samples + 1 → m ≡ ones w → Chained g latest earlier count → Passed g count w (past (get_or latest m None))
passed_first {m = m} w h e c =
    let l = c.heads m h in
    record { within = l.within; its = λ j q. l.its j q ∙ e; fresh = λ j a b q. l.none j a b (ap ones q ∙ sym e) }
