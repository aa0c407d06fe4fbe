-- A cost that changes from one value to the next by twice the samples below less all of them falls and then rises, and so it does along a
-- rising table: the level that is best is next to the turn, and it is the first least in the order of offsets.
use Prim.Native.Nat.{ℕ, zero, suc, ◌+◌, ◌-◌, ◌*◌, ◌≤◌, ◌<◌, min}
use mathlib.Core.Path.{◌≡◌, sym, ap, ◌∙◌}
use mathlib.Core.Logic.{◌⊎◌, inl, inr, ⊎_elim}
use native.Mathlib.Decide.{dec_le}
use native.Mathlib.Nat.{eq-or-lt_of_le}
use native.Mathlib.Omega.{arith}
use lib.IntN.{ℤ, pos, negsuc}
use Rattle.arith.specs.Distance.{clamped}
use Rattle.arith.proofs.LeastLaws.{last-or-below, first-least_to}
use Rattle.choice.specs.Offset.{trial, offset}
use Rattle.choice.specs.Trial.{TrialOf}
use Rattle.choice.specs.Turn.{Convex, BestLevel}
use Rattle.choice.proofs.OffsetLaws.{offset-trial, trial-offset}

upto-or-past : (l k : ℕ) → (k ≤ l) ⊎ (l + 1 ≤ k)
upto-or-past l k = go (dec_le k l)
  where
    go : Dec (k ≤ l) → (k ≤ l) ⊎ (l + 1 ≤ k)
    go (yes h) = inl h
    go (no h) = inr (omega arith)

module _ (cost below : ℕ → ℕ) (size : ℕ) (x : Convex cost below size) where
  pub below-mono : (u v : ℕ) → u ≤ v → below u ≤ below v
  below-mono u zero h = let e : u ≡ 0 = omega arith in rw e (omega arith)
  below-mono u (suc v) h =
      ⊎_elim (λ e. rw e (omega arith)) (λ l. omega (arith, below-mono u v (omega arith), x.more v)) (eq-or-lt_of_le h)

  pub falls : (u v : ℕ) → u < v → 2 * below v < size → cost v < cost u
  falls u zero h l = absurd (omega arith)
  falls u (suc v) h l =
      ⊎_elim (λ e. rw e (omega (arith, x.step v))) (λ m. omega (arith, x.step v, falls u v m (omega (arith, x.more v)))) (last-or-below h)

  pub falls-weak : (u v : ℕ) → u ≤ v → 2 * below v ≤ size → cost v ≤ cost u
  falls-weak u zero h l = let e : u ≡ 0 = omega arith in rw e (omega arith)
  falls-weak u (suc v) h l =
      ⊎_elim (λ e. rw e (omega arith)) (λ m. omega (arith, x.step v, falls-weak u v (omega arith) (omega (arith, x.more v)))) (eq-or-lt_of_le h)

  pub rises : (u v : ℕ) → u < v → size < 2 * below (suc u) → cost u < cost v
  rises u zero h l = absurd (omega arith)
  rises u (suc v) h l =
      let m = below-mono (suc u) (suc v) (omega arith) in
      ⊎_elim (λ e. rw e (omega (arith, x.step v, rw e at m, rw e at l))) (λ b. omega (arith, x.step v, rises u v b l)) (last-or-below h)

  pub rises-weak : (u v : ℕ) → u ≤ v → size ≤ 2 * below (suc u) → cost u ≤ cost v
  rises-weak u zero h l = let e : u ≡ 0 = omega arith in rw e (omega arith)
  rises-weak u (suc v) h l =
      ⊎_elim (λ e. rw e (omega arith))
      (λ b. omega (arith, x.step v, below-mono (suc u) (suc v) (omega arith), rises-weak u v (omega arith) l))
      (eq-or-lt_of_le h)

  -- ---- along a table that rises

  module _ (T : ℕ → ℕ) (count lo hi i : ℕ) (rising : (j k : ℕ) → j < k → k < count → T j < T k) (hl : lo ≤ i) (hh : i ≤ hi) (hc : hi < count) where
    abbrev F : ℕ → ℕ
    F j = cost (T j)

    module _ (l : ℕ) (bl : i ≤ l) (bh : l < hi) (down : 2 * below (suc (T l)) < size) (stop : (l + 1 ≡ hi) ⊎ (size ≤ 2 * below (suc (T (l + 1))))) where
      before : (k : ℕ) → k < l → F l < F k
      before k h = falls (T k) (T l) (rising k l h (omega arith)) (omega (arith, x.more (T l)))

      until : (k : ℕ) → k ≤ l → F l ≤ F k
      until k h = ⊎_elim (λ e. rw e (omega arith)) (λ b. omega (arith, before k b)) (eq-or-lt_of_le h)

      after : (k : ℕ) → l + 1 ≤ k → k ≤ hi → F (l + 1) ≤ F k
      after k h m =
          ⊎_elim (λ e. rw (← e) (omega arith))
          (λ b. ⊎_elim (λ e. absurd (omega arith)) (λ s. rises-weak (T (l + 1)) (T k) (let r = rising (l + 1) k b (omega arith) in omega arith) s) stop)
          (eq-or-lt_of_le h)

      pub up_next : F (l + 1) < F l → BestLevel F lo hi i (l + 1)
      up_next t =
          record {
            low = omega arith;
            high = omega arith;
            least = λ k a b. ⊎_elim (λ m. omega (arith, until k m)) (λ m. after k m b) (upto-or-past l k);
            above = λ g k a b. omega (arith, until k (omega arith));
            under = λ g k a b. absurd (omega arith);
          }

      pub up-last : F l ≤ F (l + 1) → BestLevel F lo hi i l
      up-last t =
          record {
            low = omega arith;
            high = omega arith;
            least = λ k a b. ⊎_elim (λ m. until k m) (λ m. omega (arith, after k m b)) (upto-or-past l k);
            above = λ g k a b. before k b;
            under = λ g k a b. absurd (omega arith);
          }

    module _ (l : ℕ) (bl : lo ≤ l) (bh : l < i) (stop : (l ≡ lo) ⊎ (2 * below (T l) ≤ size)) (up : size < 2 * below (T (l + 1))) where
      beyond : (k : ℕ) → l + 1 < k → k ≤ hi → F (l + 1) < F k
      beyond k h m = rises (T (l + 1)) (T k) (rising (l + 1) k h (omega arith)) (omega (arith, x.more (T (l + 1))))

      from : (k : ℕ) → l + 1 ≤ k → k ≤ hi → F (l + 1) ≤ F k
      from k h m = ⊎_elim (λ e. rw (← e) (omega arith)) (λ b. omega (arith, beyond k b m)) (eq-or-lt_of_le h)

      under-turn : (k : ℕ) → lo ≤ k → k ≤ l → F l ≤ F k
      under-turn k m h =
          ⊎_elim (λ e. rw e (omega arith))
          (λ b. ⊎_elim (λ e. absurd (omega arith)) (λ s. falls-weak (T k) (T l) (let r = rising k l b (omega arith) in omega arith) s) stop)
          (eq-or-lt_of_le h)

      pub down-next : F l < F (l + 1) → BestLevel F lo hi i l
      down-next t =
          record {
            low = omega arith;
            high = omega arith;
            least = λ k a b. ⊎_elim (λ m. under-turn k a m) (λ m. omega (arith, from k m b)) (upto-or-past l k);
            above = λ g k a b. absurd (omega arith);
            under = λ g k a b. omega (arith, from k (omega arith) b);
          }

      pub down-last : F (l + 1) ≤ F l → BestLevel F lo hi i (l + 1)
      down-last t =
          record {
            low = omega arith;
            high = omega arith;
            least = λ k a b. ⊎_elim (λ m. omega (arith, under-turn k a m)) (λ m. from k m b) (upto-or-past l k);
            above = λ g k a b. absurd (omega arith);
            under = λ g k a b. beyond k a b;
          }

    -- where the cost does not fall to either hand, the index itself is best
    pub best-here : (hi ≤ i) ⊎ (size ≤ 2 * below (suc (T i))) → (i ≤ lo) ⊎ (2 * below (T i) ≤ size) → BestLevel F lo hi i i
    best-here up down =
        record {
          low = hl;
          high = hh;
          least = λ k a b. ⊎_elim (λ m. left k a m) (λ m. right k m b) (upto-or-past i k);
          above = λ g k a b. absurd (omega arith);
          under = λ g k a b. absurd (omega arith);
        }
      where
        right : (k : ℕ) → i + 1 ≤ k → k ≤ hi → F i ≤ F k
        right k m b =
            ⊎_elim (λ e. absurd (omega arith)) (λ s. rises-weak (T i) (T k) (let r = rising i k (omega arith) (omega arith) in omega arith) s) up

        left : (k : ℕ) → lo ≤ k → k ≤ i → F i ≤ F k
        left k a m =
            ⊎_elim (λ e. rw e (omega arith))
            (λ b. ⊎_elim (λ e. absurd (omega arith)) (λ s. falls-weak (T k) (T i) (let r = rising k i b (omega arith) in omega arith) s) down)
            (eq-or-lt_of_le m)

-- ---- the order of offsets

steps_back : (i j : ℕ) → j < i → i - suc (i - suc j) ≡ j
steps_back i j h = omega arith

pub over-down : (count i j : ℕ) (o : ℤ) → i < count → j < i → trial o < 2 * (i - j) - 1 → j < clamped count i o
unfolding clamped
over-down count i j (pos k) q g h = omega arith
over-down count i j (negsuc k) q g h = let l : suc k < i - j = omega arith in omega arith

module _ (F : ℕ → ℕ) (count i R lo hi : ℕ) (hi-in : i < count) (elo : lo ≡ i - R) (ehi : hi ≡ min (i + R) (count - 1)) where
  -- the level of an offset in reach
  in-low : (o : ℤ) → trial o ≤ 2 * R → lo ≤ clamped count i o
  unfolding clamped
  in-low (pos k) h = omega arith
  in-low (negsuc k) h = omega arith

  in-high : (o : ℤ) → trial o ≤ 2 * R → clamped count i o ≤ hi
  unfolding clamped
  in-high (pos k) h = omega arith
  in-high (negsuc k) h = omega arith

  under_up : (j : ℕ) (o : ℤ) → i < j → trial o < 2 * (j - i) → clamped count i o < j
  unfolding clamped
  under_up j (pos k) g h = omega arith
  under_up j (negsuc k) g h = omega arith

  level-up : (k : ℕ) → i + k ≤ hi → clamped count i (pos k) ≡ i + k
  unfolding clamped
  level-up k h = omega arith

  level-down : (k : ℕ) → suc k ≤ i → clamped count i (negsuc k) ≡ i - suc k
  unfolding clamped
  level-down k h = omega arith

  abbrev f : ℕ → ℕ
  f t = F (clamped count i (offset t))

  trial-le : (t : ℕ) → t < suc (2 * R) → trial (offset t) ≤ 2 * R
  trial-le t h = omega (arith, trial-offset t)

  module _ (j : ℕ) (b : BestLevel F lo hi i j) where
    least_by : (t : ℕ) → t < suc (2 * R) → F j ≤ f t
    least_by t h = b.least (clamped count i (offset t)) (in-low (offset t) (trial-le t h)) (in-high (offset t) (trial-le t h))

    -- the number of the offset by which the level is reached
    pub number_up : i ≤ j → TrialOf f (2 * R) (2 * (j - i)) (F j)
    number_up g =
        let e : f (2 * (j - i)) ≡ F j = ap (λ (o : ℤ). F (clamped count i o)) (offset-trial (pos (j - i))) ∙ ap F (level-up (j - i) (omega (arith, b.high)) ∙ omega arith) in
        record {
          at_least = first-least_to f (record {
            within = omega (arith, b.high);
            least = λ t h. rw e (least_by t h);
            first = λ t h. rw e (go t h);
          });
          its_cost = sym e;
        }
      where
        go : (t : ℕ) → t < 2 * (j - i) → F j < f t
        go t h =
            let p = b.high in
            b.above (omega arith) (clamped count i (offset t)) (in-low (offset t) (trial-le t (omega arith)))
            (under_up j (offset t) (omega arith) (omega (arith, trial-offset t)))

    pub number-down : j < i → TrialOf f (2 * R) (2 * (i - j) - 1) (F j)
    number-down g =
        let k = i - suc j in
        let n : 2 * (i - j) - 1 ≡ trial (negsuc (i - suc j)) = omega arith in
        let e : f (2 * (i - j) - 1) ≡ F j = ap (λ (t : ℕ). f t) n ∙ ap (λ (o : ℤ). F (clamped count i o)) (offset-trial (negsuc (i - suc j))) ∙ ap F (level-down (i - suc j) (omega arith) ∙ steps_back i j g) in
        record {
          at_least = first-least_to f (record {
            within = omega (arith, b.low);
            least = λ t h. rw e (least_by t h);
            first = λ t h. rw e (go t h);
          });
          its_cost = sym e;
        }
      where
        go : (t : ℕ) → t < 2 * (i - j) - 1 → F j < f t
        go t h =
            let p = b.low in
            b.under g (clamped count i (offset t)) (over-down count i j (offset t) hi-in g (omega (arith, trial-offset t)))
            (in-high (offset t) (trial-le t (omega arith)))
