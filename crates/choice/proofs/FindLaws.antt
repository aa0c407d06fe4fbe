-- The best offset of a part: its cost is convex in the value and the table rises, so the level next to the turn is the first least in the
-- order of offsets.
use Prim.Native.Nat.{ℕ, zero, suc, ◌+◌, ◌-◌, ◌*◌, ◌^◌, ◌≤◌, ◌<◌, min}
use mathlib.Core.Path.{◌≡◌, refl, sym, ap, subst, ◌∙◌}
use mathlib.Core.Bool.{Bool, true, false, cond, not, ◌&&◌}
use mathlib.Core.List.{List}
use mathlib.Core.Logic.{◌⊎◌, inl, inr, ⊎_elim}
use native.Mathlib.Nat.{eq-or-lt_of_le}
use native.Mathlib.Numerals.{add-one}
use native.Mathlib.Omega.{arith}
use lib.Bits.{bit_and, bit_xor, xor_lt}
use lib.Count.{ones}
use lib.ListN.{length, get_or}
use lib.Dec.{ltb}
use native.Mathlib.Decide.{dec_lt}
use borrow.Author.Tests.{lt-ltb, le-leb, lt-leb}
use Rattle.arith.specs.Bits.{bit, test_bit}
use Rattle.arith.specs.Distance.{dist}
use Rattle.arith.proofs.BitLaws.{bits-lt, bits_at}
use Rattle.arith.specs.Sum.{sum_to}
use Rattle.arith.proofs.Sums.{sum-ext, sum-add}
use Rattle.depth_table.proofs.TableLaws.{table-bytes, table-rises}
use Rattle.choice.specs.Cost.{side_cost}
use Rattle.choice.specs.Sums.{marked_sum}
use Rattle.choice.specs.Tally.{side_count, side_size, side_below}
use Rattle.choice.specs.Layers.{below_word, layer_at, Layered, Parted}
use Rattle.choice.specs.Trial.{Better, TrialOf}
use Rattle.choice.specs.Turn.{Convex, BestLevel, twice, Turn, UpTried, DownTried, offset_cost, Findable, number_to}
use Rattle.choice.proofs.LayerLaws.{xor-bit, below-count, size-count}
use Rattle.choice.proofs.TallyLaws.{cost_step, below_step, count-le}
use Rattle.choice.proofs.TurnLaws.{up_next, up-last, down-next, down-last, best-here, number_up, number-down}

-- what a partition costs is convex in the value
pub side-convex :
    (c : ℕ) (samples : List ℕ) (w : ℕ) (m : Bool)
    → Convex (side_cost c samples w m) (side_below c samples w m) (side_size c samples w m)
side-convex c samples w m =
    record {
      step = λ v. rw add-one at (cost_step c samples w m v);
      more = λ v. let e = rw add-one at (below_step c samples w m v) in omega arith;
    }

-- a partition as a part: the pattern that marks the samples that belong to it, its own marks or all others of the block
marked-or-not : (b : Bool) → cond b (not true) true ≡ not b
marked-or-not true = refl
marked-or-not false = refl

one_of : (b : Bool) → bit (not b && true) + bit (b && true) ≡ 1
one_of true = refl
one_of false = refl

either_term : (b : Bool) (x : ℕ) → cond (not b) x 0 + cond b x 0 ≡ x
either_term true x = omega arith
either_term false x = omega arith

sum_ones : (c : ℕ) → sum_to (λ _. 1) c ≡ c
unfolding sum_to
sum_ones zero = refl
sum_ones (suc c) = omega (arith, sum_ones c)

module _ (c : ℕ) (samples : List ℕ) (w : ℕ) (small : w < 2 ^ c) where
  pub part-lt : (m : Bool) → cond m w (bit_xor (below_word c samples 256) w) < 2 ^ c
  part-lt true = small
  part-lt false = xor_lt c (below_word c samples 256) w (bits-lt _ c) small

  module _ (bytes : (k : ℕ) → get_or samples k 0 < 256) where
    -- the others of the block are those that it does not mark
    part-bit : (k : ℕ) → k < c → test_bit (bit_xor (below_word c samples 256) w) k ≡ not (test_bit w k)
    part-bit k l =
        xor-bit (below_word c samples 256) w k
        ∙ ap (λ (b : Bool). cond (test_bit w k) (not b) b)
        (bits_at (λ i. ltb (get_or samples i 0) 256) c k l ∙ lt-ltb (get_or samples k 0) 256 (bytes k))
        ∙ marked-or-not (test_bit w k)

    pub part-cost :
        (m : Bool) (v : ℕ) → side_cost c samples (cond m w (bit_xor (below_word c samples 256) w)) true v ≡ side_cost c samples w m v
    unfolding side_cost
    part-cost true v = refl
    part-cost false v = sum-ext _ _ c (λ k l. ap (λ (b : Bool). cond b (dist v (get_or samples k 0)) 0) (part-bit k l))

    -- both parts have as many samples as the block
    pub sizes-whole : side_size c samples (bit_xor (below_word c samples 256) w) true + side_size c samples w true ≡ c
    unfolding side_count
    sizes-whole =
        sym (sum-add _ _ c) ∙ sum-ext _ (λ _. 1) c (λ k l. rw (part-bit k l) (one_of (test_bit w k))) ∙ sum_ones c

    -- and a sum over the one and over the other is one over all samples
    pub sums-whole : (f : ℕ → ℕ) → marked_sum f (bit_xor (below_word c samples 256) w) c + marked_sum f w c ≡ sum_to f c
    unfolding marked_sum
    sums-whole f = sym (sum-add _ _ c) ∙ sum-ext _ f c (λ k l. rw (part-bit k l) (either_term (test_bit w k) (f k)))

-- a block's samples in two parts: those that a pattern marks, and the others
module _
    (samples : List ℕ) (below sums : List (List ℕ)) (L : Layered samples below sums) (bytes : (k : ℕ) → get_or samples k 0 < 256)
    (w : ℕ) (small : w < 2 ^ length samples) {size sum : ℕ} (es : size ≡ ones w)
    (em : sum ≡ marked_sum (λ k. get_or samples k 0) w (length samples)) where
  abbrev all_sum : ℕ
  all_sum = sum_to (λ k. get_or samples k 0) (length samples)

  size_is : size ≡ side_size (length samples) samples w true
  size_is = es ∙ size-count (length samples) samples w small

  pub size-le : size ≤ length samples
  size-le = omega (arith, size_is, count-le samples w true (length samples) (λ x. true))

  pub sum_inside : sum ≤ all_sum
  sum_inside = omega (arith, em, sums-whole (length samples) samples w small bytes (λ k. get_or samples k 0))

  pub marked_part : Parted samples below sums w size sum
  marked_part = record { layers = L; small = small; its_size = size_is; its_sum = em }

  pub others_part : {part total : ℕ} → part ≡ bit_xor (layer_at below 256) w → total ≡ all_sum → Parted samples below sums part (length samples - size) (total - sum)
  others_part {part} {total} ep et =
      let e : part ≡ bit_xor (below_word (length samples) samples 256) w = ep ∙ ap (λ (x : ℕ). bit_xor x w) (L.below_at 256 (omega arith)) in
      record {
        layers = L;
        small = rw e (part-lt (length samples) samples w small false);
        its_size = rw e (omega (arith, size_is, sizes-whole (length samples) samples w small bytes));
        its_sum = rw e (omega (arith, em, et, sums-whole (length samples) samples w small bytes (λ k. get_or samples k 0)));
      }

-- the number of the offset to an index above or below
number-above : (i j : ℕ) → i ≤ j → number_to i j ≡ 2 * (j - i)
number-above i j h = rw (le-leb i j h)

number-under : (i j : ℕ) → j ≤ i → number_to i j ≡ 2 * (i - j) - 1
number-under i j h = go (dec_lt j i)
  where
    go : Dec (j < i) → number_to i j ≡ 2 * (i - j) - 1
    go (yes l) = rw (lt-leb i j l)
    go (no l) = rw (le-leb i j (omega arith)) (omega arith)

module _ (samples : List ℕ) (below sums : List (List ℕ)) (word size sum : ℕ) (q : Parted samples below sums word size sum) (table : List ℕ) (i R : ℕ) (f : Findable table i R) where
  abbrev c : ℕ
  c = length samples

  abbrev count : ℕ
  count = length table

  abbrev T : ℕ → ℕ
  T j = get_or table j 0

  abbrev under : ℕ → ℕ
  under = side_below c samples word true

  abbrev F : ℕ → ℕ
  F j = side_cost c samples word true (T j)

  abbrev lo : ℕ
  lo = i - R

  abbrev hi : ℕ
  hi = min (i + R) (count - 1)

  convex : Convex (side_cost c samples word true) under size
  convex = rw q.its_size (side-convex c samples word true)

  rising : (j k : ℕ) → j < k → k < count → T j < T k
  rising = table-rises table f.sound

  -- the count on the words
  twice-under : (plus j : ℕ) → plus ≤ 1 → twice below word table plus j ≡ 2 * under (T j + plus)
  twice-under plus j h =
      let b = table-bytes table f.sound j in
      ap (λ (x : ℕ). 2 * ones (bit_and word x)) (q.layers.below_at (T j + plus) (omega arith))
      ∙ ap (λ (x : ℕ). 2 * x) (below-count c samples word q.small (T j + plus))

  twice-after : (j : ℕ) → twice below word table 1 j ≡ 2 * under (suc (T j))
  twice-after j = twice-under 1 j (omega arith) ∙ ap (λ (x : ℕ). 2 * under x) (add-one (T j))

  twice-at : (j : ℕ) → twice below word table 0 j ≡ 2 * under (T j)
  twice-at j = twice-under 0 j (omega arith) ∙ ap (λ (x : ℕ). 2 * under x) (let e : T j + 0 ≡ T j = omega arith in e)

  -- where the two levels at the turn are next to each other as values, the farther costs less
  pub up-adjacent :
      (l to : ℕ) → twice below word table 1 i < size → Turn below word size table 1 i to l → T (l + 1) ≡ T l + 1 → F (l + 1) < F l
  up-adjacent l to d t e =
      let falls : 2 * under (suc (T l)) < size = ⊎_elim (λ q. omega (arith, twice-after l, ap (twice below word table 1) q)) (λ h. omega (arith, twice-after l)) t.falls in
      rw (e, add-one) (omega (arith, convex.step (T l)))

  pub down-adjacent :
      (l end : ℕ) → size < twice below word table 0 i → Turn below word (size + 1) table 0 end i l → T (l + 1) ≡ T l + 1 → F l < F (l + 1)
  down-adjacent l end d t e =
      let rises : size < 2 * under (T (l + 1)) = ⊎_elim (λ q. omega (arith, twice-at (l + 1), ap (twice below word table 0) q)) (λ h. omega (arith, twice-at (l + 1))) t.stays in
      rw (e, add-one) (omega (arith, convex.step (T l), rw (e, add-one) at rises))

  trial-up : {j number cost : ℕ} → BestLevel F lo hi i j → i ≤ j → number ≡ 2 * (j - i) → cost ≡ F j → TrialOf (offset_cost samples word true table i) (2 * R) number cost
  trial-up {j} b l en ec = rw (en, ec) (number_up F count i R lo hi f.inside refl refl j b l)

  trial_down : {j number cost : ℕ} → BestLevel F lo hi i j → j < i → number ≡ 2 * (i - j) - 1 → cost ≡ F j → TrialOf (offset_cost samples word true table i) (2 * R) number cost
  trial_down {j} b l en ec = rw (en, ec) (number-down F count i R lo hi f.inside refl refl j b l)

  hi-above : i ≤ hi
  hi-above = let l = f.inside in omega arith

  hi-below : hi < count
  hi-below = let l = f.inside in omega arith

  -- the trial upward: the turn l, and the better of l and l + 1
  pub up-trial :
      (l near far : ℕ) {number cost : ℕ} → twice below word table 1 i < size → Turn below word size table 1 i hi l → near ≡ F l → far ≡ F (l + 1)
      → Better (2 * (l - i)) near (2 * (l + 1 - i)) far number cost → TrialOf (offset_cost samples word true table i) (2 * R) number cost
  up-trial l near far d t en ef b =
      let falls : 2 * under (suc (T l)) < size = ⊎_elim (λ e. omega (arith, twice-after l, ap (twice below word table 1) e)) (λ h. omega (arith, twice-after l)) t.falls in
      let stop : (l + 1 ≡ hi) ⊎ (size ≤ 2 * under (suc (T (l + 1)))) = ⊎_elim (λ e. inl e) (λ h. inr (omega (arith, twice-after (l + 1)))) t.stays in
      ⊎_elim
      (λ w. trial-up (up_next (side_cost c samples word true) under size convex T count lo hi i rising (omega arith) hi-above hi-below l t.low t.high falls stop (rw (en, ef) at w.0)) (omega (arith, t.low)) w.1 (w.2 ∙ ef))
      (λ w. trial-up (up-last (side_cost c samples word true) under size convex T count lo hi i rising (omega arith) hi-above hi-below l t.low t.high falls stop (rw (en, ef) at w.0)) t.low w.1 (w.2 ∙ en))
      b

  -- the trial downward: the better of l + 1 and l
  pub down-trial :
      (l near far : ℕ) {number cost : ℕ} → size < twice below word table 0 i → Turn below word (size + 1) table 0 lo i l → near ≡ F (l + 1) → far ≡ F l
      → Better (2 * (i - (l + 1)) - 1) near (2 * (i - l) - 1) far number cost → TrialOf (offset_cost samples word true table i) (2 * R) number cost
  down-trial l near far d t en ef b =
      let rises : size < 2 * under (T (l + 1)) = ⊎_elim (λ e. omega (arith, twice-at (l + 1), ap (twice below word table 0) e)) (λ h. omega (arith, twice-at (l + 1))) t.stays in
      let stop : (l ≡ lo) ⊎ (2 * under (T l) ≤ size) = ⊎_elim (λ e. inl e) (λ h. inr (omega (arith, twice-at l))) t.falls in
      ⊎_elim
      (λ w. trial_down (down-next (side_cost c samples word true) under size convex T count lo hi i rising (omega arith) hi-above hi-below l t.low t.high stop rises (rw (en, ef) at w.0)) t.high w.1 (w.2 ∙ ef))
      (λ w.
      let best = down-last (side_cost c samples word true) under size convex T count lo hi i rising (omega arith) hi-above hi-below l t.low t.high stop rises (rw (en, ef) at w.0) in
      ⊎_elim
      (λ e. trial-up best (omega (arith, e)) (w.1 ∙ omega (arith, e)) (w.2 ∙ en))
      (λ m. trial_down best m w.1 (w.2 ∙ en))
      (eq-or-lt_of_le (let h : l + 1 ≤ i = omega (arith, t.high) in h)))
      b

  -- neither upward nor downward: the index itself
  pub here_found :
      {number cost : ℕ} → (hi ≤ i) ⊎ (size ≤ twice below word table 1 i) → (i ≤ lo) ⊎ (twice below word table 0 i ≤ size)
      → number ≡ number_to i i → cost ≡ F i → TrialOf (offset_cost samples word true table i) (2 * R) number cost
  here_found u d en ec =
      trial-up
      (best-here (side_cost c samples word true) under size convex T count lo hi i rising (omega arith) hi-above hi-below
      (⊎_elim (λ e. inl e) (λ h. inr (omega (arith, twice-after i))) u)
      (⊎_elim (λ e. inl e) (λ h. inr (omega (arith, twice-at i))) d))
      (omega arith)
      (en ∙ number-above i i (omega arith))
      ec

  -- the same from the turn and the better of the levels next to it
  pub up-found :
      {last number cost : ℕ} → last ≡ hi → twice below word table 1 i < size → UpTried samples below word size table i last number cost
      → TrialOf (offset_cost samples word true table i) (2 * R) number cost
  up-found e d t = up-trial t.l _ _ d (subst (λ (x : ℕ). Turn below word size table 1 i x t.l) e t.turned) refl refl t.better

  pub down-found :
      {end number cost : ℕ} → end ≡ lo → size < twice below word table 0 i → DownTried samples below word size table i end number cost
      → TrialOf (offset_cost samples word true table i) (2 * R) number cost
  down-found e d t = down-trial t.l _ _ d (subst (λ (x : ℕ). Turn below word (size + 1) table 0 x i t.l) e t.turned) refl refl t.better

  -- what the code finds upward: the turn, and the better of the levels next to it by the offsets that lead there
  module _ {last l : ℕ} (d : twice below word table 1 i < size) (t : Turn below word size table 1 i last l) where
    pub up-farther : l + 1 < count → dist (T (l + 1)) (T l) ≡ 1 → F (l + 1) < F l
    up-farther h e = up-adjacent l last d t (let r = rising l (l + 1) (omega arith) h in omega (arith, r, e))

    pub up-tried :
        {number cost : ℕ} → Better (number_to i l) (F l) (number_to i (l + 1)) (F (l + 1)) number cost
        → UpTried samples below word size table i last number cost
    up-tried b =
        let h = t.low in
        record { l = l; turned = t; better = rw (number-above i l h, number-above i (l + 1) (omega arith)) at b }

  -- and downward
  module _ {end l : ℕ} (d : size < twice below word table 0 i) (t : Turn below word (size + 1) table 0 end i l) where
    pub down-farther : dist (T l) (T (l + 1)) ≡ 1 → F l < F (l + 1)
    down-farther e =
        let h = t.high in
        let g = f.inside in
        down-adjacent l end d t (let r = rising l (l + 1) (omega arith) (omega arith) in omega (arith, r, e))

    pub down-tried :
        {number cost : ℕ} → Better (number_to i (l + 1)) (F (l + 1)) (number_to i l) (F l) number cost
        → DownTried samples below word size table i end number cost
    down-tried b =
        let h = t.high in
        record { l = l; turned = t; better = rw (number-under i (l + 1) (omega arith), number-under i l (omega arith)) at b }
