-- How many offsets are tried: by places, for one pattern, and at most.
use Prim.Native.Nat.{ℕ, ◌+◌, ◌-◌, ◌*◌, ◌≤◌, ◌<◌}
use mathlib.Core.Path.{◌≡◌, refl, ap, ap₂, ◌∙◌}
use mathlib.Core.Bool.{Bool, true, false}
use mathlib.Core.Logic.{inl}
use native.Mathlib.Omega.{arith}
use native.Mathlib.Numerals.{add-one}
use lib.ListN.{length}
use Rattle.arith.specs.Sum.{sum_to}
use Rattle.arith.proofs.Sums.{sum-ext, sum-le, sum-none}
use Rattle.choice.specs.Case.{Case, reach_in_use}
use Rattle.choice.specs.Cost.{belongs, side_cost}
use Rattle.choice.specs.Search.{trial_cost, tried_for, tried_at, pattern_at, last_pattern, tried_to, tried, TriedInAll}
use Rattle.choice.specs.Picked.{block_case}
use Rattle.choice.specs.Trial.{trial_over}
use Rattle.choice.proofs.OffsetLaws.{reach-again}
use Rattle.choice.proofs.TrialLaws.{trial-tried, tried-one, tried-most}

module _ (C : Case) where
  -- what is tried is the sum of the places at which the trials end
  pub tried-in-all : TriedInAll C (tried C)
  unfolding tried tried_at
  tried-in-all =
      record {
        places = λ p m. tried_for C (pattern_at C p) m;
        each = λ p m. trial-tried (trial_cost C (pattern_at C p) m) (2 * reach_in_use C);
        added = refl;
      }

  -- and no other number is
  pub tried-only : {count : ℕ} → TriedInAll C count → count ≡ tried C
  unfolding tried tried_at
  tried-only {count} q =
      let here : (p : ℕ) (m : Bool) → q.places p m ≡ tried_for C (pattern_at C p) m =
      λ p m. tried-one (trial_cost C (pattern_at C p) m) (2 * reach_in_use C) (q.each p m) (trial-tried (trial_cost C (pattern_at C p) m) (2 * reach_in_use C)) in
      q.added ∙ sum-ext _ _ (last_pattern C + 1) (λ p l. ap₂ ◌+◌ (here p false) (here p true))

  -- a partition without samples costs 0 at the first offset, and its trial ends there
  pub tried-empty :
      (w : ℕ) (m : Bool) → ((k : ℕ) → k < C.n * C.n → belongs w m k ≡ false) → tried_for C w m ≡ 1
  unfolding side_cost
  tried-empty w m none =
      let f = trial_cost C w m in
      let free : f 0 ≡ 0 = sum-ext _ (λ _. 0) (C.n * C.n) (λ k l. rw (none k l)) ∙ sum-none (C.n * C.n) in
      tried-one f (2 * reach_in_use C) (trial-tried f (2 * reach_in_use C))
      (inl (record { last = 0; place = refl; inside = omega arith; free = free; none_before = λ t l. omega arith }))

  -- of a pattern: it depends on the reach in use, and not on the other patterns
  pub tried_here :
      (p : ℕ) {w near count : ℕ} → w ≡ pattern_at C p → near ≡ reach_in_use C
      → count ≡ tried_at (block_case C.n C.neighbours C.original C.table near) w → count ≡ tried_at C (pattern_at C p)
  unfolding tried_at
  tried_here p {w} e k q =
      let side : Bool → ℕ → ℕ = λ m R. (trial_over (trial_cost C w m) (2 * R)).1 in
      q ∙ ap (λ (R : ℕ). side false R + side true R) (reach-again C.reach (length C.table - 1) k) ∙ ap (tried_at C) e

  -- before the first pattern, and one more
  pub tried-none : 0 ≡ tried_to C 0
  unfolding sum_to
  tried-none = refl

  pub tried-more : (k : ℕ) {a b : ℕ} → a ≡ tried_to C k → b ≡ tried_at C (pattern_at C k) → a + b ≡ tried_to C (k + 1)
  unfolding sum_to
  tried-more k e q = rw (add-one k, e, q)

  -- the first pattern alone
  pub tried-first : {b : ℕ} → b ≡ tried_at C (pattern_at C 0) → b ≡ tried_to C 1
  tried-first {b = b} e = (let z : b ≡ 0 + b = omega arith in z) ∙ tried-more 0 tried-none e

  module _ (near : C.reach ≤ 255) where
    side-few : (w : ℕ) (m : Bool) → tried_for C w m ≤ 511
    side-few w m = omega (arith, tried-most (trial_cost C w m) (2 * reach_in_use C) (trial-tried (trial_cost C w m) (2 * reach_in_use C)))

    -- at most 511 a partition
    pub tried-few : (w : ℕ) → tried_at C w ≤ 1022
    unfolding tried_at
    tried-few w = omega (arith, side-few w false, side-few w true)

    pub tried-all-few : (k : ℕ) → tried_to C k ≤ k * 1022
    tried-all-few k = sum-le (λ p. tried_at C (pattern_at C p)) 1022 k (λ p l. tried-few (pattern_at C p))

-- in two cases with one reach in use, patterns whose partitions cost the same at each offset have as many tried
pub tried-alike :
    (C D : Case) (v w : ℕ) → reach_in_use D ≡ reach_in_use C → ((m : Bool) (t : ℕ) → trial_cost D v m t ≡ trial_cost C w m t)
    → tried_at D v ≡ tried_at C w
unfolding tried_at
tried-alike C D v w near same =
    let side : (m : Bool) → tried_for D v m ≡ tried_for C w m = λ m i. (trial_over (λ t. same m t i) (2 * near i)).1 in
    ap₂ ◌+◌ (side false) (side true)
