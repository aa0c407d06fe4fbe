-- The best offset by number, and the trial in the order of offsets that ends where one costs 0.
use Prim.Native.Nat.{ℕ, zero, suc, ◌+◌, ◌≤◌, ◌<◌}
use mathlib.Core.Path.{◌≡◌, refl, sym, ap, subst, ◌∙◌}
use mathlib.Core.Bool.{Bool, true, false, cond}
use mathlib.Core.Logic.{inl, inr, ⊎_elim}
use native.Mathlib.Omega.{arith}
use native.Mathlib.Nat.{add-zero, zero-add, add-suc, suc-add}
use lib.Dec.{eqb}
use borrow.Author.Tests.{eqb-true, eqb-false}
use Rattle.arith.specs.Least.{First, least_to}
use Rattle.arith.proofs.LeastLaws.{last-or-below, least_to-first, first-least_to, first-same}
use Rattle.choice.specs.Trial.{trial_from, trial_over, Tried, tried_by, TrialOf}

trial-first : {f : ℕ → ℕ} {N at cost : ℕ} → TrialOf f N at cost → First f (suc N) at
trial-first {f} {N} p = subst (First f (suc N)) (sym p.at_least) (least_to-first f N)

-- its number is one of 0 .. N
pub trial-low : {f : ℕ → ℕ} {N at cost : ℕ} → TrialOf f N at cost → at ≤ N
trial-low p = omega (arith, (trial-first p).within)

-- the best by one function is the best by another that agrees
pub trial-of-same : {f g : ℕ → ℕ} {N at cost : ℕ} → ((t : ℕ) → f t ≡ g t) → TrialOf f N at cost → TrialOf g N at cost
trial-of-same {f} {g} {N} {at} e p =
    record { at_least = first-least_to g (first-same (λ k l. e k) (trial-first p)); its_cost = p.its_cost ∙ e at }

-- ---- the trial that ends where an offset costs 0

module _ (f : ℕ → ℕ) where
  -- what costs 0 stays the first least, however many come after it
  free_stays : (t k : ℕ) → f (least_to f t) ≡ 0 → least_to f t ≡ least_to f (t + k)
  free_stays t k e =
      let p = least_to-first f t in
      first-least_to f (record { within = omega (arith, p.within); least = λ j l. omega (arith, e); first = p.first })

  -- after the numbers 0 .. t, with k still to come: the best of all is found
  best-from : (t k : ℕ) → (trial_from f (least_to f t) (suc t) k).0 ≡ least_to f (t + k)
  unfolding trial_from least_to
  best-from t zero = ap (least_to f) (sym (add-zero t))
  best-from t (suc k) = go (eqb (f (least_to f t)) 0) refl (best-from (suc t) k)
    where
      go :
          (b : Bool) → eqb (f (least_to f t)) 0 ≡ b → (trial_from f (least_to f (suc t)) (suc (suc t)) k).0 ≡ least_to f (suc t + k)
          → (cond b (least_to f t, suc t) (trial_from f (least_to f (suc t)) (suc (suc t)) k)).0 ≡ least_to f (t + suc k)
      go true e more = free_stays t (suc k) (eqb-true (f (least_to f t)) 0 e)
      go false e more = more ∙ ap (least_to f) (suc-add t k ∙ sym (add-suc t k))

  -- where nothing before t costs 0, a least cost of 0 is that of t
  free-here : (t : ℕ) → ((j : ℕ) → j < t → 0 < f j) → f (least_to f t) ≡ 0 → f t ≡ 0
  free-here t before e =
      let p = least_to-first f t in
      ⊎_elim (λ q. ap f (sym q) ∙ e) (λ l. absurd (omega (arith, before (least_to f t) l))) (last-or-below p.within)

  ends_at : (t N : ℕ) → ((j : ℕ) → j < t → 0 < f j) → t ≤ N → f t ≡ 0 → Tried f N (suc t)
  ends_at t N before h e = inl (record { last = t; place = omega arith; inside = h; free = e; none_before = before })

  -- none of 0 .. t costs 0
  none-to : (t : ℕ) → (f (least_to f t) ≡ 0 → ⊥) → (j : ℕ) → j < suc t → 0 < f j
  none-to t e j l =
      let p = least_to-first f t in
      let some : 0 < f (least_to f t) = omega arith in
      omega (arith, p.least j l, some)

  -- and the trial ends where an offset costs 0 for the first time
  tried-from : (t k : ℕ) → ((j : ℕ) → j < t → 0 < f j) → Tried f (t + k) (trial_from f (least_to f t) (suc t) k).1
  unfolding trial_from least_to
  tried-from t zero before = go (eqb (f (least_to f t)) 0) refl
    where
      go : (b : Bool) → eqb (f (least_to f t)) 0 ≡ b → Tried f (t + 0) (suc t)
      go true e = ends_at t (t + 0) before (omega arith) (free-here t before (eqb-true (f (least_to f t)) 0 e))
      go false e = inr (record { place = omega arith; none = λ j l. none-to t (eqb-false (f (least_to f t)) 0 e) j (omega arith) })
  tried-from t (suc k) before = go (eqb (f (least_to f t)) 0) refl (tried-from (suc t) k)
    where
      go :
          (b : Bool) → eqb (f (least_to f t)) 0 ≡ b
          → (((j : ℕ) → j < suc t → 0 < f j) → Tried f (suc t + k) (trial_from f (least_to f (suc t)) (suc (suc t)) k).1)
          → Tried f (t + suc k) (cond b (least_to f t, suc t) (trial_from f (least_to f (suc t)) (suc (suc t)) k)).1
      go true e more = ends_at t (t + suc k) before (omega arith) (free-here t before (eqb-true (f (least_to f t)) 0 e))
      go false e more =
          subst (λ (N : ℕ). Tried f N (trial_from f (least_to f (suc t)) (suc (suc t)) k).1) (suc-add t k ∙ sym (add-suc t k))
          (more (none-to t (eqb-false (f (least_to f t)) 0 e)))

  module _ (N : ℕ) where
    -- the trial that ends sooner finds what the whole one does
    pub trial-least : (trial_over f N).0 ≡ least_to f N
    unfolding least_to
    trial-least = best-from 0 N ∙ ap (least_to f) (zero-add N)

    -- which is the first of least cost
    pub trial-best : First f (suc N) (trial_over f N).0
    trial-best = subst (First f (suc N)) (sym trial-least) (least_to-first f N)

    -- the number that it tries is the place of the first offset that costs 0, or of the last where none does
    pub trial-tried : Tried f N (trial_over f N).1
    unfolding least_to
    trial-tried = subst (λ (k : ℕ). Tried f k (trial_over f N).1) (zero-add N) (tried-from 0 N (λ j l. omega arith))

    -- there is only one such place
    pub tried-one : {a b : ℕ} → Tried f N a → Tried f N b → a ≡ b
    tried-one {a} {b} (inl p) (inl q) =
        let x : p.last < q.last → ⊥ = λ l. omega (arith, q.none_before p.last l, p.free) in
        let y : q.last < p.last → ⊥ = λ l. omega (arith, p.none_before q.last l, q.free) in
        omega (arith, p.place, q.place)
    tried-one (inl p) (inr q) = absurd (omega (arith, p.free, q.none p.last p.inside))
    tried-one (inr p) (inl q) = absurd (omega (arith, q.free, p.none q.last q.inside))
    tried-one (inr p) (inr q) = p.place ∙ sym q.place

    -- it is at most that of the last
    pub tried-most : {a : ℕ} → Tried f N a → a ≤ N + 1
    tried-most {a} (inl p) = omega (arith, p.place, p.inside)
    tried-most {a} (inr p) = omega (arith, p.place)

-- the first number of least cost tells the place
pub tried-by : {f : ℕ → ℕ} {N number cost : ℕ} → TrialOf f N number cost → Tried f N (tried_by number cost N)
tried-by {f} {N} {number} {cost} p = go (eqb cost 0) refl
  where
    first : First f (suc N) number
    first = trial-first p

    go : (b : Bool) → eqb cost 0 ≡ b → Tried f N (cond b (number + 1) (N + 1))
    go true e =
        let z = eqb-true cost 0 e in
        inl (record {
          last = number;
          place = refl;
          inside = omega (arith, first.within);
          free = sym p.its_cost ∙ z;
          none_before = λ t l. omega (arith, first.first t l);
        })
    go false e =
        let z = eqb-false cost 0 e in
        inr (record { place = refl; none = λ t l. omega (arith, first.least t (omega arith), p.its_cost, z) })

-- so a search that does not try offset by offset can answer what the trial finds, and how many it tries
pub best-told : {f : ℕ → ℕ} {N number cost : ℕ} → TrialOf f N number cost → number ≡ (trial_over f N).0
best-told {f} {N} p = p.at_least ∙ sym (trial-least f N)

pub tried-told : {f : ℕ → ℕ} {N number cost : ℕ} → TrialOf f N number cost → tried_by number cost N ≡ (trial_over f N).1
tried-told {f} {N} p = tried-one f N (tried-by p) (trial-tried f N)
