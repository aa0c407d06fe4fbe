-- Transposing (document 01: turning) a pattern and its neighbours keeps the side depths, where the runs differ from end to end by
-- unequal amounts or end on equal samples. For every n.
use Prim.Native.Nat.{ℕ, ◌+◌, ◌-◌, ◌*◌, ◌/◌, ◌<◌}
use mathlib.Core.Path.{◌≡◌, refl, sym, ap, ap₂, ◌∙◌}
use mathlib.Core.Logic.{◌⊎◌, inl, inr, ⊎_elim}
use mathlib.Core.Bool.{Bool, true, false, not, cond, or-true}
use mathlib.Core.List.{List, ◌++◌}
use native.Mathlib.Nat.{add_comm}
use native.Mathlib.Omega.{arith}
use lib.Dec.{eqb, ltb}
use lib.ListN.{length, get_or, take, drop, length-append, length-take, length-drop, take-append-drop, get_or-append}
use lib.Seq.{take_at, drop_at, get_or-drop, get_or-take, get_or-append-add}
use borrow.Author.Tests.{not-true, eq-eqb, eqb-true, ne_eqb, eqb-false, ltb-true, ltb-false}
use Rattle.arith.proofs.Bools.{either-of}
use Rattle.pattern.specs.Pattern.{mark, transposed}
use Rattle.pattern.proofs.PatternLaws.{transposed-mark}
use Rattle.prediction.specs.Sides.{left_at, top_at, left_change, top_change, differ, mean, vert_edge, hor_edge, lt_by, br_by, lt, br, side_depth}
use Rattle.prediction.specs.Transposed.{transposed_neighbours, ends_decide, EndsDecide}

-- ---- the condition on the runs

module _ (n : ℕ) (s : List ℕ) where
  abbrev Either : Type 0
  Either = (left_change n s ≡ top_change n s → ⊥) ⊎ (left_at s (2 * n - 1) ≡ top_at n s (2 * n - 1))

  ends-either : EndsDecide n s → Either
  unfolding ends_decide
  ends-either d =
      ⊎_elim
      (λ u. inl (eqb-false (left_change n s) (top_change n s) (not-true (eqb (left_change n s) (top_change n s)) u)))
      (λ e. inr (eqb-true (left_at s (2 * n - 1)) (top_at n s (2 * n - 1)) e))
      (either-of (not (eqb (left_change n s) (top_change n s))) (eqb (left_at s (2 * n - 1)) (top_at n s (2 * n - 1))) d)

  ends-decide : Either → EndsDecide n s
  unfolding ends_decide
  ends-decide =
      ⊎_elim
      (λ u. rw (ne_eqb (left_change n s) (top_change n s) u))
      (λ e. rw (eq-eqb (left_at s (2 * n - 1)) (top_at n s (2 * n - 1)) e) (or-true (not (eqb (left_change n s) (top_change n s)))))

-- ---- the neighbours

module _ (n : ℕ) (s : List ℕ) (long : length s ≡ 4 * n) where
  top-length : length (drop (2 * n) s) ≡ 2 * n
  top-length = simp length-drop (omega arith)

  pub length-transposed-neighbours : length (transposed_neighbours n s) ≡ 4 * n
  unfolding transposed_neighbours
  length-transposed-neighbours = simp (length-append, length-drop, length-take) (omega arith)

  -- the left run is the old top run
  pub transposed-left : (i : ℕ) → i < 2 * n → left_at (transposed_neighbours n s) i ≡ top_at n s i
  unfolding transposed_neighbours
  transposed-left i h =
      get_or-append (drop (2 * n) s) (take (2 * n) s) 0 i (omega (arith, top-length)) ∙ get_or-drop (2 * n) s i 0

  -- the top run is the old left run
  pub transposed-top : (i : ℕ) → i < 2 * n → top_at n (transposed_neighbours n s) i ≡ left_at s i
  unfolding transposed_neighbours
  transposed-top i h =
      ap (λ (k : ℕ). get_or (drop (2 * n) s ++ take (2 * n) s) (k + i) 0) (sym top-length)
      ∙ get_or-append-add (drop (2 * n) s) (take (2 * n) s) i 0
      ∙ get_or-take (2 * n) s i 0 h

  -- transposed twice they are the neighbours again
  pub neighbours-transposed-twice : transposed_neighbours n (transposed_neighbours n s) ≡ s
  unfolding transposed_neighbours
  neighbours-transposed-twice =
      ap₂ ◌++◌
      (drop_at (drop (2 * n) s) (take (2 * n) s) (2 * n) top-length)
      (take_at (drop (2 * n) s) (take (2 * n) s) (2 * n) top-length)
      ∙ take-append-drop (2 * n) s

  -- the condition holds of the transposed neighbours too
  pub ends-transposed : 0 < n → EndsDecide n s → EndsDecide n (transposed_neighbours n s)
  ends-transposed some d =
      let z : 0 < 2 * n = omega arith in
      let e : 2 * n - 1 < 2 * n = omega arith in
      ends-decide n (transposed_neighbours n s)
      (rw (transposed-left 0 z, transposed-left (2 * n - 1) e, transposed-top 0 z, transposed-top (2 * n - 1) e)
      (⊎_elim (λ ne. inl (λ q. ne (sym q))) (λ q. inr (sym q)) (ends-either n s d)))

-- ---- the four cases: transposing exchanges v and h

same-either : (b : Bool) (x : ℕ) → cond b x x ≡ x
same-either true x = refl
same-either false x = refl

-- of two runs the end of the one that changes more, in either order
end-exchanged : (a b x y : ℕ) → (b ≡ a → ⊥) ⊎ (x ≡ y) → cond (ltb b a) y x ≡ cond (ltb a b) x y
end-exchanged a b x y (inr e) = rw e (same-either (ltb b a) y ∙ sym (same-either (ltb a b) y))
end-exchanged a b x y (inl ne) = go (ltb b a) (ltb a b) refl refl
  where
    go : (p q : Bool) → ltb b a ≡ p → ltb a b ≡ q → cond p y x ≡ cond q x y
    go true true e f = absurd (omega (arith, ltb-true b a e, ltb-true a b f))
    go true false e f = refl
    go false true e f = refl
    go false false e f = absurd (ne (omega (arith, ltb-false b a e, ltb-false a b f)))

module _ (n : ℕ) (s : List ℕ) (some : 0 < n) (long : length s ≡ 4 * n) where
  s' : List ℕ
  s' = transposed_neighbours n s

  mean-exchanged : (i : ℕ) → i < 2 * n → mean (left_at s' i) (top_at n s' i) ≡ mean (left_at s i) (top_at n s i)
  unfolding s'
  mean-exchanged i h =
      ap (λ (x : ℕ). x / 2) (ap₂ ◌+◌ (transposed-left n s long i h) (transposed-top n s long i h) ∙ add_comm (top_at n s i) (left_at s i))

  lt-exchanged : (v h : Bool) → lt_by n s' h v ≡ lt_by n s v h
  unfolding lt_by s'
  lt-exchanged true true = mean-exchanged 0 (omega arith)
  lt-exchanged false false = mean-exchanged 0 (omega arith)
  lt-exchanged false true = transposed-left n s long ((n - 1) / 2) (omega arith)
  lt-exchanged true false = transposed-top n s long ((n - 1) / 2) (omega arith)

  br-exchanged : EndsDecide n s → (v h : Bool) → br_by n s' h v ≡ br_by n s v h
  unfolding br_by s'
  br-exchanged d true true = mean-exchanged (n - 1) (omega arith)
  br-exchanged d false false =
      let z : 0 < 2 * n = omega arith in
      let e : 2 * n - 1 < 2 * n = omega arith in
      rw (
        transposed-left n s long 0 z,
        transposed-left n s long (2 * n - 1) e,
        transposed-top n s long 0 z,
        transposed-top n s long (2 * n - 1) e,
      )
      (end-exchanged (top_change n s) (left_change n s) (left_at s (2 * n - 1)) (top_at n s (2 * n - 1)) (ends-either n s d))
  br-exchanged d false true = transposed-top n s long (n - 1) (omega arith)
  br-exchanged d true false = transposed-left n s long (n - 1) (omega arith)

-- the corners of a transposed pattern
module _ (n w : ℕ) (some : 0 < n) where
  origin-kept : mark n (transposed n w) 0 0 ≡ mark n w 0 0
  origin-kept = transposed-mark n w 0 0 some some

  vert-transposed : vert_edge n (transposed n w) ≡ hor_edge n w
  unfolding vert_edge hor_edge
  vert-transposed = ap₂ differ origin-kept (transposed-mark n w (n - 1) 0 (omega arith) some)

  hor-transposed : hor_edge n (transposed n w) ≡ vert_edge n w
  unfolding vert_edge hor_edge
  hor-transposed = ap₂ differ origin-kept (transposed-mark n w 0 (n - 1) some (omega arith))

-- ---- the laws

module _ (n w : ℕ) (s : List ℕ) (long : length s ≡ 4 * n) (d : EndsDecide n s) where
  -- the side depths stay
  pub sides-transposed :
      0 < n
      → (lt n (transposed n w) (transposed_neighbours n s) ≡ lt n w s) × (br n (transposed n w) (transposed_neighbours n s) ≡ br n w s)
  unfolding lt br s'
  sides-transposed some =
      rw (vert-transposed n w some, hor-transposed n w some) (
        lt-exchanged n s some long (vert_edge n w) (hor_edge n w),
        br-exchanged n s some long d (vert_edge n w) (hor_edge n w),
      )

  -- and so does the depth of the samples with a mark
  pub side-depth-transposed : 0 < n → (m : Bool) → side_depth n (transposed n w) (transposed_neighbours n s) m ≡ side_depth n w s m
  unfolding side_depth
  side-depth-transposed some m =
      rw (origin-kept n w some, (sides-transposed some).0, (sides-transposed some).1)
