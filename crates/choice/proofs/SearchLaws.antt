-- What the search over the patterns relies on and keeps: every pattern can be weighed, and the first of least cost so far is held with its
-- offsets.
use Prim.Native.Nat.{ℕ, ◌+◌, ◌-◌, ◌*◌, ◌≤◌, ◌<◌}
use mathlib.Core.Path.{◌≡◌, refl, sym, ap, ap₂, subst, ◌∙◌}
use mathlib.Core.Bool.{Bool, true, false, cond}
use mathlib.Core.List.{List}
use mathlib.Core.Logic.{◌⊎◌, inl, inr, ⊎_elim}
use native.Mathlib.Decide.{dec_lt}
use native.Mathlib.Omega.{arith}
use lib.ListN.{length}
use borrow.Author.Tests.{eq-eqb, lt-ltb, le-ltb}
use native.Mathlib.Nat.{mul-le-mul}
use Rattle.arith.proofs.CheckLaws.{given-means, refused-means}
use Rattle.arith.proofs.LeastLaws.{Kept, kept-one, kept_new, kept-old, kept-all}
use Rattle.depth_table.proofs.TableLaws.{table-counts}
use Rattle.std.specs.Prelude.{Result, Ok, Err, Option, Some, None, option_map}
use Rattle.std.specs.Option.{is_some}
use Rattle.std.specs.Result.{result_ok}
use Rattle.pattern.specs.Refusal.{told, number_of}
use Rattle.pattern.specs.Words.{pattern_number}
use Rattle.pattern.specs.declared.refusals.Refusal.{Refusal}
use Rattle.pattern.specs.declared.words.Pattern.{Pattern}
use Rattle.pattern.specs.Size.{size_ok, word_ok}
use Rattle.pattern.specs.Answer.{samples_refusal, contour_answer, textured}
use Rattle.std.proofs.lemmas.Bool.{false≢true}
use Rattle.pattern.specs.Contour.{contour_of}
use Rattle.pattern.proofs.AnswerLaws.{samples-fit}
use Rattle.pattern.proofs.ContourLaws.{contour-lt}
use Rattle.prediction.proofs.SideCallLaws.{sides-pass}
use Rattle.choice.specs.Trial.{trial_over, TrialOf, tried_by}
use Rattle.choice.specs.Case.{Case, reach_in_use}
use Rattle.choice.proofs.AcceptLaws.{Accepted, words-at}
use Rattle.choice.proofs.OffsetLaws.{reach-again}
use Rattle.choice.proofs.TrialLaws.{best-told, tried-told}
use Rattle.choice.specs.Search.{contour_lent, trial_cost, best_cost, tried_at, pattern_at, last_pattern, best_pattern, tried_to, tried}
use Rattle.choice.specs.Picked.{block_case, Weighable, SidesOf, PickedOf}

-- ---- one pattern

-- a pattern's cost depends on the reach in use, and not on the other patterns
pub sides-at :
    (C : Case) (p : ℕ) {w near a b c : ℕ} → w ≡ pattern_at C p → near ≡ reach_in_use C
    → SidesOf (block_case C.n C.neighbours C.original C.table near) w a b c → SidesOf C (pattern_at C p) a b c
unfolding best_cost
sides-at C p {w} {a = a} {b = b} {c = c} e k q =
    let u = reach-again C.reach (length C.table - 1) k in
    let best : Bool → ℕ → ℕ = λ m R. (trial_over (trial_cost C w m) (2 * R)).0 in
    subst (λ (x : ℕ). SidesOf C x a b c) e
    (record {
      first = q.first ∙ ap (best false) u;
      second = q.second ∙ ap (best true) u;
      its_cost = q.its_cost ∙ ap (λ (R : ℕ). trial_cost C w false (best false R) + trial_cost C w true (best true R)) u;
    })

-- both partitions together
module _ (C : Case) (w : ℕ) {a b c d : ℕ} where
  module _ (p : TrialOf (trial_cost C w false) (2 * reach_in_use C) a c) (q : TrialOf (trial_cost C w true) (2 * reach_in_use C) b d) where
    pub both-sides : SidesOf C w a b (c + d)
    unfolding best_cost
    both-sides =
        let x = best-told p in
        let y = best-told q in
        record {
          first = x;
          second = y;
          its_cost = ap₂ ◌+◌ (p.its_cost ∙ ap (trial_cost C w false) x) (q.its_cost ∙ ap (trial_cost C w true) y);
        }

    -- and how many offsets are tried for them
    pub both-tried : {R s t : ℕ} → R ≡ reach_in_use C → s ≡ tried_by a c (2 * R) → t ≡ tried_by b d (2 * R) → s + t ≡ tried_at C w
    unfolding tried_at
    both-tried u e f =
        ap₂ ◌+◌ (e ∙ ap (λ (x : ℕ). tried_by a c (2 * x)) u ∙ tried-told p) (f ∙ ap (λ (x : ℕ). tried_by b d (2 * x)) u ∙ tried-told q)

-- ---- the contour

pub texture-judged : (n texture : ℕ) → size_ok n ≡ true → (texture ≡ 0) ⊎ (texture ≡ n * n) → (texture ≡ 0) ⊎ (samples_refusal n texture ≡ 0)
unfolding samples_refusal
texture-judged n texture ok = ⊎_elim (λ e. inl e) (λ e. inr (rw (ok, eq-eqb texture (n * n) e)))

-- what `contour` answers, as an `Option`
pub contour-or-none :
    (n : ℕ) (t : List ℕ) (r : Result Pattern Refusal) → (length t ≡ 0) ⊎ (samples_refusal n (length t) ≡ 0)
    → told pattern_number r ≡ contour_answer n t → option_map pattern_number (result_ok r) ≡ contour_lent n t
unfolding contour_answer
contour-or-none n t (Ok p) h e =
    let g = given-means (samples_refusal n (length t)) (contour_of n t) (pattern_number p) (sym e) in
    let f = samples-fit n (length t) g.0 in
    rw (lt-ltb 0 (length t) (omega (arith, f.square, mul-le-mul f.low f.low))) (ap Some (sym g.1))
contour-or-none n t (Err x) h e =
    ⊎_elim
    (λ z. rw (le-ltb 0 (length t) (omega (arith, z))) refl)
    (λ z. absurd ((refused-means (samples_refusal n (length t)) (number_of x) (contour_of n t) (sym e)).1 z))
    h

some-map : (o : Option Pattern) → is_some (option_map pattern_number o) ≡ is_some o
some-map (Some p) = refl
some-map None = refl

some-cond : (b : Bool) (x : ℕ) → is_some (cond b (Some x) None) ≡ b
some-cond true x = refl
some-cond false x = refl

-- the contour of the texture is there where texture is lent
pub lent-textured :
    (n : ℕ) (t : List ℕ) (o : Option Pattern) → option_map pattern_number o ≡ contour_lent n t → is_some o ≡ textured t
lent-textured n t o e = sym (some-map o) ∙ ap is_some e ∙ some-cond (textured t) (contour_of n t)

-- past the entries there is a pattern only where texture is lent
pub past-entries : (C : Case) → Accepted C → (p : ℕ) → p ≤ last_pattern C → C.count ≤ p → textured C.texture ≡ true
past-entries C k p l h = go (textured C.texture) refl
  where
    go : (b : Bool) → textured C.texture ≡ b → textured C.texture ≡ true
    go true e = e
    go false e =
        let low : p ≤ C.count - 1 = rw e at l in
        ⊎_elim (λ (some : 0 < C.count). absurd (omega (arith, some, low, h))) (λ t. t) k.some

-- how many patterns there are: with texture one more than entries, and without it as many, of which there is one at least
pub entries-contour : (C : Case) → textured C.texture ≡ true → C.count + 1 ≡ last_pattern C + 1
entries-contour C h = rw h

pub entries-alone : (C : Case) → Accepted C → textured C.texture ≡ false → C.count ≡ last_pattern C + 1
entries-alone C k e = ⊎_elim (λ (h : 0 < C.count). rw e (omega arith)) (λ t. absurd (false≢true (sym e ∙ t))) k.some

-- ---- every pattern of an accepted case can be weighed

module _ (C : Case) (k : Accepted C) where
  -- its marks are samples of the block
  pub pattern-inside : (p : ℕ) → Dec (p < C.count) → word_ok C.n (pattern_at C p) ≡ true
  pattern-inside p (yes l) = rw (lt-ltb p C.count l) (words-at C.n C.list C.count k.words p l)
  pattern-inside p (no l) = rw (le-ltb p C.count (omega arith)) (lt-ltb _ _ (contour-lt C.n C.texture))

  pub weighable :
      (p : ℕ) {w near : ℕ} → w ≡ pattern_at C p → near ≡ reach_in_use C → Weighable C.n w C.neighbours C.original C.table near
  weighable p {w} e u =
      record {
        sides = sides-pass C.n w C.neighbours k.size k.lengths.bordered (rw e (pattern-inside p (dec_lt p C.count)));
        square = k.lengths.square;
        sound = k.sound;
        near = omega (arith, table-counts C.table k.sound);
      }

-- ---- the loop

-- after n patterns `at` is the first of least cost, with the numbers a and b of its offsets
pub record KeptSides (C : Case) (n at a b cost : ℕ) : Type 0 where
  pub kept : Kept (λ p. best_cost C (pattern_at C p)) n at cost
  pub sides : SidesOf C (pattern_at C at) a b cost

module _ (C : Case) where
  pub sides-one : {a b c : ℕ} → SidesOf C (pattern_at C 0) a b c → KeptSides C 1 0 a b c
  sides-one p = record { kept = kept-one p.its_cost; sides = p }

  -- a turn: pattern n is taken, or passed
  pub sides-new :
      {n at a b c a' b' c' : ℕ} → KeptSides C n at a b c → SidesOf C (pattern_at C n) a' b' c' → c' < c → KeptSides C (n + 1) n a' b' c'
  sides-new {c' = c'} k p l = record { kept = kept_new c' k.kept p.its_cost l refl refl; sides = p }

  pub sides-old :
      {n at a b c a' b' c' : ℕ} → KeptSides C n at a b c → SidesOf C (pattern_at C n) a' b' c' → c ≤ c' → KeptSides C (n + 1) at a b c
  sides-old {c' = c'} k p l = record { kept = kept-old c' k.kept p.its_cost l refl refl; sides = k.sides }

  pub sides_all : {m at a b c t : ℕ} → KeptSides C m at a b c → t ≡ tried_to C m → m ≡ last_pattern C + 1 → PickedOf C at a b c t
  unfolding best_pattern tried
  sides_all k q e = record { best = kept-all (last_pattern C) k.kept e; sides = k.sides; counted = q ∙ ap (tried_to C) e }
