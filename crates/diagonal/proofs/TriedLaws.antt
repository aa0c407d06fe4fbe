-- As many offsets are tried for the transposed block: a side costs the same at each offset, and the patterns are paired.
use Prim.Native.Nat.{ℕ, ◌+◌, ◌-◌, ◌*◌, ◌<◌}
use mathlib.Core.Path.{◌≡◌, refl, sym, ap, ap₂, ◌∙◌}
use mathlib.Core.Bool.{Bool, true, false, cond}
use mathlib.Core.List.{List}
use mathlib.Core.Logic.{⊎_elim}
use native.Mathlib.Omega.{arith}
use native.Mathlib.Numerals.{add-one}
use lib.Dec.{eqb, ltb}
use lib.ListN.{length, get_or}
use borrow.Author.Tests.{eq-eqb, eqb-true, ltb-true, lt-ltb, le-ltb}
use Rattle.arith.specs.Distance.{dist}
use Rattle.arith.specs.Square.{transposed_list}
use Rattle.arith.specs.Sum.{sum_to}
use Rattle.arith.proofs.Bools.{clash}
use Rattle.arith.proofs.Sums.{sum-ext, OnlyOne, sum-paired}
use Rattle.arith.proofs.SquareLaws.{transposed-across, sum-across}
use Rattle.pattern.specs.Answer.{textured}
use Rattle.pattern.specs.Contour.{contour_of}
use Rattle.pattern.specs.Pattern.{transposed}
use Rattle.pattern.proofs.ContourLaws.{contour-transposed}
use Rattle.pattern.proofs.PatternLaws.{transposed-bit, transposed-transposed}
use Rattle.wedgelet.specs.Wedgelet.{wedgelet_list}
use Rattle.wedgelet.proofs.WedgeletLaws.{list-closed, entry_lt}
use Rattle.wedgelet.proofs.AnswerLaws.{Built, built-at}
use Rattle.prediction.specs.Transposed.{EndsDecide}
use Rattle.prediction.proofs.SideTransposedLaws.{side-depth-transposed}
use Rattle.depth_table.specs.Offset.{level_of}
use Rattle.choice.specs.Case.{Case}
use Rattle.choice.specs.Cost.{belongs, side_cost}
use Rattle.choice.specs.Offset.{offset}
use Rattle.choice.specs.Search.{trial_cost, tried_at, pattern_at, tried_to, tried}
use Rattle.choice.proofs.AcceptLaws.{Accepted}
use Rattle.choice.proofs.TriedLaws.{tried-alike}
use Rattle.diagonal.specs.Law.{transposed_case}
use Rattle.diagonal.proofs.TransposedLaws.{texture-length, texture-lent}

-- what a side costs at one value
side-transposed :
    (n : ℕ) (o : List ℕ) (w : ℕ) (m : Bool) (v : ℕ) → side_cost (n * n) (transposed_list n o) (transposed n w) m v ≡ side_cost (n * n) o w m v
unfolding side_cost
side-transposed n o w m v =
    sum-ext _ _ (n * n) (λ k l. rw (transposed-bit n w k l, transposed-across n o k l))
    ∙ sum-across (λ k. cond (belongs w m k) (dist v (get_or o k 0)) 0) n

module _ (C : Case) (k : Accepted C) (built : Built C.n C.list C.count) (ends : EndsDecide C.n C.neighbours) where
  abbrev D : Case
  D = transposed_case C

  abbrev turned : ℕ → ℕ
  turned w = transposed C.n w

  -- what it costs at an offset
  trial-transposed : (w : ℕ) (m : Bool) (t : ℕ) → trial_cost D (turned w) m t ≡ trial_cost C w m t
  trial-transposed w m t =
      side-transposed C.n C.original w m _
      ∙ ap (λ (d : ℕ). side_cost (C.n * C.n) C.original w m (level_of C.table d (offset t)))
      (side-depth-transposed C.n w C.neighbours k.lengths.bordered ends (omega (arith, k.low)) m)

  -- so its trial ends at the same place
  tried-turned : (w : ℕ) → tried_at D (turned w) ≡ tried_at C w
  tried-turned w = tried-alike C D (turned w) w refl (trial-transposed w)

  -- ---- the entries

  abbrev entry : ℕ → ℕ
  entry i = get_or (wedgelet_list C.n) i 0

  abbrev pair : ℕ → ℕ → Bool
  pair i j = eqb (entry j) (turned (entry i))

  counted : (i : ℕ) → i < C.count → i < length (wedgelet_list C.n)
  counted i l = omega (arith, built.counted)

  twice : (i : ℕ) → i < C.count → turned (turned (entry i)) ≡ entry i
  twice i l = transposed-transposed C.n (entry i) (entry_lt C.n i (counted i l))

  -- one entry passes a test that tells the transposed pattern of entry i
  once :
      (i : ℕ) → i < C.count → (test : ℕ → Bool)
      → ((j : ℕ) → j < C.count → entry j ≡ turned (entry i) → test j ≡ true)
      → ((j : ℕ) → j < C.count → test j ≡ true → entry j ≡ turned (entry i)) → OnlyOne test C.count
  once i l test passed told =
      let o = list-closed C.n i (counted i l) in
      let inside : o.index < C.count = omega (arith, o.inside, built.counted) in
      record {
        place = o.index;
        inside = inside;
        passes = passed o.index inside o.there;
        only = λ j h q. o.only j (counted j h) (told j h q);
      }

  -- each entry is paired with one, and one is paired with it
  partner-of : (i : ℕ) → i < C.count → OnlyOne (λ j. pair i j) C.count
  partner-of i l = once i l (λ j. pair i j) (λ j h e. eq-eqb _ _ e) (λ j h q. eqb-true (entry j) (turned (entry i)) q)

  partner-for : (j : ℕ) → j < C.count → OnlyOne (λ i. pair i j) C.count
  partner-for j l =
      once j l (λ i. pair i j) (λ i h e. eq-eqb _ _ (sym (twice j l) ∙ ap turned (sym e)))
      (λ i h q. sym (twice i h) ∙ ap turned (sym (eqb-true (entry j) (turned (entry i)) q)))

  -- an entry in the order of patterns; the list is the same for both cases
  entry_at : (contour i : ℕ) → i < C.count → cond (ltb i C.count) (get_or C.list i 0) contour ≡ entry i
  entry_at contour i l = rw (lt-ltb i C.count l) (built-at built i l)

  entries-tried : tried_to D C.count ≡ tried_to C C.count
  entries-tried =
      sum-ext _ (λ i. tried_at D (entry i)) C.count (λ i l. ap (tried_at D) (entry_at _ i l))
      ∙ sym (sum-paired (λ i. tried_at C (entry i)) (λ j. tried_at D (entry j)) pair C.count partner-of partner-for
      (λ i j li lj q. sym (ap (tried_at D) (eqb-true (entry j) (turned (entry i)) q) ∙ tried-turned (entry i))))
      ∙ sum-ext (λ i. tried_at C (entry i)) _ C.count (λ i l. ap (tried_at C) (sym (entry_at _ i l)))

  -- ---- the contour, and all

  contour-tried : 0 < length C.texture → tried_at D (pattern_at D C.count) ≡ tried_at C (pattern_at C C.count)
  contour-tried h =
      rw (le-ltb C.count C.count (omega arith))
      (ap (tried_at D) (ap (contour_of C.n) (texture-lent C.n C.texture h) ∙ contour-transposed C.n C.texture)
      ∙ tried-turned (contour_of C.n C.texture))

  all-by : (b : Bool) → textured C.texture ≡ b → let last = cond b C.count (C.count - 1) in tried_to D (last + 1) ≡ tried_to C (last + 1)
  unfolding sum_to
  all-by true e = rw (add-one C.count) (ap₂ ◌+◌ entries-tried (contour-tried (ltb-true 0 (length C.texture) e)))
  all-by false e =
      let some : 0 < C.count = ⊎_elim (λ h. h) (λ q. clash (sym q ∙ e)) k.some in
      let whole : C.count - 1 + 1 ≡ C.count = omega arith in
      rw whole entries-tried

  pub tried-transposed : tried D ≡ tried C
  unfolding tried
  tried-transposed =
      ap (λ (j : ℕ). tried_to D (cond (ltb 0 j) C.count (C.count - 1) + 1)) (texture-length C.n C.texture k.lengths.optional)
      ∙ all-by (textured C.texture) refl
