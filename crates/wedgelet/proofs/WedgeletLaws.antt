-- For every n the wedgelet list has no zero word, no word twice and none that marks (0,0), and the transposed pattern of each entry
-- is exactly one entry.
use Prim.Native.Nat.{ℕ, zero, suc, ◌+◌, ◌*◌, ◌^◌, ◌≤◌, ◌<◌}
use mathlib.Core.Bool.{Bool, true, false, cond, ◌||◌, false≢true, true≢false}
use mathlib.Core.List.{List, [], ◌∷◌, ◌++◌}
use mathlib.Core.Logic.{◌⊎◌, ⊎_elim}
use mathlib.Core.Path.{◌≡◌, refl, sym, ap, ◌∙◌, subst}
use native.Mathlib.Nat.{eq-or-lt_of_le, le_of_suc-le-suc}
use native.Mathlib.Omega.{arith}
use borrow.Author.Tests.{ne_eqb, eqb-true, eqb-false}
use lib.Dec.{eqb}
use lib.ListN.{length, get_or, get_or-append}
use lib.Seq.{get_or-append_seam}
use Rattle.pattern.specs.Pattern.{mark, transposed}
use Rattle.wedgelet.specs.Wedgelet.{points, wedgelet, holds, keep, ends, starts, wedgelet_list}
use Rattle.wedgelet.specs.Laws.{Nonzero, Distinct, OriginUnmarked, TransposeClosed}
use Rattle.arith.proofs.BitLaws.{zero_bit}
use Rattle.arith.proofs.ListLaws.{length-end}
use Rattle.pattern.proofs.PatternLaws.{transposed-nonzero}
use Rattle.wedgelet.proofs.PointLaws.{across_point, across-point-lt, across-injective, wedgelet-lt, wedgelet-origin, wedgelet-transposed, first_marks}
use Rattle.wedgelet.proofs.Growth.{holds_at}

-- ---- a property of the list that each kept word keeps

keep-by : (P : List ℕ → Type 0) (l : List ℕ) (w : ℕ) (a b : Bool) → eqb w 0 ≡ a → holds l w ≡ b → P l
    → ((w ≡ 0 → ⊥) → holds l w ≡ false → P (l ++ (w ∷ []))) → P (cond (a || b) l (l ++ (w ∷ [])))
keep-by P l w true b p q h k = h
keep-by P l w false true p q h k = h
keep-by P l w false false p q h k = k (eqb-false w 0 p) q

pub keep-ind : (P : List ℕ → Type 0) (l : List ℕ) (w : ℕ) → P l → ((w ≡ 0 → ⊥) → holds l w ≡ false → P (l ++ (w ∷ []))) → P (keep l w)
unfolding keep
keep-ind P l w h k = keep-by P l w (eqb w 0) (holds l w) refl refl h k

ends_by : (P : List ℕ → Type 0) (n s e : ℕ) (l : List ℕ) (b : Bool) → eqb e s ≡ b → P l
    → ((e ≡ s → ⊥) → P (keep l (wedgelet n s e))) → P (cond b l (keep l (wedgelet n s e)))
ends_by P n s e l true p h k = h
ends_by P n s e l false p h k = k (eqb-false e s p)

-- a property of lists that each candidate's step keeps holds of the wedgelet list
module _ (P : List ℕ → Type 0) (n : ℕ)
    (step : (l : List ℕ) (s e : ℕ) → s < points n → e < points n → (e ≡ s → ⊥) → (wedgelet n s e ≡ 0 → ⊥) → holds l (wedgelet n s e) ≡ false → P l → P (l ++ (wedgelet n s e ∷ []))) where
  pub ends-ind : (l : List ℕ) (s e : ℕ) → s < points n → e ≤ points n → P l → P (ends n l s e)
  unfolding ends
  ends-ind l s zero hs he h = h
  ends-ind l s (suc e) hs he h =
      let r = ends-ind l s e hs (omega arith) h in
      ends_by P n s e (ends n l s e) (eqb e s) refl r
      (λ d. keep-ind P (ends n l s e) (wedgelet n s e) r (λ z f. step (ends n l s e) s e hs he d z f r))

  pub starts-ind : (s : ℕ) → s ≤ points n → P [] → P (starts n s)
  unfolding starts
  starts-ind zero hs h = h
  starts-ind (suc s) hs h = ends-ind (starts n s) s (points n) hs (omega arith) (starts-ind s (omega arith) h)

  pub list-ind : P [] → P (wedgelet_list n)
  unfolding wedgelet_list
  list-ind h = starts-ind (points n) (omega arith) h

-- ---- the places of a list with one word more

pub place : (l : List ℕ) (w i : ℕ) → i < length (l ++ (w ∷ [])) → (i ≡ length l) ⊎ (i < length l)
place l w i h = eq-or-lt_of_le (omega (arith, length-end l w))

pub last-at : (l : List ℕ) (w i : ℕ) → i ≡ length l → get_or (l ++ (w ∷ [])) i 0 ≡ w
last-at l w i e = ap (λ (k : ℕ). get_or (l ++ (w ∷ [])) k 0) e ∙ get_or-append_seam l w [] 0

pub old-at : (l : List ℕ) (w i : ℕ) → i < length l → get_or (l ++ (w ∷ [])) i 0 ≡ get_or l i 0
old-at l w i h = get_or-append l (w ∷ []) 0 i h

-- a word that is not in the list stands at none of its places
fresh : (l : List ℕ) (w : ℕ) → holds l w ≡ false → (i : ℕ) → i < length l → get_or l i 0 ≡ w → ⊥
fresh l w f i h e = true≢false (sym (holds_at l w i h e) ∙ f)

pub list-nonzero : (n : ℕ) → Nonzero (wedgelet_list n)
list-nonzero n =
    list-ind Nonzero n
    (λ l s e hs he d z f p i h q.
    ⊎_elim (λ a. z (sym (last-at l (wedgelet n s e) i a) ∙ q)) (λ b. p i b (sym (old-at l (wedgelet n s e) i b) ∙ q)) (place l (wedgelet n s e) i h))
    (λ i h. absurd (omega arith))

pub list-distinct : (n : ℕ) → Distinct (wedgelet_list n)
list-distinct n = list-ind Distinct n step (λ i j h. absurd (omega arith))
  where
    step :
        (l : List ℕ) (s e : ℕ) → s < points n → e < points n → (e ≡ s → ⊥) → (wedgelet n s e ≡ 0 → ⊥) → holds l (wedgelet n s e) ≡ false
        → Distinct l → Distinct (l ++ (wedgelet n s e ∷ []))
    step l s e hs he d z f p i j hi hj q =
        let w = wedgelet n s e in
        ⊎_elim
        (λ a. ⊎_elim (λ b. a ∙ sym b) (λ b. absurd (fresh l w f j b (sym (old-at l w j b) ∙ sym q ∙ last-at l w i a))) (place l w j hj))
        (λ a.
        ⊎_elim
        (λ b. absurd (fresh l w f i a (sym (old-at l w i a) ∙ q ∙ last-at l w j b)))
        (λ b. p i j a b (sym (old-at l w i a) ∙ q ∙ old-at l w j b))
        (place l w j hj))
        (place l w i hi)

-- ---- the entries are the words of the candidates

-- the word of a candidate that is not dropped as zero
pub record Candidate (n w : ℕ) : Type 0 where
  pub start : ℕ
  pub end : ℕ
  pub start_lt : start < points n
  pub end_lt : end < points n
  pub differ : end ≡ start → ⊥
  pub its : wedgelet n start end ≡ w
  pub nonzero : w ≡ 0 → ⊥

pub entry-candidate : (n i : ℕ) → i < length (wedgelet_list n) → Candidate n (get_or (wedgelet_list n) i 0)
entry-candidate n =
    list-ind (λ l. (i : ℕ) → i < length l → Candidate n (get_or l i 0)) n
    (λ l s e hs he d z f p i h.
    ⊎_elim
    (λ a. subst (Candidate n) (sym (last-at l (wedgelet n s e) i a)) (record { start = s; end = e; start_lt = hs; end_lt = he; differ = d; its = refl; nonzero = z }))
    (λ b. subst (Candidate n) (sym (old-at l (wedgelet n s e) i b)) (p i b))
    (place l (wedgelet n s e) i h))
    (λ i h. absurd (omega arith))

or_mono : (b c d : Bool) → (c ≡ true → d ≡ true) → (b || c) ≡ true → (b || d) ≡ true
or_mono true c d f h = refl
or_mono false c d f h = f h

holds-append : (l : List ℕ) (v w : ℕ) → holds l w ≡ true → holds (l ++ (v ∷ [])) w ≡ true
unfolding holds
holds-append [] v w h = absurd (false≢true h)
holds-append (a ∷ l) v w h = or_mono (eqb a w) (holds l w) (holds (l ++ (v ∷ [])) w) (holds-append l v w) h

-- what is held stays held
ends-old : (n : ℕ) (l : List ℕ) (s e w : ℕ) → s < points n → e ≤ points n → holds l w ≡ true → holds (ends n l s e) w ≡ true
ends-old n l s e w hs he h =
    ends-ind (λ k. holds k w ≡ true) n (λ k a b _ _ _ _ _ p. holds-append k (wedgelet n a b) w p) l s e hs he h

-- a word that is not zero is held after its step
keep-new : (l : List ℕ) (w : ℕ) → (w ≡ 0 → ⊥) → holds (keep l w) w ≡ true
unfolding keep
keep-new l w z = rw (ne_eqb w 0 z) (go (holds l w) refl)
  where
    go : (b : Bool) → holds l w ≡ b → holds (cond b l (l ++ (w ∷ []))) w ≡ true
    go true h = h
    go false h = holds_at (l ++ (w ∷ [])) w (length l) (omega (arith, length-end l w)) (last-at l w (length l) refl)

ends-step : (n : ℕ) (l : List ℕ) (s e w : ℕ) → (e ≡ s → ⊥) → w ≡ wedgelet n s e → (w ≡ 0 → ⊥) → holds (ends n l s (suc e)) w ≡ true
unfolding ends
ends-step n l s e w d q z =
    rw (ne_eqb e s d) (subst (λ (v : ℕ). holds (keep (ends n l s e) v) w ≡ true) q (keep-new (ends n l s e) w z))

ends-mono : (n : ℕ) (l : List ℕ) (s e w : ℕ) → holds (ends n l s e) w ≡ true → holds (ends n l s (suc e)) w ≡ true
unfolding ends
ends-mono n l s e w p =
    ends_by (λ k. holds k w ≡ true) n s e (ends n l s e) (eqb e s) refl p
    (λ _. keep-ind (λ k. holds k w ≡ true) (ends n l s e) (wedgelet n s e) p (λ _ _. holds-append (ends n l s e) (wedgelet n s e) w p))

ends-new :
    (n : ℕ) (l : List ℕ) (s i e : ℕ) → s < points n → e ≤ points n → i < e → (i ≡ s → ⊥) → (wedgelet n s i ≡ 0 → ⊥)
    → holds (ends n l s e) (wedgelet n s i) ≡ true
ends-new n l s i zero hs he h d z = absurd (omega arith)
ends-new n l s i (suc e) hs he h d z =
    ⊎_elim
    (λ q. ends-step n l s e (wedgelet n s i) (λ r. d (q ∙ r)) (ap (wedgelet n s) q) z)
    (λ b. ends-mono n l s e (wedgelet n s i) (ends-new n l s i e hs (omega arith) b d z))
    (eq-or-lt_of_le (le_of_suc-le-suc h))

starts-new :
    (n i e s : ℕ) → s ≤ points n → i < s → e < points n → (e ≡ i → ⊥) → (wedgelet n i e ≡ 0 → ⊥) → holds (starts n s) (wedgelet n i e) ≡ true
unfolding starts
starts-new n i e zero hs h he d z = absurd (omega arith)
starts-new n i e (suc s) hs h he d z =
    ⊎_elim
    (λ q. subst (λ (k : ℕ). holds (ends n (starts n s) k (points n)) (wedgelet n i e) ≡ true) q
    (ends-new n (starts n s) i e (points n) (omega arith) (omega arith) he d z))
    (λ b. ends-old n (starts n s) s (points n) (wedgelet n i e) hs (omega arith) (starts-new n i e s (omega arith) b he d z))
    (eq-or-lt_of_le (le_of_suc-le-suc h))

pub candidate-held : (n s e : ℕ) → s < points n → e < points n → (e ≡ s → ⊥) → (wedgelet n s e ≡ 0 → ⊥) → holds (wedgelet_list n) (wedgelet n s e) ≡ true
unfolding wedgelet_list
candidate-held n s e hs he d z = starts-new n s e (points n) (omega arith) hs he d z

-- a held word has a place
record Place (l : List ℕ) (w : ℕ) : Type 0 where
  index : ℕ
  inside : index < length l
  there : get_or l index 0 ≡ w

holds-place : (l : List ℕ) (w : ℕ) → holds l w ≡ true → Place l w
unfolding holds
holds-place [] w h = absurd (false≢true h)
holds-place (a ∷ l) w h = go (eqb a w) refl h (holds-place l w)
  where
    go : (b : Bool) → eqb a w ≡ b → (b || holds l w) ≡ true → (holds l w ≡ true → Place l w) → Place (a ∷ l) w
    go true q r f = record { index = 0; inside = omega arith; there = eqb-true a w q }
    go false q r f = let p = f r in record { index = suc p.index; inside = omega arith; there = p.there }

-- the list is not empty
pub list-some : (n : ℕ) → 3 ≤ n → 0 < length (wedgelet_list n)
list-some n h =
    let marked : wedgelet n 0 1 ≡ 0 → ⊥ = λ z. false≢true (sym (zero_bit (1 * n + 0)) ∙ ap (λ (w : ℕ). mark n w 0 1) (sym z) ∙ first_marks n h) in
    let p = holds-place (wedgelet_list n) (wedgelet n 0 1) (candidate-held n 0 1 (omega arith) (omega arith) (λ e. omega arith) marked) in
    omega (arith, p.inside)

-- a pattern of the block, and (0,0) is not marked
pub entry_lt : (n i : ℕ) → i < length (wedgelet_list n) → get_or (wedgelet_list n) i 0 < 2 ^ (n * n)
entry_lt n i h =
    let c = entry-candidate n i h in
    subst (λ (w : ℕ). w < 2 ^ (n * n)) c.its (wedgelet-lt n c.start c.end (omega (arith, c.start_lt)))

pub list-origin : (n : ℕ) → OriginUnmarked n (wedgelet_list n)
list-origin n i h =
    let c = entry-candidate n i h in
    ap (λ (w : ℕ). mark n w 0 0) (sym c.its) ∙ wedgelet-origin n c.start c.end (omega (arith, c.start_lt))

-- ---- each entry's transposed pattern is one entry, and one only

transposed-place : (n w : ℕ) → Candidate n w → Place (wedgelet_list n) (transposed n w)
transposed-place n w c =
    let s = c.start in
    let e = c.end in
    let t : transposed n w ≡ wedgelet n (across_point n e) (across_point n s) = ap (transposed n) (sym c.its) ∙ wedgelet-transposed n s e c.start_lt c.end_lt in
    let small : w < 2 ^ (n * n) = subst (λ (x : ℕ). x < 2 ^ (n * n)) c.its (wedgelet-lt n s e (omega (arith, c.start_lt))) in
    subst (Place (wedgelet_list n)) (sym t)
    (holds-place (wedgelet_list n) (wedgelet n (across_point n e) (across_point n s))
    (candidate-held n (across_point n e) (across_point n s) (across-point-lt n e c.end_lt) (across-point-lt n s c.start_lt)
    (λ q. c.differ (sym (across-injective n s e c.start_lt c.end_lt q)))
    (λ z. transposed-nonzero n w small c.nonzero (t ∙ z))))

pub list-closed : (n : ℕ) → TransposeClosed n (wedgelet_list n)
list-closed n i h =
    let p = transposed-place n (get_or (wedgelet_list n) i 0) (entry-candidate n i h) in
    record {
      index = p.index;
      inside = p.inside;
      there = p.there;
      only = λ j hj q. list-distinct n j p.index hj p.inside (q ∙ sym p.there);
    }
