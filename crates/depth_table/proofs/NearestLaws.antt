-- The least of the numbered distances of a table's values, found from the first on: its number is the index of the depth.
use Prim.Native.Nat.{ℕ, suc, ◌+◌, ◌-◌, ◌<◌}
use mathlib.Core.Path.{◌≡◌, refl, sym, ap, subst, ◌∙◌}
use mathlib.Core.Bool.{Bool, true, false, cond}
use mathlib.Core.List.{List, [], ◌∷◌}
use native.Mathlib.Decide.{dec_lt}
use native.Mathlib.Omega.{arith}
use borrow.Author.Tests.{lt-ltb, le-ltb, lt-leb, le-leb}
use lib.ListN.{length, get_or}
use lib.Dec.{leb, eqb}
use denote.Ref.{Bor}
use Rattle.std.specs.declared.option.Option.{Option}
use Rattle.std.specs.declared.option.Option.TheVariants.{None, Some}
use Rattle.std.specs.Option.{MatchOption, IfSome, IsSomeAnd, option_map}
use Rattle.std.specs.List.{fold}
use Rattle.std.specs.Ordering.{is_lt, nat_cmp, ord_min, on}
use Rattle.std.proofs.Common.{Less, Equal, Greater}
use Rattle.std.proofs.lemmas.Option.{none-some, same_Some}
use Rattle.arith.specs.Distance.{dist}
use Rattle.depth_table.specs.Table.{nearest_to, index_of}

-- what two clauses say of one `Option`
pub either :
    {A P R G : Type 0} {Q S : A → Type 0} (o : Option A) → MatchOption o P Q → MatchOption o R S → (P → R → G) → ((x : A) → Q x → S x → G)
    → G
either None p r f g = f p r
either (Some x) q s f g = g x q s

-- what holds of the value that there is
pub given : {A : Type 0} (P : Type 0) {R S : A → Type 0} (o : Option A) → IsSomeAnd o R → ((x : A) → R x → S x) → MatchOption o P S
given P None h f = absurd h
given P (Some x) h f = f x h

-- what is computed of a value that is known
pub mapped :
    (d : ℕ) (o : Option ℕ) (u : Option (Bor ℕ)) {v : ℕ} {R : Bor ℕ → ℕ → Type 0} → IfSome o (λ y. IsSomeAnd u (λ x. R x y))
    → option_map (λ x. x.now) u ≡ Some v → ((x : Bor ℕ) (y : ℕ) → R x y → y ≡ dist d x.now) → IfSome o (λ y. y ≡ dist d v)
mapped d None u g f r = tt
mapped d (Some y) None g f r = absurd g
mapped d (Some y) (Some x) g f r = r x y g ∙ ap (dist d) (same_Some _ _ f)

-- an item of the numbered distances, y by another name: its number is its place, and its distance is the one there
pub item :
    (o : Option (ℕ × ℕ)) {k v : ℕ} {y : ℕ × ℕ} → IfSome o (λ x. x.0 ≡ k) → IfSome (option_map (λ x. x.1) o) (λ a. a ≡ v)
    → option_map (λ x. x) o ≡ Some y → (y.0 ≡ k) × (y.1 ≡ v)
item None e f h = absurd (none-some _ h)
item (Some x) {k} {v} {y} e f h =
    let same : x ≡ y = same_Some _ _ h in
    (ap (λ (q : ℕ × ℕ). q.0) (sym same) ∙ e, ap (λ (q : ℕ × ℕ). q.1) (sym same) ∙ f)

not-less : (b : Bool) → is_lt (cond b Equal Greater) ≡ false
not-less true = refl
not-less false = refl

-- of two items the second where its distance is no greater, and else the first: the lesser by the distance, asked of the second first
pub nearer-by : (x y : ℕ × ℕ) → ord_min (on (λ (z : ℕ × ℕ). z.1) nat_cmp) y x ≡ cond (leb y.1 x.1) y x
nearer-by x y = go (dec_lt x.1 y.1)
  where
    chosen : Bool → ℕ × ℕ
    chosen b = cond (is_lt (cond b Less (cond (eqb x.1 y.1) Equal Greater))) x y

    go : Dec (x.1 < y.1) → ord_min (on (λ (z : ℕ × ℕ). z.1) nat_cmp) y x ≡ cond (leb y.1 x.1) y x
    go (yes l) = ap chosen (lt-ltb x.1 y.1 l) ∙ sym (ap (λ (b : Bool). cond b y x) (lt-leb y.1 x.1 l))
    go (no l) =
        ap chosen (le-ltb x.1 y.1 (omega arith))
        ∙ ap (λ (b : Bool). cond b x y) (not-less (eqb x.1 y.1))
        ∙ sym (ap (λ (b : Bool). cond b y x) (le-leb y.1 x.1 (omega arith)))

module _ (t : List ℕ) (d : ℕ) where
  -- of two items the nearer, and of two equally near the second
  abbrev pub nearer : ℕ × ℕ → ℕ × ℕ → ℕ × ℕ
  nearer x y = cond (leb y.1 x.1) y x

  -- x is numbered by its place k, and has the distance of the value there
  abbrev pub Numbered : ℕ × ℕ → ℕ → Type 0
  Numbered x k = (x.0 ≡ k) × (x.1 ≡ dist d (get_or t k 0))

  -- one item more
  step :
      (k : ℕ) (x y : ℕ × ℕ) → Numbered x (nearest_to t d k) → Numbered y (suc k) → Numbered (nearer x y) (nearest_to t d (suc k))
  unfolding nearest_to
  step k x y p q =
      subst (λ b. Numbered (nearer x y) (cond b (suc k) (nearest_to t d k))) (λ n. leb (q.1 n) (p.1 n))
      (go (leb y.1 x.1))
    where
      go : (b : Bool) → Numbered (cond b y x) (cond b (suc k) (nearest_to t d k))
      go true = q
      go false = p

  -- and all the others
  pub folded :
      (xs : List (ℕ × ℕ)) (k : ℕ) (x : ℕ × ℕ) → Numbered x (nearest_to t d k)
      → ((j : ℕ) (z : ℕ × ℕ) → j < length xs → Numbered (get_or xs j z) (suc k + j))
      → Numbered (fold nearer x xs) (nearest_to t d (k + length xs))
  folded [] k x p h = let e : k ≡ k + 0 = omega arith in subst (λ m. Numbered x (nearest_to t d m)) e p
  folded (y ∷ xs) k x p h =
      let first : suc k + 0 ≡ suc k = omega arith in
      let e : suc k + length xs ≡ k + suc (length xs) = omega arith in
      subst (λ m. Numbered (fold nearer (nearer x y) xs) (nearest_to t d m)) e
      (folded xs (suc k) (nearer x y) (step k x y p (subst (Numbered y) first (h 0 x (omega arith))))
      (λ j z l. let f : suc k + suc j ≡ suc (suc k) + j = omega arith in subst (Numbered (get_or xs j z)) f (h (suc j) z (omega arith))))

  -- the least of all the distances
  pub folded_all :
      (x : ℕ × ℕ) (xs : List (ℕ × ℕ)) → suc (length xs) ≡ length t
      → ((j : ℕ) (z : ℕ × ℕ) → j < length t → Numbered (get_or (x ∷ xs) j z) j)
      → (fold nearer x xs).0 ≡ index_of t d
  unfolding index_of nearest_to
  folded_all x xs l h =
      let e : 0 + length xs ≡ length t - 1 = omega arith in
      (folded xs 0 x (h 0 x (omega arith)) (λ j z m. let f : suc j ≡ 1 + j = omega arith in subst (Numbered (get_or xs j z)) f (h (suc j) z (omega arith)))).0 ∙ ap (nearest_to t d) e
