-- What holds of a case that is not refused, and that such a case is not refused.
use Prim.Native.Nat.{ℕ, zero, suc, ◌*◌, ◌≤◌, ◌<◌}
use mathlib.Core.Path.{◌≡◌, refl, sym, ◌∙◌}
use mathlib.Core.Bool.{Bool, true, false, ◌||◌, or-true}
use mathlib.Core.List.{List}
use mathlib.Core.Logic.{◌⊎◌, inl, inr, ⊎_elim}
use native.Mathlib.Omega.{arith}
use lib.Dec.{eqb, ltb}
use Rattle.std.specs.Bool.{MatchBool}
use Rattle.std.specs.List.{range_with_len, AllWithin, HoldsAt}
use Rattle.std.proofs.lemmas.List.FromFn.{length-range_with_len, get_or-range_with_len}
use lib.ListN.{length, get_or}
use borrow.Author.Tests.{eq-eqb, eqb-true, le-leb, leb-true, lt-ltb, ltb-true}
use Rattle.arith.proofs.Bools.{both_of, either-of, clash}
use Rattle.arith.proofs.CheckLaws.{holds, passes}
use Rattle.arith.proofs.LeastLaws.{last-or-below}
use Rattle.depth_table.specs.Table.{table_ok}
use Rattle.pattern.specs.Size.{greatest_size, size_ok, word_ok}
use Rattle.pattern.proofs.SizeLaws.{size-bounds}
use Rattle.choice.specs.Case.{Case}
use Rattle.pattern.specs.Answer.{count_ok, texture_ok, textured}
use Rattle.pattern.proofs.AnswerLaws.{texture-is, is-texture, count-is, is-count}
use Rattle.choice.specs.Refusal.{lengths_ok, words_ok, choose_refusal, choose_checks}

-- ---- lengths

pub record Lengths (n words count neighbours samples texture : ℕ) : Type 0 where
  pub bordered : neighbours ≡ 4 * n
  pub square : samples ≡ n * n
  pub optional : (texture ≡ 0) ⊎ (texture ≡ n * n)
  pub inside : count ≤ words
  pub few : count ≤ 9999

module _ (n words count neighbours samples texture : ℕ) where
  pub lengths-are : lengths_ok n words count neighbours samples texture ≡ true → Lengths n words count neighbours samples texture
  unfolding lengths_ok
  lengths-are h =
      let a = both_of (eqb neighbours (4 * n)) _ h in
      let b = both_of (eqb samples (n * n)) _ a.1 in
      let c = both_of (texture_ok texture (n * n)) (count_ok words count) b.1 in
      let d = count-is words count c.1 in
      record {
        bordered = eqb-true neighbours (4 * n) a.0;
        square = eqb-true samples (n * n) b.0;
        optional = texture-is texture (n * n) c.0;
        inside = d.0;
        few = d.1;
      }

  pub lengths-do : Lengths n words count neighbours samples texture → lengths_ok n words count neighbours samples texture ≡ true
  unfolding lengths_ok
  lengths-do h =
      rw (
        eq-eqb neighbours (4 * n) h.bordered,
        eq-eqb samples (n * n) h.square,
        is-texture texture (n * n) h.optional,
        is-count words count h.inside h.few,
      )

-- ---- words

-- each word below k
pub words-at : (n : ℕ) (list : List ℕ) (k : ℕ) → words_ok n list k ≡ true → (i : ℕ) → i < k → word_ok n (get_or list i 0) ≡ true
unfolding words_ok
words-at n list zero h i l = absurd (omega arith)
words-at n list (suc k) h i l =
    let p = both_of (words_ok n list k) (word_ok n (get_or list k 0)) h in
    ⊎_elim (λ e. rw e p.1) (λ b. words-at n list k p.0 i b) (last-or-below l)

pub words-all : (n : ℕ) (list : List ℕ) (k : ℕ) → ((i : ℕ) → i < k → word_ok n (get_or list i 0) ≡ true) → words_ok n list k ≡ true
unfolding words_ok
words-all n list zero h = refl
words-all n list (suc k) h = rw (words-all n list k (λ i l. h i (omega arith))) (h k (omega arith))

-- one word that is not a pattern of the block is enough
pub words-bad : (n : ℕ) (list : List ℕ) (k i : ℕ) → i < k → word_ok n (get_or list i 0) ≡ false → words_ok n list k ≡ false
words-bad n list k i l e = go (words_ok n list k) refl
  where
    go : (b : Bool) → words_ok n list k ≡ b → b ≡ false
    go true h = clash (sym (words-at n list k h i l) ∙ e)
    go false h = refl

range-at : (count k : ℕ) → k < count → get_or (range_with_len 0 count) k 0 ≡ k
range-at count k l = get_or-range_with_len 0 count k 0 l ∙ omega arith

-- what `all` over the entries finds
pub words-found :
    (n : ℕ) (list : List ℕ) (count : ℕ) (r : Bool) → let l = range_with_len 0 count in
    MatchBool r (AllWithin (λ k. word_ok n (get_or list k 0) ≡ true) l 0 (length l))
    ((k : ℕ) × (k < length l) × HoldsAt (λ k. word_ok n (get_or list k 0) ≡ false) l k)
    → r ≡ words_ok n list count
words-found n list count true h =
    let e = length-range_with_len 0 count in
    sym (words-all n list count (λ i l.
    let g = range-at count i l in
    rw g at (h i 0 (omega arith) (omega (arith, e)))))
words-found n list count false h =
    let e = length-range_with_len 0 count in
    let l : h.0 < count = omega (arith, e, h.1) in
    sym (words-bad n list count h.0 l (rw (range-at count h.0 l) at (h.2 0)))

-- ---- all checks

pub record Accepted (C : Case) : Type 0 where
  pub size : size_ok C.n ≡ true
  pub low : 4 ≤ C.n
  pub high : C.n ≤ greatest_size
  pub lengths : Lengths C.n (length C.list) C.count (length C.neighbours) (length C.original) (length C.texture)
  pub sound : table_ok C.table ≡ true
  pub words : words_ok C.n C.list C.count ≡ true
  pub near : C.reach ≤ 255
  pub some : (0 < C.count) ⊎ (textured C.texture ≡ true)

pub accepted : (C : Case) → choose_refusal C ≡ 0 → Accepted C
unfolding choose_refusal
accepted C h =
    let c = (holds (choose_checks C) 0 h).0 in
    let bounds = size-bounds C.n c.0 in
    record {
      size = c.0;
      low = bounds.0;
      high = bounds.1;
      lengths =
          lengths-are C.n (length C.list) C.count (length C.neighbours) (length C.original) (length C.texture) c.1.0;
      sound = c.1.1.0;
      words = c.1.1.1.0;
      near = leb-true C.reach 255 c.1.1.1.1.0;
      some =
          ⊎_elim
          (λ p. inl (ltb-true 0 C.count p))
          (λ p. inr p)
          (either-of (ltb 0 C.count) (textured C.texture) c.1.1.1.1.1.0);
    }

some-by : (C : Case) → (0 < C.count) ⊎ (textured C.texture ≡ true) → ltb 0 C.count || textured C.texture ≡ true
some-by C = ⊎_elim (λ l. rw (lt-ltb 0 C.count l)) (λ e. rw e (or-true (ltb 0 C.count)))

-- such a case is not refused
pub accept : (C : Case) → Accepted C → choose_refusal C ≡ 0
unfolding choose_refusal
accept C k =
    passes (choose_checks C) 0 (
      k.size,
      (
        lengths-do C.n (length C.list) C.count (length C.neighbours) (length C.original) (length C.texture) k.lengths,
        (k.sound, (k.words, (le-leb C.reach 255 k.near, (some-by C k.some, tt)))),
      ),
    )

-- ---- a size that is not allowed

module _ (C : Case) where
  pub refused-size : size_ok C.n ≡ false → 1 ≡ choose_refusal C
  unfolding choose_refusal
  refused-size h = rw h
