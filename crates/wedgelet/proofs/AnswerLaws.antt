-- The room that each allowed size needs, and the list as built.
use Prim.Native.Nat.{ℕ, ◌-◌, ◌*◌, ◌≤◌, ◌<◌}
use mathlib.Core.Bool.{Bool, true, false, cond}
use mathlib.Core.List.{List, ◌++◌}
use mathlib.Core.Path.{◌≡◌, sym, ap, ◌∙◌}
use native.Mathlib.Nat.{mul-le-mul}
use native.Mathlib.Omega.{arith}
use borrow.Author.Tests.{eq-eqb, eqb-true}
use lib.Dec.{eqb, leb}
use lib.ListN.{length, get_or, take, drop}
use lib.Seq.{get_or-take}
use Rattle.arith.specs.Checks.{given}
use Rattle.arith.specs.Lists.{same_list}
use Rattle.arith.proofs.Bools.{both_of}
use Rattle.arith.proofs.CheckLaws.{given-means, lent-given}
use Rattle.arith.proofs.ListLaws.{same-list, list_same}
use Rattle.pattern.specs.Size.{greatest_size, size_ok}
use Rattle.pattern.specs.Words.{greatest_words, words_of, whole_patterns, patterns_of, word_list}
use Rattle.pattern.proofs.SizeLaws.{size-bounds}
use Rattle.pattern.proofs.WordLaws.{length-patterns, words-whole, patterns-words}
use Rattle.wedgelet.specs.Wedgelet.{points, wedgelet_list}
use Rattle.wedgelet.specs.Answer.{needed, needed_words, most_patterns, most_words, list_refusal, list_answer, list_after, as_built}

-- the patterns of the greatest size are enough for every allowed size, and so are its words
pub patterns-enough : (n : ℕ) → n ≤ greatest_size → needed n ≤ most_patterns
patterns-enough n h = mul-le-mul {n₂ = points greatest_size} {m₂ = points greatest_size - 1} (omega arith) (omega arith)

words-le : (n : ℕ) → words_of n ≤ greatest_words
words-le n = go (leb n 8)
  where
    go : (b : Bool) → cond b 1 greatest_words ≤ greatest_words
    go true = omega arith
    go false = omega arith

pub words-enough : (n : ℕ) → size_ok n ≡ true → needed_words n ≤ most_words
words-enough n h = mul-le-mul {n₂ = greatest_words} {m₂ = most_patterns} (words-le n) (patterns-enough n (size-bounds n h).1)

-- ---- the list as built

-- what the test says
pub record Built (n : ℕ) (list : List ℕ) (count : ℕ) : Type 0 where
  pub counted : count ≡ length (wedgelet_list n)
  pub words : take count list ≡ wedgelet_list n

pub built-is : (n : ℕ) (list : List ℕ) (count : ℕ) → as_built n list count ≡ true → Built n list count
unfolding as_built
built-is n list count h =
    let p = both_of (eqb count (length (wedgelet_list n))) (same_list (take count list) (wedgelet_list n)) h in
    record { counted = eqb-true count (length (wedgelet_list n)) p.0; words = same-list (take count list) (wedgelet_list n) p.1 }

-- the entries are those of the wedgelet list
pub built-at : {n count : ℕ} {list : List ℕ} → Built n list count → (i : ℕ) → i < count → get_or list i 0 ≡ get_or (wedgelet_list n) i 0
built-at {count = count} {list = list} b i h = sym (get_or-take count list i 0 h) ∙ ap (λ (l : List ℕ). get_or l i 0) b.words

-- ---- what a caller reads in the list afterwards: its first patterns are the wedgelet list

module _ (n : ℕ) (old : List ℕ) (h : list_refusal n (length old) ≡ 0) where
  after : list_after n old ≡ word_list n (wedgelet_list n) ++ drop (words_of n * length (wedgelet_list n)) old
  unfolding list_after
  after = sym (lent-given (list_refusal n (length old)) (word_list n (wedgelet_list n) ++ drop (words_of n * length (wedgelet_list n)) old) old h)

  pub list-built : take (length (wedgelet_list n)) (patterns_of n (list_after n old)) ≡ wedgelet_list n
  list-built =
      ap (λ (l : List ℕ). take (length (wedgelet_list n)) (patterns_of n l)) after
      ∙ patterns-words n (wedgelet_list n) (drop (words_of n * length (wedgelet_list n)) old)

  pub list-within : length (wedgelet_list n) ≤ length (patterns_of n (list_after n old))
  list-within =
      omega (
        arith,
        length-patterns n (list_after n old),
        ap (λ (l : List ℕ). whole_patterns n (length l)) after,
        words-whole n (wedgelet_list n) (drop (words_of n * length (wedgelet_list n)) old),
      )

-- what `wedgelets` leaves, with the count that it answers, is the list as built
pub wedgelets-build :
    (n : ℕ) (old : List ℕ) (count : ℕ) → list_answer n old ≡ given count → as_built n (patterns_of n (list_after n old)) count ≡ true
unfolding list_answer as_built
wedgelets-build n old count e =
    let k = given-means (list_refusal n (length old)) (length (wedgelet_list n)) count e in
    let words : take count (patterns_of n (list_after n old)) ≡ wedgelet_list n =
    ap (λ (c : ℕ). take c (patterns_of n (list_after n old))) (sym k.1) ∙ list-built n old k.0 in
    rw (eq-eqb count (length (wedgelet_list n)) (sym k.1), words) (list_same (wedgelet_list n))
