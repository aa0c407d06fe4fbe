-- The list that C's calls build: its count, its patterns, and the refusals, which do not depend on it.
use Prim.Native.Nat.{ℕ, zero, suc, ◌*◌, ◌/◌, ◌^◌, ◌≤◌, ◌<◌}
use mathlib.Core.Bool.{Bool, true, false, cond, ◌&&◌}
use mathlib.Core.List.{List}
use mathlib.Core.Path.{◌≡◌, refl, sym, subst, ◌∙◌}
use native.Mathlib.Omega.{arith}
use borrow.Author.Tests.{le-leb, lt-ltb, ltb-true}
use lib.Dec.{eqb, leb, ltb}
use lib.ListN.{length, get_or, replicate, length-replicate}
use lib.Pow.{pow_pos}
use Rattle.arith.specs.Checks.{unless, refused, given, answer}
use Rattle.arith.proofs.CheckLaws.{answer-given, given-means, refused-means}
use Rattle.depth_table.specs.Table.{table_ok}
use Rattle.pattern.specs.Size.{size_ok, word_ok}
use Rattle.pattern.specs.Words.{greatest_words, four_words, four_at, whole_patterns, pattern_at, patterns_of}
use Rattle.pattern.specs.Answer.{count_ok, texture_ok}
use Rattle.pattern.proofs.SizeLaws.{size-bounds}
use Rattle.pattern.proofs.WordLaws.{length-patterns, patterns-at}
use Rattle.wedgelet.specs.Wedgelet.{wedgelet_list}
use Rattle.wedgelet.specs.Answer.{needed_words, most_words, most_patterns, list_refusal, list_answer, list_after, as_built}
use Rattle.wedgelet.proofs.AnswerLaws.{patterns-enough, words-enough, built-is, built-at, list-within, wedgelets-build}
use Rattle.wedgelet.proofs.Growth.{list_length}
use Rattle.wedgelet.proofs.WedgeletLaws.{list-some, entry_lt}
use Rattle.choice.specs.Case.{Case, case_of}
use Rattle.choice.specs.Refusal.{lengths_ok, words_ok, choose_refusal}
use Rattle.choice.proofs.AcceptLaws.{words-all, refused-size, accepted}
use Rattle.record.specs.declared.Record.{Record}
use Rattle.choice.specs.Answer.{chosen_all, choose_answer, LeastGiven}
use Rattle.choice.proofs.LeastLaws.{answer-least}
use Rattle.depth_bench.specs.declared.Choice.{Choice}
use Rattle.depth_bench.specs.Built.{built_list, built_case}
use Rattle.depth_bench.specs.Structs.{choice_struct, LeastChoice}

-- ---- the list of an allowed size

module _ (n : ℕ) (size : size_ok n ≡ true) where
  abbrev count : ℕ
  count = length (wedgelet_list n)

  -- the words are enough
  none-refused : list_refusal n (length {A = ℕ} (replicate most_words 0)) ≡ 0
  unfolding list_refusal
  none-refused = rw (size, length-replicate {A = ℕ} most_words 0, le-leb (needed_words n) most_words (words-enough n size))

  -- it is the list as built
  pub list-as-built : as_built n (built_list n) count ≡ true
  unfolding list_answer
  list-as-built =
      wedgelets-build n (replicate most_words 0) count
      (sym (answer-given (list_refusal n (length {A = ℕ} (replicate most_words 0))) count none-refused))

  -- it has no more patterns than the longest list
  few : count ≤ most_patterns
  few = omega (arith, list_length n, patterns-enough n (size-bounds n size).1)

  -- its count is allowed, and not 0
  count-allowed : count_ok (length (built_list n)) count ≡ true
  count-allowed =
      rw (
        le-leb count (length (built_list n)) (list-within n (replicate most_words 0) none-refused),
        le-leb count 9999 (omega (arith, few)),
      )

  some-entry : ltb 0 count ≡ true
  some-entry = lt-ltb 0 count (list-some n (omega (arith, size-bounds n size)))

  -- its patterns mark samples of the block only
  entry-fits : (i : ℕ) → i < count → word_ok n (get_or (built_list n) i 0) ≡ true
  entry-fits i h =
      rw (built-at (built-is n (built_list n) count list-as-built) i h)
      (lt-ltb (get_or (wedgelet_list n) i 0) (2 ^ (n * n)) (entry_lt n i h))

  entries_fit : words_ok n (built_list n) count ≡ true
  entries_fit = words-all n (built_list n) count entry-fits

  -- 5 is not given for an entry
  pub entry-refusal :
      (entry : ℕ) → unless (ltb entry count) 6 0 ≡ unless (ltb entry count) 6 (unless (word_ok n (get_or (built_list n) entry 0)) 5 0)
  entry-refusal entry = go (ltb entry count) refl
    where
      go : (b : Bool) → ltb entry count ≡ b → unless b 6 0 ≡ unless b 6 (unless (word_ok n (get_or (built_list n) entry 0)) 5 0)
      go true e = rw (entry-fits entry (ltb-true entry count e))
      go false e = refl

-- what `wedgelets` answered for so many words is the number of patterns
pub built_count : (n count : ℕ) → given count ≡ list_answer n (replicate most_words 0) → count ≡ length (wedgelet_list n)
unfolding list_answer
built_count n count e = sym (given-means (list_refusal n (length {A = ℕ} (replicate most_words 0))) (length (wedgelet_list n)) count (sym e)).1

-- it refuses no allowed size
pub never_refused : (n number : ℕ) → size_ok n ≡ true → refused number ≡ list_answer n (replicate most_words 0) → ⊥
unfolding list_answer
never_refused n number size e =
    (refused-means (list_refusal n (length {A = ℕ} (replicate most_words 0))) number (length (wedgelet_list n)) (sym e)).1 (none-refused n size)

-- ---- the answer as C gets it

-- no number of a refusal is 0, so that a choice whose refusal is 0 is the one that was given
least_by :
    (C : Case) (k : ℕ) (a : Record × ℕ × ℕ) → LeastGiven C (answer k a) → LeastChoice C (choice_struct (answer k a))
least_by C zero a h z = h
least_by C (suc k) a h z = absurd (omega arith)

pub least-told : (C : Case) → LeastChoice C (choice_struct (choose_answer C))
unfolding choose_answer
least-told C = least_by C (choose_refusal C) (chosen_all C) (answer-least C)

-- a struct without a refusal comes from checks that all hold
not-refused-by : (k : ℕ) (a : Record × ℕ × ℕ) → (choice_struct (answer k a)).refusal ≡ 0 → k ≡ 0
not-refused-by zero a h = refl
not-refused-by (suc k) a h = absurd (omega arith)

-- an answer whose struct has no refusal was given
pub not-refused : (C : Case) → (choice_struct (choose_answer C)).refusal ≡ 0 → choose_refusal C ≡ 0
unfolding choose_answer
not-refused C h = not-refused-by (choose_refusal C) (chosen_all C) h

-- ---- the refusals of a choice

module _ (n : ℕ) where
  -- the patterns of words without marks, as many as a pattern of the greatest block has
  abbrev pub blank_list : List ℕ
  blank_list = patterns_of n (replicate greatest_words 0)

  -- there is one for every size
  blank-whole : 1 ≤ whole_patterns n greatest_words
  blank-whole = go (leb n 8)
    where
      go : (b : Bool) → 1 ≤ greatest_words / cond b 1 greatest_words
      go true = omega arith
      go false = omega arith

  -- a count of 1 is allowed
  blank-allowed : count_ok (length blank_list) 1 ≡ true
  blank-allowed = rw (length-patterns n (replicate greatest_words 0), le-leb 1 (whole_patterns n greatest_words) blank-whole)

  -- the first has no marks, and fits the block
  blank-at : pattern_at n (replicate greatest_words 0) 0 ≡ 0
  unfolding pattern_at four_words
  blank-at = go (leb n 8)
    where
      go : (b : Bool) → cond b 0 (four_at (replicate greatest_words 0) (greatest_words * 0)) ≡ 0
      go true = refl
      go false = refl

  blank-fits : (i : ℕ) → i < 1 → word_ok n (get_or blank_list i 0) ≡ true
  blank-fits i h =
      let z : i ≡ 0 = omega arith in
      rw (z, patterns-at n (replicate greatest_words 0) 0 blank-whole, blank-at) (lt-ltb 0 (2 ^ (n * n)) (pow_pos (n * n)))

module _ (n : ℕ) (s o t : List ℕ) (R : ℕ) (x : List ℕ) where
  -- the checks of a choice with a list that is not empty and whose patterns fit the block
  checks-by :
      (list : List ℕ) (count : ℕ) → count_ok (length list) count ≡ true → words_ok n list count ≡ true → ltb 0 count ≡ true
      → choose_refusal (case_of n list count s o t R x)
      ≡ unless (size_ok n) 1
      (unless (eqb (length s) (4 * n) && (eqb (length o) (n * n) && (texture_ok (length x) (n * n) && true))) 2
      (unless (table_ok t) 3 (unless (leb R 255) 4 0)))
  unfolding choose_refusal lengths_ok
  checks-by list count a b c = rw (a, b, c)

  -- a list of one pattern without marks gives the same refusal
  pub refusal_before : choose_refusal (case_of n (blank_list n) 1 s o t R x) ≡ choose_refusal (built_case n s o t R x)
  refusal_before = go (size_ok n) refl
    where
      go : (b : Bool) → size_ok n ≡ b → choose_refusal (case_of n (blank_list n) 1 s o t R x) ≡ choose_refusal (built_case n s o t R x)
      go true e =
          checks-by (blank_list n) 1 (blank-allowed n) (words-all n (blank_list n) 1 (blank-fits n)) refl
          ∙ sym (checks-by (built_list n) (length (wedgelet_list n)) (count-allowed n e) (entries_fit n e) (some-entry n e))
      go false e = sym (refused-size (case_of n (blank_list n) 1 s o t R x) e) ∙ refused-size (built_case n s o t R x) e

  -- the case with the words and the count that `wedgelets` left
  pub built_same :
      {words : List ℕ} {count : ℕ} → words ≡ list_after n (replicate most_words 0) → count ≡ length (wedgelet_list n)
      → case_of n (patterns_of n words) count s o t R x ≡ built_case n s o t R x
  built_same e k = λ i. case_of n (patterns_of n (e i)) (k i) s o t R x

  -- where the choice with that pattern is not refused, the list can be built
  pub then_built :
      (number : ℕ) → 0 ≡ choose_refusal (case_of n (blank_list n) 1 s o t R x) → refused number ≡ list_answer n (replicate most_words 0) → ⊥
  then_built number e = never_refused n number (accepted (case_of n (blank_list n) 1 s o t R x) (sym e)).size

  -- what C gets is the record of least cost
  pub least_built : {r : Choice} → r ≡ choice_struct (choose_answer (built_case n s o t R x)) → LeastChoice (built_case n s o t R x) r
  least_built e = subst (LeastChoice (built_case n s o t R x)) (sym e) (least-told (built_case n s o t R x))

-- what the pattern of an entry cites: the listed patterns fit the block
pub ruleset fit = (entry-refusal)
