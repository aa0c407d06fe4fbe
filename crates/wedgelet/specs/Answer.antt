-- What building the list answers and leaves in the lent slice: refusals in document 01's order.
use Rattle.std.specs.Prelude.{ℕ, ◌-◌, ◌*◌, Bool, ◌&&◌, List, [], ◌∷◌, ◌++◌, eqb, leb, length, take, drop}
use Rattle.arith.specs.Checks.{refusal, Answer, answer, lent}
use Rattle.arith.specs.Lists.{same_list}
use Rattle.pattern.specs.Size.{greatest_size, size_ok}
use Rattle.pattern.specs.Words.{words_of, word_list}
use Rattle.wedgelet.specs.Wedgelet.{points, wedgelet_list}

-- the patterns that a lent list needs: one for each candidate, 132 for n = 4, 756 for n = 8 and 3,540 for n = 16
abbrev pub needed : ℕ → ℕ
needed n = points n * (points n - 1)

-- and the words that it needs: 132, 756 and 14,160
abbrev pub needed_words : ℕ → ℕ
needed_words n = words_of n * needed n

-- the greatest size needs 3,540 patterns and 14,160 words, which are enough for every allowed size
abbrev pub most_patterns : ℕ
most_patterns = needed greatest_size

abbrev pub most_words : ℕ
most_words = needed_words greatest_size

-- 1: the size; 2: the lent list is short
unfoldable pub list_refusal : ℕ → ℕ → ℕ
list_refusal n words = refusal ((size_ok n, 1) ∷ (leb (needed_words n) words, 2) ∷ []) 0

-- `wedgelets` answers the count
unfoldable pub list_answer : ℕ → List ℕ → Answer ℕ
list_answer n old = answer (list_refusal n (length old)) (length (wedgelet_list n))

-- the lent list afterwards: the words of the patterns, and past them the old content
unfoldable pub list_after : ℕ → List ℕ → List ℕ
list_after n old =
    lent (list_refusal n (length old)) (word_list n (wedgelet_list n) ++ drop (words_of n * length (wedgelet_list n)) old) old

-- The wedgelet list as built is the one for n, with its count; `list` has the patterns that are lent. Those past the count do not matter.
unfoldable pub as_built : ℕ → List ℕ → ℕ → Bool
as_built n list count = eqb count (length (wedgelet_list n)) && same_list (take count list) (wedgelet_list n)
