-- A pattern in 64-bit words, lowest bit first: one word for n up to 8, four for 16, word k holding rows 4k to 4k + 3.
use Rattle.std.specs.Prelude.{ℕ, ◌+◌, ◌*◌, ◌/◌, ◌%◌, ◌^◌, cond, List, [], ◌∷◌, ◌++◌, leb, length, get_or}
use Rattle.arith.specs.Lists.{list_of}
use Rattle.pattern.specs.declared.words.Pattern.{Pattern}

-- the number whose lowest 64 bits are `low`
abbrev pub joined : ℕ → ℕ → ℕ
joined high low = high * 2 ^ 64 + low

-- the pattern that four words hold: w0 + w1 * 2 ^ 64 + w2 * 2 ^ 128 + w3 * 2 ^ 192
unfoldable pub four_words : ℕ → ℕ → ℕ → ℕ → ℕ
four_words w0 w1 w2 w3 = joined (joined (joined w3 w2) w1) w0

-- the pattern of the four words from one place of a list on
abbrev pub four_at : List ℕ → ℕ → ℕ
four_at words at = four_words (get_or words at 0) (get_or words (at + 1) 0) (get_or words (at + 2) 0) (get_or words (at + 3) 0)

-- the natural number that a `Pattern` is
abbrev pub pattern_number : Pattern → ℕ
pattern_number p = four_at p.words 0

-- the words of a pattern of the greatest block
abbrev pub greatest_words : ℕ
greatest_words = 4

-- how many words a pattern of n by n samples has
abbrev pub words_of : ℕ → ℕ
words_of n = cond (leb n 8) 1 greatest_words

-- the pattern of n by n samples that a `Pattern` handed in stands for: up to 8 by 8 its first word alone, whatever the others hold
abbrev pub used_number : ℕ → Pattern → ℕ
used_number n p = cond (leb n 8) (get_or p.words 0 0) (pattern_number p)

-- ---- a lent list is words; its patterns

-- how many whole patterns so many words are
abbrev pub whole_patterns : ℕ → ℕ → ℕ
whole_patterns n words = words / words_of n

-- the pattern at an entry: its word, or its four words
unfoldable pub pattern_at : ℕ → List ℕ → ℕ → ℕ
pattern_at n words entry = cond (leb n 8) (get_or words entry 0) (four_at words (greatest_words * entry))

-- the patterns of a list of words, those that are whole
unfoldable pub patterns_of : ℕ → List ℕ → List ℕ
patterns_of n words = list_of (pattern_at n words) (whole_patterns n (length words))

-- ---- and the words of a list of patterns

-- four words of a pattern
abbrev pub in_four : ℕ → List ℕ
in_four w = w % 2 ^ 64 ∷ w / 2 ^ 64 % 2 ^ 64 ∷ w / 2 ^ 64 / 2 ^ 64 % 2 ^ 64 ∷ w / 2 ^ 64 / 2 ^ 64 / 2 ^ 64 ∷ []

-- the words of a pattern, one or four
unfoldable pub in_words : ℕ → ℕ → List ℕ
in_words n w = cond (leb n 8) (w ∷ []) (in_four w)

-- the words of a list of patterns, pattern by pattern
unfoldable pub word_list : ℕ → List ℕ → List ℕ
word_list n [] = []
word_list n (w ∷ l) = in_words n w ++ word_list n l
