-- What C's calls stand for: a pattern handed in, a choice, and a record's pattern, with the list that they build for n.
use Rattle.std.specs.Prelude.{ℕ, ◌*◌, List, [], ◌∷◌, length, replicate}
use Rattle.arith.specs.Checks.{refusal, Answer, answer}
use Rattle.pattern.specs.Size.{size_ok}
use Rattle.pattern.specs.Words.{used_number, patterns_of}
use Rattle.pattern.specs.Answer.{texture_ok, textured}
use Rattle.wedgelet.specs.Answer.{most_words, list_after}
use Rattle.wedgelet.specs.Wedgelet.{wedgelet_list}
use Rattle.choice.specs.Case.{Case, case_of}
use Rattle.choice.specs.Record.{pattern_by}
use Rattle.record.specs.Meaning.{kind_refusal}

-- the pattern of n by n samples that four words handed in stand for: up to 8 by 8 word 0 alone, whatever the others hold
abbrev pub used_words : ℕ → ℕ → ℕ → ℕ → ℕ → ℕ
used_words n word0 word1 word2 word3 = used_number n (record { words = word0 ∷ word1 ∷ word2 ∷ word3 ∷ [] })

-- the list is the patterns that `wedgelets` leaves in words enough for every size
abbrev pub built_list : ℕ → List ℕ
built_list n = patterns_of n (list_after n (replicate most_words 0))

-- the case that C's choice stands for: that list, with its own count
abbrev pub built_case : ℕ → List ℕ → List ℕ → List ℕ → ℕ → List ℕ → Case
built_case n neighbours original table reach texture =
    case_of n (built_list n) (length (wedgelet_list n)) neighbours original table reach texture

-- 1: the size; 2: texture is neither none nor of n * n samples; then what a record's kind and entry say, 7, 21 and 6 (no pattern of the
-- list is refused by 5)
unfoldable pub pattern_refusal : ℕ → ℕ → ℕ → List ℕ → ℕ
pattern_refusal n kind entry texture =
    refusal ((size_ok n, 1) ∷ (texture_ok (length texture) (n * n), 2) ∷ [])
    (kind_refusal n (built_list n) (length (wedgelet_list n)) (textured texture) kind entry 0)

-- the pattern that a choice for C means by a record's kind and entry
unfoldable pub pattern_answer : ℕ → ℕ → ℕ → List ℕ → Answer ℕ
pattern_answer n kind entry texture =
    answer (pattern_refusal n kind entry texture) (pattern_by (built_case n [] [] [] 0 texture) kind entry)
