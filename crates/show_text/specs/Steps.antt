-- What the steps of the code hand on.
use Rattle.std.specs.Prelude.{ℕ, ◌+◌, ◌*◌, ◌≤◌, ◌≡◌, List, [], length, take, Option, Some, None}
use Rattle.pattern.specs.Words.{words_of}
use Rattle.pattern.specs.declared.words.PatternList.{PatternList}
use Rattle.record_file.specs.Reading.{Aids, aids_of}
use Rattle.show_text.specs.Showing.{aids_alone, aids_for}

-- what a file is read with where there is no list at all, and with the list for one size
abbrev pub no_aids : Aids
no_aids = aids_of [] 0 [] 0 [] 0 []

abbrev pub aids_by : Option (ℕ × PatternList) → Aids
aids_by None = no_aids
aids_by (Some (n, L)) = aids_alone n L.words.now L.count

-- a list whose first words, as many as the count's patterns have, are the ones that a file of size n is read with
pub record Listing (n : ℕ) (list : List ℕ) (count : ℕ) : Type 0 where
  pub inside : words_of n * count ≤ length list
  pub whole : words_of n * count ≡ length (take (words_of n * count) list)
  pub aids : aids_alone n (take (words_of n * count) list) count ≡ aids_for n

-- a sheet whose sides are in range, with its samples and with room for its text
pub record SheetFits (w h lent room : ℕ) : Type 0 where
  pub width : w ≤ 128
  pub height : h ≤ 128
  pub held : w * h ≤ lent
  pub space : 27 + 4 * (w * h) ≤ room
