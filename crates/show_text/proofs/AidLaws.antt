-- What `show` reads a file with: the size that the file names, and the list for it.
use Prim.Native.Nat.{ℕ, ◌*◌, ◌≤◌}
use mathlib.Core.Path.{◌≡◌, refl, sym, ◌∙◌, ap, ap₂}
use mathlib.Core.Bool.{Bool, true, false, ◌||◌}
use mathlib.Core.List.{List, ◌++◌}
use native.Mathlib.Nat.{le_trans}
use native.Mathlib.Omega.{arith}
use borrow.Author.Tests.{le-leb}
use lib.Dec.{eqb}
use lib.ListN.{length, take, drop, length-append}
use lib.Seq.{take_at}
use Rattle.std.specs.Result.{result_ok}
use Rattle.std.proofs.Common.{Result, Ok, Err}
use Rattle.std.specs.Prelude.{Some, None}
use Rattle.pattern.specs.declared.refusals.Refusal.{Refusal}
use Rattle.pattern.specs.Refusal.{number_of, told}
use Rattle.arith.specs.Checks.{refused, given}
use Rattle.arith.proofs.CheckLaws.{given-means, refused-means}
use Rattle.arith.proofs.Bools.{clash}
use Rattle.pattern.specs.Size.{size_ok}
use Rattle.pattern.specs.Words.{words_of, word_list}
use Rattle.pattern.proofs.WordLaws.{length-words}
use Rattle.wedgelet.specs.Wedgelet.{wedgelet_list}
use Rattle.wedgelet.specs.Answer.{needed_words, most_words, list_refusal, list_answer, list_after}
use Rattle.wedgelet.proofs.AnswerLaws.{words-enough}
use Rattle.show_text.specs.Showing.{aids_alone, aids_for}
use Rattle.show_text.specs.Steps.{Listing, no_aids}

-- ---- the list

neither-of : (a b : Bool) → a || b ≡ false → (a ≡ false) × (b ≡ false)
neither-of true b e = clash e
neither-of false b e = (refl, e)

module _ (n : ℕ) (old new : List ℕ) (enough : most_words ≤ length old) (after : new ≡ list_after n old) where
  -- `wedgelets` counted the patterns
  pub list-built : (count : ℕ) → given count ≡ list_answer n old → Listing n new count
  unfolding list_answer list_after aids_for
  list-built count e =
      let L = wedgelet_list n in
      let g = given-means (list_refusal n (length old)) (length L) count (sym e) in
      let is : new ≡ word_list n L ++ drop (words_of n * length L) old = after ∙ rw g.0 in
      let long : length (word_list n L) ≡ words_of n * count = length-words n L ∙ ap (λ (k : ℕ). words_of n * k) g.1 in
      let words : take (words_of n * count) new ≡ word_list n L =
      ap (take (words_of n * count)) is ∙ take_at (word_list n L) (drop (words_of n * length L) old) (words_of n * count) long in
      record {
        inside = omega (arith, ap length is, length-append (word_list n L) (drop (words_of n * length L) old), long);
        whole = sym long ∙ sym (ap length words);
        aids = ap₂ (aids_alone n) words (sym g.1);
      }

  -- or refused, which is the size's fault
  pub list-refused : (number : ℕ) → refused number ≡ list_answer n old → no_aids ≡ aids_for n
  unfolding list_answer list_refusal aids_for
  list-refused number e =
      let g = refused-means (list_refusal n (length old)) number (length (wedgelet_list n)) (sym e) in
      go (size_ok n) refl g.1
    where
      go : (b : Bool) → size_ok n ≡ b → (list_refusal n (length old) ≡ 0 → ⊥) → no_aids ≡ aids_for n
      go true e z = absurd (z (rw (e, le-leb (needed_words n) (length old) (le_trans (words-enough n e) enough))))
      go false e z =
          let a = neither-of (eqb n 4) (eqb n 8 || eqb n 16) e in
          let b = neither-of (eqb n 8) (eqb n 16) a.1 in
          rw (a.0, b.0, b.1)

  -- so the list for the size is there, or there is none
  pub list-lent : (r : Result ℕ Refusal) (count : ℕ) → told (λ count. count) r ≡ list_answer n old → result_ok r ≡ Some count → Listing n new count
  list-lent (Ok k) count e q = list-built count (cc)
  list-lent (Err x) count e q = cc

  pub list-none : (r : Result ℕ Refusal) → told (λ count. count) r ≡ list_answer n old → result_ok r ≡ None → no_aids ≡ aids_for n
  list-none (Ok k) e q = cc
  list-none (Err x) e q = list-refused (number_of x) e

-- a file without a size has none
pub none_for : no_aids ≡ aids_for 0
unfolding aids_for
none_for = refl
