-- Reading lines in turn, each by its form and then by its meaning, and the text of several lines.
use Rattle.std.specs.Prelude.{ℕ, zero, suc, List, [], ◌∷◌, ◌++◌}
use Rattle.record_text.specs.Parsed.{Parsed, Parser, bad_form, found}

-- what reading lines finds: the number of a refusal and its line, or a value and the bytes that remain
pub data Lined (A : Type 0) : Type 0 where
  refused_at : ℕ → ℕ → Lined A
  read : A → List ℕ → Lined A

-- what follows line k, unless the line's meaning is refused with a number that is not 0
abbrev pub judged : {B : Type 0} → ℕ → ℕ → Lined B → Lined B
judged zero k next = next
judged (suc n) k next = refused_at (suc n) k

-- line k, and then what follows: its form is judged first (refusal 9), and then its meaning (0 for none)
abbrev pub line : {A B : Type 0} → ℕ → Parsed A → (A → ℕ) → (A → List ℕ → Lined B) → Lined B
line k bad_form meaning next = refused_at 9 k
line k (found a s) meaning next = judged (meaning a) k (next a s)

-- lines, and then what follows
abbrev pub lines_then : {A B : Type 0} → Lined A → (A → List ℕ → Lined B) → Lined B
lines_then (refused_at n k) next = refused_at n k
lines_then (read a s) next = next a s

-- a line whose form is all of its meaning, as a title line
abbrev pub no_meaning : {A : Type 0} → A → ℕ
no_meaning a = 0

module _ {S A : Type 0} (p : Parser A) (meaning : S → A → ℕ) (step : S → A → S) where
  -- m lines of the form p from line k on; a line's meaning is judged at the state that those before it left
  unfoldable pub many_lines : ℕ → ℕ → S → List ℕ → Lined (List A)
  many_lines zero k c s = read [] s
  many_lines (suc m) k c s =
      line k (p s) (meaning c) (λ a t. lines_then (many_lines m (suc k) (step c a) t) (λ l u. read (a ∷ l) u))

-- nothing is left: what is left is refused as the line k after the last
abbrev pub ended : {A : Type 0} → ℕ → A → List ℕ → Lined A
ended k a [] = read a []
ended k a (b ∷ s) = refused_at 9 k

-- the texts of a list's values, one after the other
unfoldable pub texts : {A : Type 0} → (A → List ℕ) → List A → List ℕ
texts f [] = []
texts f (a ∷ l) = f a ++ texts f l

-- each of a list's values is right at the state that those before it left
abbrev pub Each : {S A : Type 0} → (S → A → Type 0) → (S → A → S) → S → List A → Type 0
Each P step c [] = Unit {0}
Each P step c (a ∷ l) = P c a × Each P step (step c a) l
