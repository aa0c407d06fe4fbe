-- Items of a file, each a line or several, read from a given state: what is shown of reading and printing them.
use Rattle.std.specs.Prelude.{ℕ, ◌+◌, ◌≤◌, ◌≡◌, List, ◌++◌, length}
use Rattle.record_text.specs.Lines.{Lined, refused_at, read}

-- what is read where t follows the bytes
abbrev pub extended : {A : Type 0} → List ℕ → Lined A → Lined A
extended t (refused_at n k) = refused_at n k
extended t (read a u) = read a (u ++ t)

-- lines that take at most b bytes: of b bytes or more they read the same whatever follows
pub record TakesAtMost {A : Type 0} (b : ℕ) (f : List ℕ → Lined A) : Type 0 where
  pub same : (s t : List ℕ) → b ≤ length s → f (s ++ t) ≡ extended t (f s)
  pub left : (s u : List ℕ) (a : A) → f s ≡ read a u → length s ≤ length u + b

-- at each state an item reads what text prints of the values that are sound there, and nothing else, and it takes at most b bytes
pub record Item {S A : Type 0} (item : S → List ℕ → Lined A) (text : A → List ℕ) (Sound : S → A → Type 0) (b : ℕ) : Type 0 where
  pub reads : (c : S) (a : A) (t : List ℕ) → Sound c a → item c (text a ++ t) ≡ read a t
  pub wrote : (c : S) (a : A) (s t : List ℕ) → item c s ≡ read a t → (s ≡ text a ++ t) × Sound c a
  pub within : (c : S) → TakesAtMost b (item c)
