-- Lists built by index, and whether two lists are equal.
use Rattle.std.specs.Prelude.{ℕ, zero, suc, Bool, true, false, ◌&&◌, List, [], ◌∷◌, ◌++◌, eqb, replicate}

module _ {A : Type 0} where
  -- f 0, f 1, .., f (k - 1)
  unfoldable pub list_of : (ℕ → A) → ℕ → List A
  list_of f zero = []
  list_of f (suc k) = list_of f k ++ (f k ∷ [])

  -- m places: f i at each place i below k, z at the others
  unfoldable pub upto : ℕ → ℕ → (ℕ → A) → A → List A
  upto m zero f z = replicate m z
  upto zero (suc k) f z = []
  upto (suc m) (suc k) f z = f 0 ∷ upto m k (λ i. f (suc i)) z

-- whether two lists of numbers are equal, as a test
unfoldable pub same_list : List ℕ → List ℕ → Bool
same_list [] [] = true
same_list [] (b ∷ m) = false
same_list (a ∷ l) [] = false
same_list (a ∷ l) (b ∷ m) = eqb a b && same_list l m
