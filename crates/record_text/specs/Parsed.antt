-- Reading text from the front of the bytes that remain.
use Rattle.std.specs.Prelude.{ℕ, cond, List, [], ◌∷◌, eqb}

-- what reading finds: a value and the bytes that remain after its text, or text of another form
pub data Parsed (A : Type 0) : Type 0 where
  bad_form : Parsed A
  found : A → List ℕ → Parsed A

-- a way of reading values of A
abbrev pub Parser : Type 0 → Type 0
Parser A = List ℕ → Parsed A

-- a value found is handed on with what remains
abbrev pub and_then : {A B : Type 0} → Parsed A → (A → List ℕ → Parsed B) → Parsed B
and_then bad_form f = bad_form
and_then (found a s) f = f a s

-- one text, and then a list of others
abbrev pub more : {A : Type 0} → Parser A → Parser (List A) → Parser (List A)
more p q s = and_then (p s) (λ a t. and_then (q t) (λ l u. found (a ∷ l) u))

-- what a text says, put in another way
abbrev pub mapped : {A B : Type 0} → (A → B) → Parser A → Parser B
mapped f p s = and_then (p s) (λ a t. found (f a) t)

-- exactly the bytes w
unfoldable pub exactly : List ℕ → Parser (Unit {0})
exactly [] s = found tt s
exactly (w ∷ ws) [] = bad_form
exactly (w ∷ ws) (b ∷ s) = cond (eqb b w) (exactly ws s) bad_form
