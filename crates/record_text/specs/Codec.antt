-- What is shown of reading and printing a text: each is the inverse of the other.
use Rattle.std.specs.Prelude.{ℕ, ◌<◌, ◌≡◌, Bool, true, false, List, ◌++◌, ℤ, pos, negsuc, nat_abs}
use Rattle.record_text.specs.Numeral.{numeral_end}
use Rattle.record_text.specs.Parsed.{Parser, found}

-- p reads what text prints of the printable values, and nothing else
pub record Codec {A : Type 0} (p : Parser A) (text : A → List ℕ) (Printable : A → Type 0) : Type 0 where
  pub reads : (a : A) (rest : List ℕ) → Printable a → p (text a ++ rest) ≡ found a rest
  pub wrote : (a : A) (s rest : List ℕ) → p s ≡ found a rest → (s ≡ text a ++ rest) × Printable a

-- the numbers that have a numeral
abbrev pub NumberPrintable : ℕ → Type 0
NumberPrintable n = n < numeral_end

-- the numbers that have one behind their sign, and are below 0 only where a minus may stand
abbrev pub FieldPrintable : Bool → ℤ → Type 0
FieldPrintable true z = nat_abs z < numeral_end
FieldPrintable false (pos n) = n < numeral_end
FieldPrintable false (negsuc n) = ⊥
