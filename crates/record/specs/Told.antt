-- What the code's answers name.
use Rattle.std.specs.Prelude.{ℕ, zero, suc, ◌≡◌, Result, Ok, Err}
use Rattle.pattern.specs.declared.refusals.Refusal.{Refusal}
use Rattle.pattern.specs.declared.refusals.Refusal.TheVariants as refusal
use Rattle.pattern.specs.Words.{pattern_number}
use Rattle.record.specs.Meaning.{Named, listed, contour}
use Rattle.record.specs.declared.kind.Kind.{Kind}
use Rattle.record.specs.declared.kind.Kind.TheVariants as kind
use Rattle.record.specs.declared.meaning.Meaning.{Meaning}
use Rattle.record.specs.declared.meaning.Meaning.TheVariants as meaning

abbrev pub named : Meaning → Named
named (meaning.Listed p) = listed (pattern_number p)
named meaning.Contour = contour

-- the kind with a number, or the refusal of a number that is no kind's
abbrev pub kind_of : ℕ → Result Kind Refusal
kind_of zero = Ok kind.Wedgelet
kind_of (suc zero) = Ok kind.Contour
kind_of (suc (suc k)) = Err refusal.Kind

abbrev pub KindOf : ℕ → Result Kind Refusal → Type 0
KindOf k r = r ≡ kind_of k
