-- Laws that no proof cites: docs/PORT.md names them.
use mathlib.Core.Bool.{false}
use mathlib.Core.Path.{◌≡◌, refl}
use lib.IntN.{ℤ, pos, negsuc, nat_abs}
use lib.Signed.{lt_z}
use Rattle.arith.proofs.Bools.{clash}
use Rattle.record.specs.Lent.{unsigned}

-- a lent number that is not negative is itself
pub some_at : (z : ℤ) → lt_z z (pos 0) ≡ false → nat_abs z ≡ unsigned z
some_at (pos k) h = refl
some_at (negsuc k) h = clash h
