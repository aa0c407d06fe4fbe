-- What holds where no check of `side_depths` fails.
use Prim.Native.Nat.{ℕ, ◌*◌, ◌^◌, ◌≤◌, ◌<◌}
use mathlib.Core.Path.{◌≡◌}
use mathlib.Core.Bool.{true}
use mathlib.Core.List.{List, [], ◌∷◌}
use lib.Dec.{eqb}
use lib.ListN.{length}
use borrow.Author.Tests.{eqb-true, eq-eqb, ltb-true}
use Rattle.arith.proofs.CheckLaws.{holds}
use Rattle.pattern.specs.Size.{greatest_size, size_ok, word_ok}
use Rattle.pattern.proofs.SizeLaws.{size-bounds}
use Rattle.prediction.specs.SideAnswer.{sides_refusal}

-- `side_depths` refuses nothing
pub record SidesAccepted (n w : ℕ) (s : List ℕ) : Type 0 where
  pub size : size_ok n ≡ true
  pub low : 4 ≤ n
  pub high : n ≤ greatest_size
  pub long : length s ≡ 4 * n
  pub inside : w < 2 ^ (n * n)

pub sides-accepted : (n w : ℕ) (s : List ℕ) → sides_refusal n w s ≡ 0 → SidesAccepted n w s
unfolding sides_refusal
sides-accepted n w s h =
    let c = (holds ((size_ok n, 1) ∷ (eqb (length s) (4 * n), 2) ∷ (word_ok n w, 5) ∷ []) 0 h).0 in
    let b = size-bounds n c.0 in
    record { size = c.0; low = b.0; high = b.1; long = eqb-true _ _ c.1.0; inside = ltb-true w (2 ^ (n * n)) c.1.1.0 }

-- it refuses nothing where the size, the number of neighbours and the word are allowed
pub sides-pass : (n w : ℕ) (s : List ℕ) → size_ok n ≡ true → length s ≡ 4 * n → word_ok n w ≡ true → sides_refusal n w s ≡ 0
unfolding sides_refusal
sides-pass n w s a b d = rw (a, eq-eqb (length s) (4 * n) b, d)
