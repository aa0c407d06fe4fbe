-- Laws that no proof cites: docs/PORT.md names them.
use Prim.Native.Nat.{ℕ, ◌*◌}
use mathlib.Core.Bool.{true}
use mathlib.Core.List.{List}
use mathlib.Core.Path.{◌≡◌, sym, ◌∙◌}
use lib.ListN.{length}
use Rattle.arith.specs.Checks.{unless}
use Rattle.arith.proofs.CheckLaws.{passed}
use Rattle.pattern.specs.Size.{size_ok}
use Rattle.pattern.specs.Answer.{texture_ok}

-- the checks of size and texture
abbrev pub first_refusal : ℕ → ℕ → ℕ
first_refusal n texture = unless (size_ok n) 1 (unless (texture_ok texture (n * n)) 2 0)

-- where they refuse nothing, both hold
pub passed_first :
    (n : ℕ) (t : List ℕ) {r : ℕ} → r ≡ first_refusal n (length t) → r ≡ 0 → (size_ok n ≡ true) × (texture_ok (length t) (n * n) ≡ true)
passed_first n t e z =
    let p = passed (size_ok n) 0 _ (sym e ∙ z) in
    (p.0, (passed (texture_ok (length t) (n * n)) 1 0 p.1).0)
