-- Where the next block of a sheet lies.
use Rattle.std.specs.Prelude.{ℕ, ◌≡◌}
use Rattle.sheet.specs.State.{next_x, next_y, Open}
use Rattle.sheet.specs.declared.Sheet.{Sheet}

-- where the next block lies, as the code has it
pub record Next (S : Sheet) (n w x y : ℕ) : Type 0 where
  pub is_open : Open S
  pub size : n ≡ S.n
  pub wide : w ≡ S.width
  pub column : x ≡ next_x S
  pub row : y ≡ next_y S
