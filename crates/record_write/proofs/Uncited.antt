-- Laws that no proof cites: docs/PORT.md names them.
use Prim.Native.Nat.{ℕ, ◌<◌}
use mathlib.Core.Bool.{false}
use mathlib.Core.Path.{◌≡◌, sym}
use native.Mathlib.Omega.{arith}
use borrow.Author.Tests.{lt-leb}
use lib.Dec.{leb}
use Rattle.record_file.specs.Writing.{space_for}

-- fewer than 80 bytes are too few for any file
pub space_short : (v b s : ℕ) → s < 80 → false ≡ leb (space_for v b) s
space_short v b s h = sym (lt-leb (space_for v b) s (omega arith))
