-- Signed numbers from their magnitude: laws that no proof cites, and that docs/PORT.md names.
use Rattle.std.proofs.Common.{ℕ, ◌<◌, pos, ◌-ℤ◌, w32, SFits, to_z, rules}

minus-at : (v : ℕ) → v < 65536 → SFits w32 (pos 0 -ℤ pos v)
minus-at v h = search rules

pub minus-fits : (v : ℕ) → v < 65536 → SFits w32 (pos 0 -ℤ to_z w32 v)
minus-fits v h = search rules
