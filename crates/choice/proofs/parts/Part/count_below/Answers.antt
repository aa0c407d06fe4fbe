-- `count_below` meets its contract: the part's samples below v are counted.
use native.Mathlib.Nat.{lt_of_le_of_lt}
use lib.Bits.{and_le_l}
use Rattle.choice.proofs.parts.Part.count_below.Goals as goal

pub count-requires : goal.count-requires
count-requires c = rw c.lower.ensures (lt_of_le_of_lt (and_le_l _ _) c.args.self.now.parted.small)
