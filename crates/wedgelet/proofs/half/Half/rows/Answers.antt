-- `rows` meets its contract: the words of its rows add up to their marks.
use Prim.Native.Nat.{◌*◌}
use native.Mathlib.Nat.{lt_of_lt_of_le}
use lib.Pow.{pow_mono}
use Rattle.arith.proofs.BitLaws.{bits-lt}
use mathlib.Core.Path.{◌∙◌}
use native.Mathlib.Omega.{arith}
use Rattle.std.proofs.Common.{rules}
use Rattle.std.proofs.lemmas.Iterator.{YieldsList-from_map, YieldsList-from_range}
use Rattle.std.proofs.lemmas.Iterator.Consumers.{sum_from_yields_List, fits_from_yields_list}
use Rattle.wedgelet.proofs.HalfLaws.{row_word, rows_sum}
use Rattle.wedgelet.proofs.half.Half.rows.Goals as goal

pub sum-requires-clause-fits : goal.sum-requires-clause-fits
sum-requires-clause-fits c =
    let a = c.args in
    fits_from_yields_list c.map.result _
    (YieldsList-from_map _ (row_word a.self a.size.n a.from) (YieldsList-from_range 0 _ a.count c.map.ensures.source (omega arith)) c.map.ensures.closure (λ x r q k. search rules))
    (rw (rows_sum a.self a.size.n a.from a.count (omega arith) c.requires.0) (lt_of_lt_of_le (bits-lt _ (a.count * a.size.n)) (pow_mono c.requires.0)))

pub returns : goal.returns
returns c =
    let a = c.args in
    sum_from_yields_List c.map.result _ c.sum.ensures.ran
    (YieldsList-from_map _ (row_word a.self a.size.n a.from) (YieldsList-from_range 0 _ a.count c.map.ensures.source (omega arith)) c.map.ensures.closure (λ x r q k. search rules))
    ∙ rows_sum a.self a.size.n a.from a.count (omega arith) c.requires.0
