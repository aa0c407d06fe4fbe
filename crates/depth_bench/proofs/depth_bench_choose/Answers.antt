-- `depth_bench_choose` answers the record of least cost, since `choose_answer` is.
use mathlib.Core.Path.{ap, ◌∙◌}
use Rattle.depth_bench.specs.Structs.{choice_struct}
use Rattle.depth_bench.proofs.Built.{least_built}
use Rattle.depth_bench.proofs.depth_bench_choose.Goals as goal

pub returns-clause-least : goal.returns-clause-least
returns-clause-least c =
    let I = c.args.input in
    least_built I.n I.border.now I.original.now I.table.now I.reach I.texture.now
    (c.from.ensures ∙ ap choice_struct c.choose.ensures)
