-- `filled` meets its contract: the values are copied to the first places of zeros.
use Rattle.std.proofs.Common.{ℕ, ◌∙◌, List, arith, refl, replicate, sym, zero-add}
use Rattle.std.proofs.Math.ListN.{length-replicate}
use Rattle.std.proofs.Math.Seq.{sets-eq}
use Rattle.depth_table.specs.Table.{most_values}
use Rattle.record_read.proofs.reading.filled.Goals as goal

pub returns : goal.returns
returns c =
    let zeros : List ℕ = replicate most_values 0 in
    rw c.copy_from_slice.ensures.after
    (sym (sets-eq c.args.table.now zeros 0 (omega (arith, c.requires, length-replicate {A = ℕ} most_values 0)) ∙ rw zero-add refl))
