-- `read_blocks`: the blocks read so far, and as many samples as at the start.
use Rattle.std.proofs.Common.{◌≡◌, length}
use Rattle.record_read.proofs.StepLaws.{Turned}
use Rattle.record_read.proofs.blocks.read_blocks.Given as goal

abbrev pub invariant-loop-place : goal.invariant-loop-place
invariant-loop-place l =
    (Turned l.input l.initial.next l.initial.samples l.initial.records l.place-index l.next l.samples l.records)
    × (length l.samples ≡ length l.initial.samples)
