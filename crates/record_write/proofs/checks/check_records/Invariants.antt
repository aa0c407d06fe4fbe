-- `check_records`: none of the records so far is refused.
use Rattle.std.proofs.Common.{◌≡◌}
use Rattle.pattern.specs.Words.{patterns_of}
use Rattle.record.specs.Lent.{record_at}
use Rattle.record_file.specs.Writing.{first_to, written_refusal}
use Rattle.record_write.proofs.checks.check_records.Given as goal

abbrev pub invariant-loop-r : goal.invariant-loop-r
invariant-loop-r l =
    let S = l.setting in first_to (λ i. written_refusal S.n (patterns_of S.n S.list.words.now) S.list.count S.values (record_at l.records i)) l.r-index ≡ 0
