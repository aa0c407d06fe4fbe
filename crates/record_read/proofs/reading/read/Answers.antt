-- `read` meets its contract: the lengths, the lines before the records, and the sheet.
use Rattle.std.proofs.Common.{◌≡◌, sym, ◌∙◌, true, length, arith}
use Rattle.std.proofs.lemmas.Result.{err_from_is_err_and}
use Rattle.record_file.specs.Reading.{aids_in, file_lines, lists_ok, read_lengths_ok, ReadLengths}
use Rattle.record_file.proofs.FileLaws.{size_small}
use Rattle.record_file.proofs.RoundTrip.{read-lengths}
use Rattle.record_read.specs.Back.{lent_of, reading}
use Rattle.record_read.specs.Step.{Counted, front_size}
use Rattle.record_read.proofs.BackLaws.{read-passed, front-refused, all-refused, area-few, small-room}
use Rattle.record_read.proofs.reading.read.Goals.{Else-not-lengths_ok, In_ok-front}
use Rattle.record_read.proofs.reading.read.Goals as goal

-- the lengths are allowed
right :
    (c : goal.Else-not-lengths_ok)
    → let a = c.args in read_lengths_ok (length a.samples.now) (length a.records.now) (lists_ok (aids_in a.input)) ≡ true
right c = sym c.lengths_ok.ensures ∙ c.if-not-lengths_ok.false

passed :
    (c : goal.Else-not-lengths_ok)
    → let a = c.args in reading (aids_in a.input) (lent_of a.samples.now a.records.now) a.bytes.now ≡ file_lines (aids_in a.input) a.bytes.now
passed c = let a = c.args in read-passed (aids_in a.input) (length a.samples.now) (length a.records.now) a.bytes.now (right c)

enough :
    (c : goal.Else-not-lengths_ok) → let a = c.args in ReadLengths (length a.samples.now) (length a.records.now) (aids_in a.input)
enough c = let a = c.args in read-lengths (length a.samples.now) (length a.records.now) (aids_in a.input) (right c)

-- the count of the list for the file's size
counted : (c : goal.In_ok-front) → Counted (aids_in c.args.input) c.in_ok-front.front.sheet.n
counted c =
    let a = c.args in
    let p = goal.at.In_ok-front c in
    let l = enough p.Else-not-lengths_ok in
    let n = c.in_ok-front.front.sheet.n in
    let size = (size_small (length a.input.texture.now) (front_size c.in_ok-front.front) c.in_ok-front.ensures.sound.size).size in
    record { inside = l.inside n size; few = l.few n size }

pub returns-in_err-front : goal.returns-in_err-front
returns-in_err-front c =
    let a = c.args in
    let p = goal.at.returns-in_err-front c in
    let q = err_from_is_err_and c.from_residual.result c.from_residual.ensures.1 in
    rw (q.1, q.2, passed p.Else-not-lengths_ok)
    (all-refused (aids_in a.input) (lent_of a.samples.now a.records.now) (front-refused (aids_in a.input) a.bytes.now c.in_err-front.ensures))

pub read_with-requires-clause-counted : goal.read_with-requires-clause-counted
read_with-requires-clause-counted c = counted (goal.at.read_with-requires-clause-counted c).In_ok-front

pub read_with-requires-clause-has_room : goal.read_with-requires-clause-has_room
read_with-requires-clause-has_room c =
    small-room (aids_in c.args.input) c.in_ok-front.front c.in_ok-front.ensures.sound (omega arith) (omega arith)

pub read_with-requires-else-area-le-SMALL_SAMPLES-clause-counted : goal.read_with-requires-else-area-le-SMALL_SAMPLES-clause-counted
read_with-requires-else-area-le-SMALL_SAMPLES-clause-counted c =
    counted (goal.at.read_with-requires-else-area-le-SMALL_SAMPLES-clause-counted c).In_ok-front

pub read_with-requires-else-area-le-SMALL_SAMPLES-clause-has_room : goal.read_with-requires-else-area-le-SMALL_SAMPLES-clause-has_room
read_with-requires-else-area-le-SMALL_SAMPLES-clause-has_room c =
    let few = area-few (aids_in c.args.input) c.in_ok-front.front c.in_ok-front.ensures.sound in
    small-room (aids_in c.args.input) c.in_ok-front.front c.in_ok-front.ensures.sound few (omega arith)

pub read_with-requires-clause-fits : goal.read_with-requires-clause-fits
read_with-requires-clause-fits c =
    let l = enough (goal.at.read_with-requires-clause-fits c).Else-not-lengths_ok in
    (omega (arith, l.samples_lent), omega (arith, l.records_lent))

pub read_with-requires-else-area-le-SMALL_SAMPLES-clause-fits : goal.read_with-requires-else-area-le-SMALL_SAMPLES-clause-fits
read_with-requires-else-area-le-SMALL_SAMPLES-clause-fits c =
    let l = enough (goal.at.read_with-requires-else-area-le-SMALL_SAMPLES-clause-fits c).Else-not-lengths_ok in
    (l.samples_lent, l.records_lent)
