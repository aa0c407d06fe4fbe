-- `compose_missing` meets its contract: the loop keeps `Going`.
use borrow.Author.Rules.{rules}
use Prim.Native.Nat.{ℕ, ◌-◌, ◌≤◌, ◌<◌}
use mathlib.Core.List.{List, ◌++◌}
use mathlib.Core.Path.{◌≡◌, refl, sym, ap, ◌∙◌}
use native.Mathlib.Omega.{arith}
use lib.IntN.{ℤ}
use lib.ListN.{length, set, drop, length-set}
use lib.Seq.{length-take-le}
use Rattle.std.proofs.lemmas.List.{take-append-drop, set-get_or, set-append_left}
use Rattle.arith.specs.Checks.{Answer, refused, answer}
use Rattle.arith.proofs.CheckLaws.{answer-refused}
use Rattle.pattern.specs.Refusal.{number_of}
use Rattle.pattern.specs.Words.{patterns_of}
use Rattle.sheet.specs.State.{finished}
use Rattle.sheet.specs.Compose.{missing, Task, choice_refusal}
use Rattle.sheet.specs.declared.Sheet.{Sheet}
use Rattle.sheet.specs.Told.{task_in}
use Rattle.sheet.proofs.PlaceLaws.{length-placed}
use Rattle.sheet.proofs.TurnLaws.{going-none, going_more}
use Rattle.sheet.proofs.TurnEnds.{Turn, turn, turn-fits, turn-refused, turn-kept, turn-none, turn-chosen, turn-painted}
use Rattle.sheet.proofs.TurnEnds.{left-refused}
use Rattle.sheet.proofs.Sheet.compose_missing.Goals.{In-loop-record, Start}
use Rattle.sheet.proofs.Sheet.compose_missing.Goals as goal

-- what the call is given
abbrev task : goal.Start → Task
task d = task_in d.args.self.n d.args.input

pub loop-record-init : goal.loop-record-init
loop-record-init c =
    let a = c.args in
    let few : c.blocks-last.result - a.self.placed ≤ length a.records.now = omega (arith, c.blocks-last.ensures, c.requires.room) in
    record {
      whole = refl;
      going = rw take-append-drop (going-none a.self (task (goal.at.loop-record-init c).Start) a.samples.now a.records.now);
      room = length-take-le _ _ few;
    }

-- what holds in a turn
more : (c : goal.In-loop-record) → c.loop-record.record-index < missing c.args.self
more c = omega (arith, c.blocks-last.ensures, c.loop-record-test.true, c.loop-record.invariant.room)

this :
    (c : goal.In-loop-record)
    → Turn c.args.self (task (goal.at.In-loop-record c).Start) c.loop-record.self c.loop-record.samples
this c =
    let a = c.args in
    let i = c.loop-record.invariant in
    turn a.self (task (goal.at.In-loop-record c).Start) a.samples.now a.records.now c.requires i.going (more c) i.whole

-- the list is read for the size that the sheet has from the start
same-patterns :
    (c : goal.In-loop-record)
    → let words = c.args.input.place.list.words.now in
    patterns_of c.loop-record.self.n words ≡ patterns_of c.args.self.n words
same-patterns c = ap (λ (n : ℕ). patterns_of n c.args.input.place.list.words.now) (this c).same_size

pub compose_next-requires-clause-fits : goal.compose_next-requires-clause-fits
compose_next-requires-clause-fits c =
    let l = (goal.at.compose_next-requires-clause-fits c).In-loop-record in
    rw (same-patterns l) (turn-fits (this l))

pub returns-in_err-compose_next : goal.returns-in_err-compose_next
returns-in_err-compose_next c =
    let a = c.args in
    let t = task (goal.at.returns-in_err-compose_next c).Start in
    let l = (goal.at.returns-in_err-compose_next c).In-loop-record in
    let told = rw (same-patterns l) at c.in_err-compose_next.ensures.answered in
    let left = rw (same-patterns l) at c.compose_next.ensures.left in
    let m = turn-refused (this l) told in
    let h : choice_refusal a.self t ≡ 0 → ⊥ = λ z. m.1 (m.0 ∙ z) in
    let answered : ◌≡◌ {A = Answer (Sheet × ℕ)} (refused (number_of c.in_err-compose_next.field-0.0)) (answer (choice_refusal a.self t) (finished a.self, missing a.self)) =
    ap refused m.0 ∙ answer-refused (choice_refusal a.self t) (finished a.self, missing a.self) h in
    record {
      answered = search rules;
      left = rw (turn-kept (this l) told left, set-get_or) (left-refused a.self t a.samples.now a.records.now c.loop-record.invariant.going h);
    }

pub loop-record-preserved : goal.loop-record-preserved
loop-record-preserved c =
    let a = c.args in
    let i = c.loop-record.invariant in
    let t = task (goal.at.loop-record-preserved c).Start in
    let l = (goal.at.loop-record-preserved c).In-loop-record in
    let told = rw (same-patterns l) at c.in_ok-compose_next.ensures.answered in
    let left = rw (same-patterns l) at c.compose_next.ensures.left in
    let painted = turn-painted (this l) told left in
    let kept = drop (c.blocks-last.result - a.self.placed) a.records.now in
    record {
      whole = ap length painted ∙ length-placed _ _ _ _ ∙ i.whole;
      going = going_more a.self t a.samples.now a.records.now _ i.going
          (omega (arith, more l, c.requires.room))
          (turn-none (this l) told)
          (turn-chosen (this l) told)
          refl
          painted
          (ap (λ (v : List ℤ). set c.loop-record.record-items c.loop-record.record-index v ++ kept) c.into.ensures
          ∙ sym (set-append_left c.loop-record.record-items kept c.loop-record.record-index _ (omega (arith, c.loop-record-test.true))));
      room = simp length-set i.room;
    }
