-- `meaning_of` meets its contract: an offset is refused where kind and entry are not, and else the meaning is found.
use mathlib.Core.Path.{◌≡◌}
use native.Mathlib.Omega.{arith}
use borrow.Author.Rules.{rules}
use mir.ValLaws.{to_z-of_z}
use Rattle.pattern.specs.Refusal.{number_of}
use Rattle.pattern.specs.Words.{patterns_of}
use Rattle.record.specs.Meaning.{offset_refusal}
use Rattle.record.proofs.MeaningLaws.{by_offset, found}
use Rattle.record.proofs.meaning.Setting.meaning_of.Goals as goal

pub returns-in_err-check_offsets : goal.returns-in_err-check_offsets
returns-in_err-check_offsets c =
    let S = c.args.self in
    let e : number_of c.in_err-check_offsets.field-0.0 ≡ offset_refusal S.values c.args.r = grind (arith, to_z-of_z) in
    let h = by_offset S.n (patterns_of S.n S.list.words.now) S.list.count S.textured S.values c.args.r c.in_ok-meaning.ensures _ e in
    search rules

pub returns : goal.returns
returns c =
    let S = c.args.self in
    let e : 0 ≡ offset_refusal S.values c.args.r = grind (arith, to_z-of_z) in
    found S.n (patterns_of S.n S.list.words.now) S.list.count S.textured S.values c.args.r c.in_ok-meaning.ensures e
