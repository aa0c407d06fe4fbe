-- `draw` meets its contract, by what the record means.
use borrow.Author.Rules.{rules}
use mathlib.Core.Bool.{true}
use mathlib.Core.Path.{◌≡◌, refl, ap, ◌∙◌}
use Rattle.arith.proofs.CheckLaws.{given-never, given-same}
use Rattle.pattern.specs.Refusal.{number_of}
use Rattle.pattern.specs.Size.{size_ok}
use Rattle.pattern.specs.Words.{pattern_number}
use Rattle.choice.specs.Case.{Case, case_in}
use Rattle.choice.specs.Record.{pattern_of}
use Rattle.sheet.specs.Place.{draw_refusal}
use Rattle.sheet.proofs.MeaningLaws.{contour-given, case-named, case-listed, case-contour, case-lit, case-drawable, case-drawn, case-refused, textured-by}
use Rattle.sheet.proofs.spot.Drawing.draw.Goals.{Joined-branch-2, Start, in-Listed, in-Contour+in_ok-pattern-in-Contour}
use Rattle.sheet.proofs.spot.Drawing.draw.Goals as goal

-- the case that the record is drawn for, and the refusal of the record
abbrev case : goal.Start → Case
case d = case_in d.args.self.case

-- its size is allowed
sized : (d : goal.Start) → size_ok d.args.self.case.n ≡ true
sized d = rw d.args.self.here d.args.self.spot.sized

pub returns-in_err-p : goal.returns-in_err-p
returns-in_err-p c =
    let a = c.args in
    let told = rw (textured-by a.self.case.texture.now c.is_empty.ensures) at c.in_err-p.ensures in
    let q = case-refused (case_in a.self.case) a.r a.self.spot.width a.self.spot.x a.self.spot.y a.samples.now told in
    let number : number_of c.in_err-p.field-0.0 ≡ draw_refusal (case_in a.self.case) a.r = q.0 in
    record { number = search rules; left = q.1 }

pub returns-in_err-pattern-in-Contour : goal.returns-in_err-pattern-in-Contour
returns-in_err-pattern-in-Contour c =
    let a = c.args in
    let told = rw (textured-by a.self.case.texture.now c.is_empty.ensures, c.in-Contour.is) at c.in_ok-p.ensures in
    given-never
    (c.in_err-pattern-in-Contour.ensures
    ∙ contour-given a.self.case.n a.self.case.texture.now (sized (goal.at.returns-in_err-pattern-in-Contour c).Start)
    (case-lit (case_in a.self.case) a.r _ told a.self.lit))

-- a record that is not refused, and its pattern
named :
    (c : goal.Joined-branch-2)
    → let C = case (goal.at.Joined-branch-2 c).Start in
    (draw_refusal C c.args.r ≡ 0) × (pattern_number c.match-branch-2.pattern ≡ pattern_of C c.args.r)
named c =
    let a = c.args in
    let C = case_in a.self.case in
    let said = rw (textured-by a.self.case.texture.now c.is_empty.ensures) at c.in_ok-p.ensures in
    elim c.match-branch-2.branch [
      | in-Listed w ↦
          let e = rw w.in-Listed.is at said in
          (case-named C a.r e, ap pattern_number w.pattern-is ∙ case-listed C a.r e)
      | in-Contour+in_ok-pattern-in-Contour w ↦
          let e = rw w.in-Contour.is at said in
          let full = case-lit C a.r _ e a.self.lit in (
            case-named C a.r e,
            ap pattern_number w.pattern-is
                ∙ given-same (w.in_ok-pattern-in-Contour.ensures ∙ contour-given a.self.case.n a.self.case.texture.now (sized (goal.at.Joined-branch-2 c).Start) full)
                ∙ case-contour C a.r e,
          )
    ]

pub predicted_block-b-requires : goal.predicted_block-b-requires
predicted_block-b-requires c =
    let d = (goal.at.predicted_block-b-requires c).Start in
    let q = named (goal.at.predicted_block-b-requires c).Joined-branch-2 in
    case-drawable (case d) c.args.r q.0 q.1 c.args.self.valued

pub returns : goal.returns
returns c =
    let a = c.args in
    let d = (goal.at.returns c).Start in
    let p = named (goal.at.returns c).Joined-branch-2 in
    let put = rw (← a.self.here, c.predicted_block-b.ensures) at c.put.ensures in
    let q = case-drawn (case d) a.r p.0 a.self.spot.width a.self.spot.x a.self.spot.y a.samples.now p.1 refl refl put in
    record { number = q.0; left = q.1 }
