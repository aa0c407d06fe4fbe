-- `fill` meets its contract: after each candidate the front of the slice holds the words of the list so far, the rest its old content, and
-- the entries are chained by their number of marks.
use borrow.Author.Tests.{eqb-true}
use Prim.Native.Nat.{ℕ, ◌+◌, ◌*◌, ◌^◌, ◌≤◌, ◌<◌}
use mathlib.Core.Path.{◌≡◌, refl, sym, ap, ◌∙◌}
use mathlib.Core.List.{◌++◌}
use native.Mathlib.Omega.{arith}
use native.Mathlib.Numerals.{add-one}
use lib.Count.{ones}
use lib.ListN.{length, drop}
use Rattle.arith.proofs.BitLaws.{ones_none, ones-zero}
use Rattle.pattern.specs.Words.{pattern_number, words_of, word_list}
use Rattle.wedgelet.specs.Wedgelet.{points, ends, starts, wedgelet_list}
use Rattle.wedgelet.specs.Answer.{needed, most_patterns}
use Rattle.wedgelet.proofs.PointLaws.{wedgelet-lt}
use Rattle.wedgelet.proofs.Growth.{skip-same, room, ends-length}
use Rattle.wedgelet.proofs.Chain.{past}
use Rattle.wedgelet.proofs.Front.{grown-none, grown-as, grown-self, grown-over, grown-zero, grown-held, grown-kept, room_at}
use Rattle.wedgelet.proofs.AnswerLaws.{patterns-enough}
use Rattle.wedgelet.proofs.list.fill.Goals.{After-candidate_of-p, Else-e-s}
use Rattle.wedgelet.proofs.list.fill.Goals as goal

-- the pattern is one of the block
small : (c : goal.After-candidate_of-p) → pattern_number c.candidate_of-p.result < 2 ^ (c.args.size.n * c.args.size.n)
small c =
    rw c.candidate_of-p.ensures (wedgelet-lt c.args.size.n c.loop-s.s c.next.e (omega arith))

-- one pattern more is less than the list needs
free : (c : goal.Else-e-s) → c.next.count < needed c.args.size.n
free c =
    omega (
      arith,
      c.next.invariant.1.front.counted,
      room c.args.size.n c.loop-s.s c.next.e (omega arith) (omega arith) c.if-e-s.false,
    )

few : (c : goal.Else-e-s) → c.next.count < most_patterns
few c = omega (arith, free c, patterns-enough c.args.size.n c.args.size.high)

-- there is room for it, and for each entry before
fits : (c : goal.Else-e-s) (k : ℕ) → k ≤ c.next.count → words_of c.args.size.n * (k + 1) ≤ length c.next.list
fits c k h =
    let same : length c.next.list ≡ length c.args.list.now = c.next.invariant.1.front.same ∙ c.loop-s.invariant.1.front.same in
    rw same (room_at c.args.size.n k (length c.args.list.now) (omega (arith, free c)) c.requires)

pub loop-s-init : goal.loop-s-init
unfolding starts
loop-s-init c = (omega arith, grown-none _ _)

pub next-init : goal.next-init
unfolding ends
next-init c = (omega arith, grown-self c.loop-s.invariant.1)

pub next-preserved-then-e-s : goal.next-preserved-then-e-s
next-preserved-then-e-s c = (omega arith, grown-as (skip-same _ _ _ _ c.if-e-s.true) c.next.invariant.1)

pub is_at-requires : goal.is_at-requires
is_at-requires c =
    let a = goal.at.is_at-requires c in
    let e = ap past c.in-Some.is in
    (fits a.Else-e-s c.from-entry.result (omega (arith, e, c.loop-place.invariant.within)), small a.After-candidate_of-p)

pub bounds-earlier-entry : goal.bounds-earlier-entry
bounds-earlier-entry c =
    let e = ap past c.in-Some.is in
    omega (arith, e, c.loop-place.invariant.within, few (goal.at.bounds-earlier-entry c).Else-e-s)

pub put-requires : goal.put-requires
put-requires c =
    (fits (goal.at.put-requires c).Else-e-s c.next.count (omega arith), small (goal.at.put-requires c).After-candidate_of-p)

pub offset_bounds-earlier-count : goal.offset_bounds-earlier-count
offset_bounds-earlier-count c = omega (arith, few (goal.at.offset_bounds-earlier-count c).Else-e-s)

pub bounds-earlier-count : goal.bounds-earlier-count
bounds-earlier-count c = few (goal.at.bounds-earlier-count c).Else-e-s

pub overflow_cast-latest : goal.overflow_cast-latest
overflow_cast-latest c = omega (arith, few (goal.at.overflow_cast-latest c).Else-e-s)

pub overflow_add-count : goal.overflow_add-count
overflow_add-count c = omega (arith, few (goal.at.overflow_add-count c).Else-e-s)

pub next-preserved : goal.next-preserved
next-preserved c = (
  omega arith,
  grown-kept _ _ _ _ _ _ _ _ c.if-e-s.false c.candidate_of-p.ensures c.next.invariant.1
      (λ z. c.if-m-eq0.false (c.marks-m.ensures.0 ∙ ap ones z ∙ ones-zero))
      (λ j h. let e = ap past c.in_default.is in c.loop-place.invariant.fresh j (omega (arith, e)) h) (fits (goal.at.next-preserved c).Else-e-s c.next.count (omega arith))
      (few (goal.at.next-preserved c).Else-e-s) (omega (arith, c.marks-m.ensures.1)) c.marks-m.ensures.0
      refl c.put.ensures,
)

-- a candidate that is dropped: it has no mark, or stands in the list
pub next-preserved-then-m-eq0 : goal.next-preserved-then-m-eq0
next-preserved-then-m-eq0 c = (
  omega arith,
  grown-zero _ _ _ _ _ _ _ _ c.if-e-s.false c.candidate_of-p.ensures c.next.invariant.1 (ones_none _ (sym c.marks-m.ensures.0 ∙ c.if-m-eq0.true)),
)

pub next-preserved-then-is_at : goal.next-preserved-then-is_at
next-preserved-then-is_at c =
    let e = ap past c.in-Some.is in (
      omega arith,
      grown-held _ _ _ _ _ _ _ _ c.if-e-s.false c.candidate_of-p.ensures c.next.invariant.1 c.from-entry.result
          (omega (arith, e, c.loop-place.invariant.within)) (eqb-true _ _ (sym c.is_at.ensures ∙ c.if-is_at.true)) refl,
    )

pub loop-s-preserved : goal.loop-s-preserved
unfolding starts
loop-s-preserved c =
    let n = c.args.size.n in
    let s = c.loop-s.s in
    let q : c.next.e ≡ points n = omega arith in (
      omega arith,
      grown-as (ap (starts n) (add-one s) ∙ ap (ends n (starts n s) s) (sym q))
          (grown-over (ends-length n (starts n s) s c.next.e).0 c.loop-s.invariant.1 c.next.invariant.1),
    )

pub returns : goal.returns
unfolding wedgelet_list
returns c =
    let f = c.loop-s.invariant.1.front in
    let n = c.args.size.n in
    let q : c.loop-s.s ≡ points n = omega arith in (
      f.counted ∙ ap (λ (x : ℕ). length (starts n x)) q,
      f.stored ∙ ap (λ (x : ℕ). word_list n (starts n x) ++ drop (words_of n * length (starts n x)) c.args.list.now) q,
    )
