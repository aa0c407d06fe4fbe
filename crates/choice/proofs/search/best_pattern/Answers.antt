-- `best_pattern` meets its contract: before turn p the first of least cost among the patterns 0 .. p - 1 is kept.
use Prim.Native.Nat.{ℕ, ◌*◌, ◌≤◌}
use borrow.Author.Rules.{rules}
use mathlib.Core.Logic.{⊎_elim}
use mathlib.Core.Path.{◌≡◌, refl, sym, ap, ◌∙◌}
use Rattle.std.proofs.lemmas.Fn.{always_returns_same}
use Rattle.choice.specs.declared.search.Picked.{Picked}
use Rattle.choice.proofs.ToldLaws.{smaller-by, size-given, size-number}
use native.Mathlib.Omega.{arith}
use lib.ListN.{length}
use Rattle.depth_table.proofs.TableLaws.{table-counts}
use Rattle.pattern.proofs.SizeLaws.{size-bounds, square-256}
use Rattle.choice.specs.Case.{case_in}
use Rattle.choice.specs.Search.{pattern_at}
use Rattle.choice.proofs.AcceptLaws.{Accepted, accepted}
use Rattle.choice.proofs.TriedLaws.{tried-first, tried-more, tried-few, tried-all-few}
use Rattle.choice.proofs.SearchLaws.{texture-judged, sides-one, sides-new, sides-old, sides_all}
use Rattle.choice.proofs.search.best_pattern.Goals.{Start, After-unwrap-size}
use Rattle.choice.proofs.search.best_pattern.Goals as goal

-- the case is not refused
fine : (c : goal.Start) → Accepted (case_in c.args.input)
fine c = accepted (case_in c.args.input) c.requires

-- at most 256 samples
few : (c : goal.Start) → length c.args.input.original.now ≤ 256
few c = omega (arith, (fine c).lengths.square, square-256 {n = c.args.input.n} (size-bounds c.args.input.n (fine c).size).1)

pub put_below-requires : goal.put_below-requires
put_below-requires c = few (goal.at.put_below-requires c).Start

pub put_sums-requires : goal.put_sums-requires
put_sums-requires c = (few (goal.at.put_sums-requires c).Start, refl)

pub unwrap-size-requires : goal.unwrap-size-requires
unwrap-size-requires c = size-given c.args.input.n c.try_from.result c.try_from.ensures (fine (goal.at.unwrap-size-requires c).Start).size

-- the size is that of the block
sized : (c : goal.After-unwrap-size) → c.unwrap-size.result.n ≡ c.args.input.n
sized c = size-number c.args.input.n c.try_from.result c.try_from.ensures c.unwrap-size.ensures

pub invariant_of-depths : goal.invariant_of-depths
invariant_of-depths c =
    let k = fine (goal.at.invariant_of-depths c).Start in
    record {
      bordered = k.lengths.bordered ∙ ap (λ (n : ℕ). 4 * n) (sym (sized (goal.at.invariant_of-depths c).After-unwrap-size));
      sound = k.sound;
    }

-- a sound table has a value
pub overflow_sub-input : goal.overflow_sub-input
overflow_sub-input c = omega (arith, table-counts _ (fine (goal.at.overflow_sub-input c).Start).sound)

pub contour-requires : goal.contour-requires
contour-requires c =
    let k = fine (goal.at.contour-requires c).Start in
    texture-judged _ _ k.size k.lengths.optional

pub new-requires : goal.new-requires
new-requires c =
    record { few = few (goal.at.new-requires c).Start; below_at = c.put_below.ensures; sums_at = c.put_sums.ensures }

pub loop-number-init : goal.loop-number-init
loop-number-init c =
    let C = case_in c.args.input in
    let first = c.weigh-best.ensures in
    (omega arith, rw first.0 (sides-one C first.1), tried-first C first.2)

pub overflow_add-tried : goal.overflow_add-tried
overflow_add-tried c =
    let C = case_in c.args.input in
    let near = (fine (goal.at.overflow_add-tried c).Start).near in
    let inv = c.loop-number.invariant in
    let p = c.loop-number.number in
    record {
      fits = omega (arith, c.patterns-end.ensures, inv.0, inv.2, tried-all-few C near p, c.weigh-next.ensures.2, tried-few C near (pattern_at C p));
    }

pub loop-number-preserved : goal.loop-number-preserved
loop-number-preserved c =
    let C = case_in c.args.input in
    let inv = c.loop-number.invariant in
    let next = c.weigh-next.ensures in (
      omega (arith, c.patterns-end.ensures),
      ⊎_elim
          (λ q. rw (q.1, next.0) (sides-new C inv.1 next.1 q.0))
          (λ q. rw q.1 (sides-old C inv.1 next.1 q.0))
          (smaller-by (λ (p : Picked). p.cost) c.loop-number.best c.weigh-next.result
          (c.min_by_key.ensures (λ (p : Picked). p.cost) (always_returns_same _ _ _ (λ a r f k. (search rules, refl))))),
      tried-more C c.loop-number.number inv.2 next.2,
    )

pub returns : goal.returns
returns c =
    let C = case_in c.args.input in
    let inv = c.loop-number.invariant in
    sides_all C inv.1 inv.2 (omega (arith, c.patterns-end.ensures, inv.0, c.loop-number-test.false))
