-- `nearest` meets its contract: the closure takes the nearer of two distances, in the order in which the definition does.
use Rattle.std.proofs.Common.{◌≡◌, ℕ, ◌<◌, length, get_or, Some, IfSome, List, Iter, rules}
use mathlib.Core.Path.{sym, ap, subst, ◌∙◌}
use native.Mathlib.Omega.{arith}
use Rattle.arith.specs.Distance.{dist}
use Rattle.depth_table.proofs.NearestLaws.{either, given, mapped, item, nearer, Numbered, folded_all}
use Rattle.depth_table.proofs.nearest.Goals as goal

pub returns : goal.returns
returns c =
    let run = c.reduce-nearest.ensures.runs in
    let items = c.enumerate.ensures.runs run.0 run.0.seen run.1 in
    let mapping = c.map-distances.ensures.runs items.1.0 items.1.0.seen items.1.1 in
    let values = c.iter.ensures.runs mapping.0 mapping.0.seen in
    let t = c.args.table.now in
    let from : mapping.0.from.rest.now ≡ t = ap (λ (s : Iter ℕ). s.rest.now) mapping.1 ∙ c.iter.ensures.rest in
    let long : run.0.len ≡ length t =
    sym items.1.2.0.0 ∙ mapping.2.1 ∙ values.1 (mapping.2.0 ∙ items.1.2.1 ∙ run.2) ∙ ap length from
    in
    let maps = mapping.2.2 (λ a q f h. search rules) in
    let each : (k : ℕ) (z : ℕ × ℕ) → k < length t → Numbered t c.args.d.0 (get_or run.0.items k z) k =
    λ k z l.
    item (run.0.at k) (items.0 k)
    (subst (λ o. IfSome o (λ a. a ≡ dist c.args.d.0 (get_or t k 0))) (items.1.2.0.2 k)
    (mapped c.args.d.0 (items.1.0.at k) (mapping.0.at k) (maps.1 k)
    (values.2 k 0 (omega (arith, l, long, items.1.2.0.0, mapping.2.1)) ∙ ap (λ (u : List ℕ). Some (get_or u k 0)) from)
    (λ x y h. search (h, rules))))
    (run.0.reads k z (omega (arith, l, long)))
    in
    either c.reduce-nearest.result run.3 c.map.ensures.cases (λ none r. search (none, r, long, rules))
    (λ x best r.
    let folds = best.1.3 (nearer t c.args.d.0) (λ a b q f h. (search rules, search rules)) in
    given _ c.map.result r
    (λ k q.
    let answer : k.0 ≡ x.0 = search (q, rules) in (
      omega (arith, best.0, long),
      answer ∙ ap (λ (i : ℕ × ℕ). i.0) folds
          ∙ folded_all t c.args.d.0 best.1.0 best.1.1 (sym (ap length best.1.2) ∙ sym run.0.long ∙ long)
          (λ j z l. subst (λ (u : List (ℕ × ℕ)). Numbered t c.args.d.0 (get_or u j z) j) best.1.2 (each j z l)),
    )))
