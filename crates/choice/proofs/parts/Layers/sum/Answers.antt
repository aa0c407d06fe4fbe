-- `sum` meets its contract: the sums of all words, or of the one word.
use borrow.Author.Rules.{rules}
use native.Mathlib.Omega.{arith}
use Prim.Native.Nat.{ℕ, ◌+◌, ◌≤◌}
use mathlib.Core.Path.{◌≡◌, refl, ◌∙◌}
use mathlib.Core.List.{map}
use lib.ListN.{length, get_or}
use Rattle.std.specs.List.{sum, range_with_len}
use Rattle.std.proofs.lemmas.Iterator.{YieldsList-from_map, YieldsList-from_range}
use Rattle.std.proofs.lemmas.Iterator.Consumers.{sum_from_yields_List, fits_from_yields_list}
use Rattle.pattern.specs.Words.{pattern_number}
use Rattle.choice.specs.Sums.{marked_sum, bytes_sum}
use Rattle.choice.proofs.LayerLaws.{one-word}
use Rattle.choice.proofs.SumLaws.{one-marked, four-marked, marked-le}
use Rattle.choice.proofs.parts.Layers.sum.Goals.{Start, After-sum-rest}
use Rattle.choice.proofs.parts.Layers.sum.Goals as goal

-- the sum of the samples that a word of the pattern marks
abbrev of_word : goal.Start → ℕ → ℕ
of_word c i = bytes_sum c.args.self.now.sums.now i (get_or c.args.p.words i 0) 8

-- those of the other words, and the first, are the sum of the pattern's samples
all : (c : goal.Start) →
    let s = c.args.self.now.samples.now in
    sum (map (of_word c) (range_with_len 1 3)) + of_word c 0 ≡ marked_sum (λ k. get_or s k 0) (pattern_number c.args.p) (length s)
all c =
    let s = c.args.self.now in
    let p = c.args.p in
    let e = four-marked s.samples.now s.sums.now s.layered.sums_at (get_or p.words 0 0) (get_or p.words 1 0) (get_or p.words 2 0) (get_or p.words 3 0) (search rules) (search rules) (search rules) s.layered.few c.requires in
    let f : 0 + of_word c 1 + of_word c 2 + of_word c 3 + of_word c 0 ≡ of_word c 3 + of_word c 2 + of_word c 1 + of_word c 0 = omega arith in
    f ∙ e

-- which is small
few : (c : goal.Start) → let s = c.args.self.now.samples.now in marked_sum (λ k. get_or s k 0) (pattern_number c.args.p) (length s) ≤ 65280
few c =
    let s = c.args.self.now in
    omega (arith, s.layered.few, marked-le (λ k. get_or s.samples.now k 0) (pattern_number c.args.p) 255 (length s.samples.now) (λ k. let b = s.bytes k in omega (arith, b)))

pub returns-then-self-le64 : goal.returns-then-self-le64
returns-then-self-le64 c =
    let s = c.args.self.now in
    let p = c.args.p in
    c.word_sum-first.ensures
    ∙ one-marked s.samples.now s.sums.now s.layered.sums_at (get_or p.words 0 0) (get_or p.words 1 0) (get_or p.words 2 0) (get_or p.words 3 0)
    (search rules) (one-word (length s.samples.now) _ c.if-self-le64.true c.requires) c.requires

pub sum-rest-requires-clause-fits : goal.sum-rest-requires-clause-fits
sum-rest-requires-clause-fits c =
    let k = (goal.at.sum-rest-requires-clause-fits c).Start in
    fits_from_yields_list c.map.result _
    (YieldsList-from_map _ (of_word k) (YieldsList-from_range 1 _ 3 c.map.ensures.source refl) c.map.ensures.closure (λ x r q k. search rules))
    (omega (arith, all k, few k))

-- what the words after the first add up to
rest : (c : After-sum-rest) → c.sum-rest.result ≡ sum (map (of_word (goal.at.After-sum-rest c).Start) (range_with_len 1 3))
rest c =
    let k = (goal.at.After-sum-rest c).Start in
    sum_from_yields_List c.map.result _ c.sum-rest.ensures.ran
    (YieldsList-from_map _ (of_word k) (YieldsList-from_range 1 _ 3 c.map.ensures.source refl) c.map.ensures.closure (λ x r q k. search rules))

pub overflow_add-result : goal.overflow_add-result
overflow_add-result c =
    let g = goal.at.overflow_add-result c in
    omega (arith, rest g.After-sum-rest, c.word_sum-first.ensures, all g.Start, few g.Start)

pub returns : goal.returns
returns c =
    let g = goal.at.returns c in
    omega (arith, rest g.After-sum-rest, c.word_sum-first.ensures, all g.Start)
