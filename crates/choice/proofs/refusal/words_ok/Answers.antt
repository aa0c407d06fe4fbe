-- `words_ok` meets its contract: the first pattern with a bit too many decides.
use Prim.Native.Nat.{ℕ}
use mathlib.Core.Bool.{true, false}
use mathlib.Core.Path.{◌≡◌, refl}
use native.Mathlib.Omega.{arith}
use lib.ListN.{get_or}
use Rattle.std.proofs.Common.{rules, tests}
use Rattle.std.proofs.lemmas.Iterator.{cases_from_all, YieldsList-from_range}
use Rattle.pattern.specs.Size.{word_ok}
use Rattle.pattern.specs.Words.{patterns_of}
use Rattle.choice.proofs.AcceptLaws.{words-found}
use Rattle.choice.proofs.refusal.words_ok.Goals as goal

pub returns : goal.returns
returns c =
    let a = c.args in
    let fits = λ (k : ℕ). word_ok a.n (get_or (patterns_of a.n a.list.words.now) k 0) in
    words-found a.n (patterns_of a.n a.list.words.now) a.list.count c.all.result
    (cases_from_all _ _ _ (λ k. fits k ≡ true) (λ k. fits k ≡ false) c.all.ensures.ran (YieldsList-from_range 0 a.list.count a.list.count refl (omega arith))
    (λ x q k. search (rules, tests)) (λ x q k. search (rules, tests)))
