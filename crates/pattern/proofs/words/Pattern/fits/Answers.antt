-- `fits` meets its contract: four words have no bit from k up where none of them has one there.
use Prim.Native.Nat.{ℕ, ◌-◌, ◌*◌, ◌^◌, ◌<◌, ◌≤◌}
use mathlib.Core.Bool.{Bool, true, false, ◌&&◌}
use mathlib.Core.Path.{◌≡◌, sym, ap, ◌∙◌}
use native.Mathlib.Nat.{lt_of_lt_of_le}
use borrow.Author.Tests.{lt-ltb, le-leb}
use lib.Dec.{eqb, ltb}
use lib.ListN.{length, get_or}
use lib.Pow.{pow_mono}
use Rattle.std.proofs.Common.{rules, tests}
use Rattle.std.proofs.lemmas.Iterator.{cases_from_all, YieldsList-from_slice}
use Rattle.std.proofs.lemmas.Iterator.Consumers.{YieldsList-from_enumerate}
use Rattle.arith.proofs.SquareLaws.{square_le}
use Rattle.pattern.proofs.SizeLaws.{square-64}
use Rattle.pattern.proofs.WordLaws.{four-lt, first_below, below_found}
use Rattle.pattern.specs.Size.{word_ok}
use Rattle.pattern.specs.Words.{four_at}
use Rattle.pattern.proofs.words.Pattern.fits.Goals.{Start}
use Rattle.pattern.proofs.words.Pattern.fits.Goals as goal

-- up to 8 by 8: the upper words are 0, and the first has no bit from n * n up
narrow_fit : (c : Start) → c.args.n ≤ 8 → let w = c.args.self.words in
    word_ok c.args.n (four_at w 0) ≡ (((eqb (get_or w 3 0) 0 && eqb (get_or w 2 0) 0) && eqb (get_or w 1 0) 0) && ltb (get_or w 0 0) (2 ^ (c.args.n * c.args.n)))
narrow_fit c h = first_below _ _ _ _ _ (search rules) (search rules) (search rules) (square-64 h)

pub returns-then-first_alone : goal.returns-then-first_alone
returns-then-first_alone c =
    let s = (goal.at.returns-then-first_alone c).Start in
    c.word_below.ensures
    ∙ sym
    (narrow_fit s c.if-n-le8.true
    ∙ ap (λ (t : Bool). t && ltb (get_or c.args.self.words 0 0) (2 ^ (c.args.n * c.args.n))) (sym c.first_alone.ensures ∙ c.if-first_alone.true))

pub returns-else-first_alone : goal.returns-else-first_alone
returns-else-first_alone c =
    let s = (goal.at.returns-else-first_alone c).Start in
    c.if-first_alone.false
    ∙ sym
    (narrow_fit s c.if-n-le8.true
    ∙ ap (λ (t : Bool). t && ltb (get_or c.args.self.words 0 0) (2 ^ (c.args.n * c.args.n))) (sym c.first_alone.ensures ∙ c.if-first_alone.false))

pub returns-then-n-ge-GREATEST_SIZE : goal.returns-then-n-ge-GREATEST_SIZE
returns-then-n-ge-GREATEST_SIZE c =
    le-leb 16 c.args.n c.if-n-ge-GREATEST_SIZE.true
    ∙ sym
    (lt-ltb _ _
    (lt_of_lt_of_le (four-lt _ _ _ _ (search rules) (search rules) (search rules) (search rules))
    (pow_mono (square_le {n = 16} c.if-n-ge-GREATEST_SIZE.true))))

-- four words, each of 64 bits
four_fit : (c : Start) → let w = c.args.self.words in
    (length w ≡ 4) × (get_or w 0 0 < 2 ^ 64) × (get_or w 1 0 < 2 ^ 64) × (get_or w 2 0 < 2 ^ 64)
four_fit c = (search rules, search rules, search rules, search rules)

pub returns-else-n-ge-GREATEST_SIZE : goal.returns-else-n-ge-GREATEST_SIZE
returns-else-n-ge-GREATEST_SIZE c =
    let k = c.args.n * c.args.n in
    let w = four_fit (goal.at.returns-else-n-ge-GREATEST_SIZE c).Start in
    let below = λ (e : ℕ × ℕ). ltb e.1 (2 ^ (k - 64 * e.0)) in
    below_found c.args.self.words k w.0 w.1 w.2 w.3 c.all.result
    (cases_from_all _ _ _ (λ e. below e ≡ true) (λ e. below e ≡ false) c.all.ensures.ran
    (YieldsList-from_enumerate (YieldsList-from_slice c.args.self.words (search rules)) (search rules))
    (λ x q g. search (rules, tests)) (λ x q g. search (rules, tests)))
