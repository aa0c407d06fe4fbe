-- `build_list` meets its contract: the words that are lent are enough for every size.
use Prim.Native.Nat.{◌*◌, ◌≤◌}
use mathlib.Core.Path.{sym}
use native.Mathlib.Omega.{arith}
use Rattle.wedgelet.specs.Answer.{most_words}
use Rattle.show_text.specs.Steps.{Listing}
use Rattle.show_text.proofs.AidLaws.{list-lent, list-none}
use Rattle.show_text.proofs.showing.build_list.Goals.{After-words_of}
use Rattle.show_text.proofs.showing.build_list.Goals as goal

pub returns-in_err-count : goal.returns-in_err-count
returns-in_err-count c =
    rw (c.from_residual-in_err-count.ensures, ← c.in_ok-n.ensures)
    (list-none c.in_ok-n.n c.args.words.now c.wedgelets.new.list (omega (arith, c.told-words)) c.wedgelets.ensures.1
    c.wedgelets.result c.wedgelets.ensures.0 (sym c.in_err-count.ensures.value))

-- the first words, as many as the count's patterns have
listing : (c : After-words_of) → Listing c.in_ok-n.n c.wedgelets.new.list c.in_ok-count.count
listing c =
    list-lent c.in_ok-n.n c.args.words.now c.wedgelets.new.list (omega (arith, c.told-words)) c.wedgelets.ensures.1
    c.wedgelets.result c.in_ok-count.count c.wedgelets.ensures.0 (sym c.in_ok-count.ensures.value)

inside : (c : After-words_of) → c.words_of.result * c.in_ok-count.count ≤ most_words
inside c = rw c.words_of.ensures (omega (arith, (listing c).inside, c.told-words))

pub overflow_mul-words : goal.overflow_mul-words
overflow_mul-words c = record { fits = omega (arith, inside c) }

pub shared_ref_as_front-words : goal.shared_ref_as_front-words
shared_ref_as_front-words c = inside c

pub returns : goal.returns
returns c = rw (c.words_of.ensures, ← c.in_ok-n.ensures) (listing (goal.at.returns c).After-words_of).aids
