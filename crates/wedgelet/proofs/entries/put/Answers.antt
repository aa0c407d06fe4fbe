-- `put` meets its contract: one word is stored, or four.
use Prim.Native.Nat.{ℕ, ◌+◌, ◌*◌, ◌≤◌}
use mathlib.Core.Path.{◌≡◌, refl, sym, ap, ap₂, ◌∙◌}
use mathlib.Core.List.{List, [], ◌∷◌, ◌++◌}
use native.Mathlib.Nat.{one-mul}
use native.Mathlib.Omega.{arith}
use borrow.Author.Rules.{rules}
use lib.ListN.{length, take, drop}
use lib.Seq.{sets, sets-eq, take-length}
use Rattle.std.proofs.lemmas.List.{take_all}
use Rattle.std.proofs.lemmas.Slice.{put_mid-paste}
use Rattle.pattern.specs.Words.{pattern_number, words_of, in_words}
use Rattle.pattern.proofs.WordLaws.{number-narrow, in-narrow, length-in, room-wide, width_narrow, width-wide}
use Rattle.wedgelet.proofs.EntryLaws.{in_taken}
use Rattle.wedgelet.proofs.entries.put.Goals as goal

pub returns-then-size-le8 : goal.returns-then-size-le8
returns-then-size-le8 c =
    let a = c.args in
    let n = a.size.n in
    let t = c.if-size-le8.true in
    sym
    (ap₂ (sets a.list.now) (ap (λ (x : ℕ). x * a.entry) (width_narrow n t) ∙ one-mul a.entry)
    (in-narrow n (pattern_number a.p) t ∙ ap (λ (x : ℕ). x ∷ []) (number-narrow n _ _ _ _ t (search rules) c.requires.1)))

pub returns : goal.returns
returns c =
    let a = c.args in
    let n = a.size.n in
    let l = a.list.now in
    let at = 4 * a.entry in
    let width : words_of n ≡ 4 = width-wide n c.if-size-le8.false in
    let words = in_words n (pattern_number a.p) in
    let long : length words ≡ 4 = length-in n (pattern_number a.p) ∙ width in
    let stored : words ≡ a.p.words =
    in_taken n a.p.words (search rules) (λ i. search rules) c.requires.1
    ∙ ap (λ (x : ℕ). take x a.p.words) width
    ∙ take_all 4 a.p.words (search rules) in
    let fits : at + length words ≤ length l = omega (arith, long, room-wide n a.entry (length l) c.if-size-le8.false c.requires.0) in
    put_mid-paste at _ l _ words (length words) (c.copy_from_slice.ensures.after ∙ sym stored) (omega (arith, long)) refl
    ∙ ap (λ (x : List ℕ). take at l ++ x ++ drop (at + length words) l) (take-length words)
    ∙ sym (sets-eq words l at fits)
    ∙ ap (λ (x : ℕ). sets l (x * a.entry) words) (sym width)
