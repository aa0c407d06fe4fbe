-- The steps of writing as the code takes them: texts that are written one after the other.
use Prim.Native.Nat.{ℕ, suc, ◌+◌, ◌-◌, ◌≤◌}
use mathlib.Core.Path.{◌≡◌, refl, sym, ◌∙◌, ap, subst}
use mathlib.Core.List.{List, [], ◌∷◌, ◌++◌, append_assoc}
use native.Mathlib.Omega.{arith}
use native.Mathlib.Nat.{add-zero, add-suc, suc-add}
use lib.ListN.{length, set, take, drop, length-append, take-append-drop}
use lib.Seq.{sets, sets-eq, length-sets}
use borrow.Rule.Slice.PartMut.{put_mid, Post-is}
use Rattle.record_print.specs.Put.{Written}

-- ---- one text after the other

pub sets-append : (vs ws l : List ℕ) (i : ℕ) → sets l i (vs ++ ws) ≡ sets (sets l i vs) (i + length vs) ws
sets-append [] ws l i = rw (add-zero i)
sets-append (a ∷ vs) ws l i = rw (add-suc i (length vs), ← suc-add i (length vs)) (sets-append vs ws (set l i a) (suc i))

pub written_then :
    {l₀ l₁ l₂ v w : List ℕ} {p q r : ℕ} → Written l₀ l₁ p v q → Written l₁ l₂ q w r → Written l₀ l₂ p (v ++ w) r
written_then {l₀} {l₁} {l₂} {v} {w} {p} {q} {r} a b =
    record {
      lent = b.lent ∙ rw (a.lent, a.place, sets-append v w l₀ p);
      place = omega (arith, length-append v w, a.place, b.place);
    }

pub written-length : {l₀ l₁ v : List ℕ} {p q : ℕ} → Written l₀ l₁ p v q → length l₁ ≡ length l₀
written-length {l₀} {l₁} {v} {p} a = ap length a.lent ∙ length-sets l₀ p v

pub written_as : {l₀ l₁ v w : List ℕ} {p q : ℕ} → Written l₀ l₁ p v q → v ≡ w → Written l₀ l₁ p w q
written_as {l₀} {l₁} {v} {w} {p} {q} h e = subst (λ (x : List ℕ). Written l₀ l₁ p x q) e h

-- ---- room for two texts: once the first is written, for the second

pub room_next :
    {l₀ l₁ v : List ℕ} {p q : ℕ} (w : List ℕ) → p + length (v ++ w) ≤ length l₀ → Written l₀ l₁ p v q → q + length w ≤ length l₁
room_next {l₀} {l₁} {v} {p} {q} w h a = omega (arith, length-append v w, a.place, written-length a)

-- ---- a text copied to its place

-- the bytes with the text in the place of as many of theirs
pub written_copied :
    (old new text : List ℕ) (at : ℕ) → new ≡ text → at + length text ≤ length old
    → Written old (put_mid at (at + length text - at) old new) at text (at + length text)
written_copied old new text at e h = record {
  lent =
      rw (e, Post-is at (at + length text) old (omega arith))
      (sym (sets-eq text old at h ∙ append_assoc (take at old) text (drop (at + length text) old)));
  place = refl;
}

-- ---- a text written from its end, where it stands: up to its place nothing is changed
pub written_there :
    (old out text : List ℕ) (at to : ℕ) → take at out ≡ take at old → drop at out ≡ text ++ drop to old → at + length text ≡ to → to ≤ length old
    → Written old out at text to
written_there old out text at to before here e h =
    let parts : take at out ++ drop at out ≡ take at old ++ (text ++ drop (at + length text) old) = rw (before, here, e) refl in
    record {
      lent = sym (take-append-drop at out) ∙ parts ∙ sym (sets-eq text old at (omega (arith, e, h)) ∙ append_assoc (take at old) text (drop (at + length text) old));
      place = sym e;
    }
