-- A loop that writes lines: what it has written so far.
use Prim.Native.Nat.{ℕ, ◌+◌, ◌*◌, ◌≤◌, ◌<◌}
use mathlib.Core.Path.{◌≡◌, refl, sym, ◌∙◌, ap}
use mathlib.Core.Bool.{Bool, true}
use mathlib.Core.List.{List}
use native.Mathlib.Numerals.{add-one}
use native.Mathlib.Omega.{arith}
use lib.ListN.{length}
use Rattle.arith.specs.Lists.{list_of}
use Rattle.record_print.specs.declared.cursor.Cursor.{Cursor}
use Rattle.record_text.specs.Lines.{texts}
use Rattle.record_text.proofs.LinesLaws.{texts-more, texts-length}
use Rattle.record_print.specs.Put.{Put, Written, printed_if}
use Rattle.record_print.proofs.PutLaws.{printed-written}
use Rattle.record_print.proofs.WriteSteps.{written-length, written_then, written_as}

module _ {A : Type 0} (text : A → List ℕ) (f : ℕ → A) where
  -- no line is written yet
  pub writing_start : (l : List ℕ) (at : ℕ) → Written l l at (texts text (list_of f 0)) at
  unfolding texts list_of
  writing_start l at = record { lent = refl; place = omega arith }

  -- one line more
  pub writing_more :
      {l₀ l l' : List ℕ} {at p q : ℕ} (i : ℕ) → Written l₀ l at (texts text (list_of f i)) p → Written l l' p (text (f i)) q
      → Written l₀ l' at (texts text (list_of f (i + 1))) q
  writing_more i a b = written_as (written_then a b) (sym (texts-more text f i) ∙ ap (λ (k : ℕ). texts text (list_of f k)) (sym (add-one i)))

module _ {A : Type 0} (text : A → List ℕ) (f : ℕ → A) (k m : ℕ) (short : (j : ℕ) → j < m → length (text (f j)) ≤ k) where
  -- one line more, where there is room for m lines of at most k bytes each
  pub line-more :
      {l₀ l l' : List ℕ} {at : ℕ} {from next : Cursor} (i : ℕ) (b : Bool) → b ≡ true → i < m → k * i + k ≤ k * m → at + k * m ≤ length l₀
      → Written l₀ l at (texts text (list_of f i)) from.at → Put l l' from (printed_if b (text (f i))) next
      → Written l₀ l' at (texts text (list_of f (i + 1))) next.at
  line-more {l₀} {l} {l'} {at} {from} {next} i b e h room space w p =
      let few = texts-length text f k i (λ j q. short j (omega arith)) in
      writing_more text f i w
      (printed-written e (omega (arith, w.place, few, short i h, written-length w)) p)
