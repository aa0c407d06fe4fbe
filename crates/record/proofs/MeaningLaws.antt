-- Laws of a record's meaning and of its checks.
use Prim.Native.Nat.{ℕ, zero, suc, ◌<◌}
use mathlib.Core.Bool.{Bool, true}
use mathlib.Core.List.{List}
use mathlib.Core.Logic.{◌⊎◌, inl, inr, ⊎_elim}
use mathlib.Core.Path.{◌≡◌, refl, sym, ap, ap₂, ◌∙◌}
use native.Mathlib.Omega.{arith}
use borrow.Author.Tests.{lt-ltb, ltb-true, eqb-true}
use lib.ListN.{get_or}
use Rattle.arith.specs.Checks.{Answer, refused, given, answer}
use Rattle.arith.proofs.CheckLaws.{holds, passes, kept, refused-by, given-means, refused-means}
use Rattle.pattern.proofs.AnswerLaws.{number-some}
use Rattle.pattern.specs.Refusal.{number_of}
use Rattle.pattern.specs.declared.refusals.Refusal.{Refusal}
use Rattle.pattern.specs.Size.{word_ok}
use Rattle.depth_table.specs.Offset.{offset_checks}
use Rattle.record.specs.declared.Record.{Record}
use Rattle.record.specs.Meaning.{Named, listed, contour, offset_refusal, kind_meaning, kind_refusal, record_meaning, record_refusal, pattern_named, Sound}

module _ (n : ℕ) (list : List ℕ) (count : ℕ) (lent : Bool) where
  -- an entry of the list, and the contour of lent texture, pass their checks
  pub kind-listed :
      {kind : ℕ} (entry rest : ℕ) → kind ≡ 0 → entry < count → word_ok n (get_or list entry 0) ≡ true
      → kind_refusal n list count lent kind entry rest ≡ rest
  kind-listed entry rest e l w = rw (e, lt-ltb entry count l, w)

  pub kind-contour : {kind : ℕ} (entry rest : ℕ) → kind ≡ 1 → entry ≡ 0 → lent ≡ true → kind_refusal n list count lent kind entry rest ≡ rest
  kind-contour entry rest e z l = rw (e, z, l)

  -- and nothing else does
  kind-names :
      (kind entry rest : ℕ) → kind_refusal n list count lent kind entry rest ≡ 0
      → (((kind ≡ 0) × (entry < count) × (word_ok n (get_or list entry 0) ≡ true)) ⊎ ((kind ≡ 1) × (entry ≡ 0) × (lent ≡ true))) × (rest ≡ 0)
  kind-names zero entry rest h =
      let p = holds (kind_meaning n list count lent zero entry).0 rest h in
      (inl (refl, ltb-true entry count p.0.0, p.0.1.0), p.1)
  kind-names (suc zero) entry rest h =
      let p = holds (kind_meaning n list count lent (suc zero) entry).0 rest h in
      (inr (refl, eqb-true entry 0 p.0.0, p.0.1.0), p.1)
  kind-names (suc (suc kind)) entry rest h = absurd (omega arith)

module _ (n : ℕ) (list : List ℕ) (count : ℕ) (lent : Bool) (values : ℕ) (r : Record) where
  -- a record that is not refused
  pub record-sound : record_refusal n list count lent values r ≡ 0 → Sound n list count lent values r
  unfolding record_refusal
  record-sound h =
      let k = kind-names n list count lent r.kind r.entry (offset_refusal values r) h in
      let o = holds (offset_checks values r.off0 r.off1) 0 k.1 in
      record { names = k.0; allowed = o.0.0; usable = o.0.1.0 }

  pub sound-record : Sound n list count lent values r → record_refusal n list count lent values r ≡ 0
  unfolding record_refusal
  sound-record h =
      ⊎_elim
      (λ w. kind-listed n list count lent r.entry (offset_refusal values r) w.0 w.1 w.2)
      (λ w. kind-contour n list count lent r.entry (offset_refusal values r) w.0 w.1 w.2)
      h.names
      ∙ passes (offset_checks values r.off0 r.off1) 0 (h.allowed, (h.usable, tt))

  -- what kind and entry name, before the offsets are looked at
  abbrev named_first : Answer Named
  named_first = answer (kind_refusal n list count lent r.kind r.entry 0) (kind_meaning n list count lent r.kind r.entry).1

  -- a record is refused by its kind and entry, or else by an offset; or its meaning is found
  pub by_kind : {k : ℕ} → refused k ≡ named_first → refused k ≡ record_meaning n list count lent values r
  unfolding record_meaning record_refusal
  by_kind {k} e =
      let m = kind_meaning n list count lent r.kind r.entry in
      let x = refused-means (kind_refusal n list count lent r.kind r.entry 0) k m.1 (sym e) in
      e ∙ ap (λ (j : ℕ). answer j m.1) (sym (kept m.0 (offset_refusal values r) x.1))

  module _ {x : Named} (e : given x ≡ named_first) where
    offsets_decide : answer (offset_refusal values r) x ≡ record_meaning n list count lent values r
    unfolding record_meaning record_refusal
    offsets_decide =
        let m = kind_meaning n list count lent r.kind r.entry in
        let y = given-means (kind_refusal n list count lent r.kind r.entry 0) m.1 x (sym e) in
        ap₂ answer (sym (passes m.0 (offset_refusal values r) (holds m.0 0 y.0).0)) (sym y.1)

    pub by_offset :
        (f : Refusal) → number_of f ≡ offset_refusal values r → refused (number_of f) ≡ record_meaning n list count lent values r
    by_offset f h = refused-by x h (number-some f) ∙ offsets_decide

    pub found : 0 ≡ offset_refusal values r → given x ≡ record_meaning n list count lent values r
    found h = rw (← h) at offsets_decide

  -- the meaning that is answered
  pub meaning-given :
      {x : Named} → given x ≡ record_meaning n list count lent values r
      → (record_refusal n list count lent values r ≡ 0) × ((kind_meaning n list count lent r.kind r.entry).1 ≡ x)
  unfolding record_meaning
  meaning-given {x} e = given-means (record_refusal n list count lent values r) _ x (sym e)

  -- or the refusal
  pub meaning-refused :
      {number : ℕ} → refused number ≡ record_meaning n list count lent values r
      → (number ≡ record_refusal n list count lent values r) × (number ≡ 0 → ⊥)
  unfolding record_meaning
  meaning-refused {number} e =
      let m = refused-means (record_refusal n list count lent values r) number _ (sym e) in
      (m.0, λ z. m.1 (sym m.0 ∙ z))

  -- the contour is named only where texture is lent
  pub contour-lit : given contour ≡ record_meaning n list count lent values r → lent ≡ true
  contour-lit e =
      let m = meaning-given e in
      ⊎_elim
      (λ w. absurd (let z : ◌≡◌ {A = Named} (listed _) contour = (rw w.0 at m.1) in let q : ◌≡◌ {A = ℕ} 0 1 = cc in omega arith))
      (λ w. w.2)
      (record-sound m.0).names

  -- the pattern of a record that is not refused has no bit from n * n up, if the contour c has none
  pub pattern-fits :
      (c : ℕ) → word_ok n c ≡ true → record_refusal n list count lent values r ≡ 0
      → word_ok n (pattern_named c (kind_meaning n list count lent r.kind r.entry).1) ≡ true
  pattern-fits c fits h =
      ⊎_elim (λ w. rw w.0 w.2) (λ w. rw w.0 fits) (record-sound h).names
