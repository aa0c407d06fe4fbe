-- Records placed in turn, and what holds of a sound file's records for their blocks.
use Prim.Native.Nat.{ℕ, zero, suc, ◌+◌, ◌*◌, ◌<◌}
use mathlib.Core.Path.{◌≡◌, refl, ◌∙◌}
use mathlib.Core.Bool.{Bool, true}
use mathlib.Core.List.{List}
use native.Mathlib.Numerals.{add-one}
use native.Mathlib.Omega.{arith}
use borrow.Author.Tests.{lt-ltb}
use lib.ListN.{length}
use Rattle.arith.proofs.CheckLaws.{holds}
use Rattle.pattern.proofs.AnswerLaws.{texture-is}
use Rattle.record.specs.declared.Record.{Record}
use Rattle.sheet.specs.declared.Sheet.{Sheet}
use Rattle.sheet.specs.State.{state_of, after, blocks_of, lengths_ok}
use Rattle.sheet.specs.Place.{Material, Fits, place_refusal_by, place_refusal, placed_samples, placed_in_turn}
use Rattle.sheet.specs.Compose.{missing}
use Rattle.sheet.proofs.StateLaws.{lengths-do, open_none}
use Rattle.sheet.proofs.TurnLaws.{open_after}
use Rattle.record_text.specs.declared.fields.SizeFields.{SizeFields}
use Rattle.record_file.specs.Text.{size_fields_of}
use Rattle.record_file.specs.Reading.{File, Aids, size_checks, size_meaning, record_line_meaning}
use Rattle.record_file.proofs.FileLaws.{FileSound, size_small}
use Rattle.record_file.proofs.RoundTrip.{parts-table}
use Rattle.record_read.specs.Back.{empty_sheet, material_for, material_in, in_turn}
use Rattle.record_read.specs.Step.{Counted}
use Rattle.record_read.proofs.EmptyLaws.{open-empty}

-- ---- placing in turn

pub in-turn-none : (S : Sheet) (M : Material) (records : ℕ → Record) (s : List ℕ) → s ≡ placed_in_turn S M records s 0
unfolding placed_in_turn
in-turn-none S M records s = refl

pub in-turn-more :
    (S : Sheet) (M : Material) (records : ℕ → Record) (s : List ℕ) (k : ℕ) {u : Sheet} {t v : List ℕ} {r : Record}
    → u ≡ after k S → t ≡ placed_in_turn S M records s k → r ≡ records k → v ≡ placed_samples u M t r
    → v ≡ placed_in_turn S M records s (k + 1)
unfolding placed_in_turn
in-turn-more S M records s k p q e h = rw add-one (rw (p, q, e) at h)

pub in-turn-ext :
    (S : Sheet) (M : Material) (f g : ℕ → Record) (s : List ℕ) (k : ℕ) → ((i : ℕ) → i < k → f i ≡ g i)
    → placed_in_turn S M f s k ≡ placed_in_turn S M g s k
unfolding placed_in_turn
in-turn-ext S M f g s zero h = refl
in-turn-ext S M f g s (suc k) h = rw (in-turn-ext S M f g s k (λ i l. h i (omega arith)), h k (omega arith))

-- ---- where a record can be placed

-- where the table is as asked, placing refuses what the meaning of the record's line refuses
pub place-means :
    (A : Aids) (table : List ℕ) (S : Sheet) (samples : ℕ) {asked : Bool} → Fits S (material_for A S.n table) samples → asked ≡ true
    → (f : Record) → place_refusal_by asked S samples (material_for A S.n table) f ≡ record_line_meaning S.n A (length table) tt f
unfolding place_refusal_by
place-means A table S samples {asked} p as_asked f =
    let patterns = length (A.list S.n) in
    let texture = length A.texture in
    open_none S (lengths_ok S samples patterns (A.count S.n) texture) asked (record_line_meaning S.n A (length table) tt f) p.is_open
    (lengths-do S samples patterns (A.count S.n) texture p.lengths) as_asked

-- also after k blocks, where one is missing
pub placeable-after :
    (S : Sheet) (samples : ℕ) (M : Material) (k : ℕ) → Fits S M samples → k < missing S → Fits (after k S) M samples
placeable-after S samples M k p h =
    record {
      valued = p.valued;
      is_open = open_after S k {u = after k S} p.is_open h refl;
      lengths =
          record { whole = p.lengths.whole; optional = p.lengths.optional; inside = p.lengths.inside; few = p.lengths.few };
    }

-- an empty sheet, with a sound size line
pub size-placeable :
    (A : Aids) (z : SizeFields) (table : List ℕ) → size_meaning (length A.texture) z ≡ 0 → length table ≡ z.values
    → Counted A z.n → Fits (state_of z.n z.width z.height 0) (material_for A z.n table) (z.width * z.height)
unfolding size_meaning
size-placeable A z table size long counted =
    let s = size_small (length A.texture) z size in
    let c = (holds (size_checks (length A.texture) z) 0 size).0 in
    record {
      is_open = open-empty z.n z.width z.height s.size s.sides;
      lengths =
          record {
            whole = refl;
            optional = texture-is (length A.texture) (z.width * z.height) c.1.1.0;
            inside = counted.inside;
            few = counted.few;
          };
      valued = lt-ltb 0 (length table) (omega (arith, s.some, long));
    }

-- the numbers of a file's size line
abbrev pub header_of : File → SizeFields
header_of F = size_fields_of F.n F.width F.height (length F.table)

-- each record of a sound file is accepted for its block
pub file-accepted :
    (A : Aids) (F : File) → FileSound A F → Counted A F.n → (i : ℕ) → i < blocks_of (empty_sheet F)
    → place_refusal (after i (empty_sheet F)) (F.width * F.height) (material_in A F) (in_turn F.records i) ≡ 0
file-accepted A F ok counted i l =
    let S = empty_sheet F in
    let area = F.width * F.height in
    let p = size-placeable A (header_of F) F.table ok.size refl counted in
    let s = size_small (length A.texture) (header_of F) ok.size in
    let h : i < missing S = omega arith in
    place-means A F.table (after i S) area (placeable-after S area (material_in A F) i p h) (parts-table F.table s.some s.values ok.values ok.rises) (in_turn F.records i)
    ∙ ok.each i (rw ok.whole l)
