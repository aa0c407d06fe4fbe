-- The samples of a file's sheet are bytes, and so the text that is shown of it has at most 27 + 4 * 16,384 bytes.
use Prim.Native.Nat.{ℕ, zero, suc, ◌-◌, ◌*◌, ◌/◌, ◌%◌, ◌≤◌, ◌<◌}
use mathlib.Core.Path.{◌≡◌, refl}
use mathlib.Core.Bool.{true}
use mathlib.Core.List.{List}
use native.Mathlib.Decide.{dec_lt}
use native.Mathlib.Nat.{mul-le-mul}
use native.Mathlib.Omega.{arith}
use lib.ListN.{length, get_or, replicate, length-replicate, get_or-replicate, get_or-eq_default}
use Rattle.arith.specs.Square.{place}
use Rattle.arith.proofs.Bools.{both_of}
use Rattle.arith.proofs.ListLaws.{list_of-below}
use Rattle.depth_table.specs.Table.{table_ok}
use Rattle.prediction.proofs.BlockLaws.{predicted-bytes}
use Rattle.prediction.proofs.SideLaws.{pick-byte}
use Rattle.choice.specs.Record.{pattern_of, prediction_of}
use Rattle.record.specs.declared.Record.{Record}
use Rattle.sheet.specs.declared.Sheet.{Sheet}
use Rattle.sheet_grid.specs.Grid.{side_ok, most_samples}
use Rattle.sheet_grid.specs.Samples.{covers, written_at, written}
use Rattle.sheet.specs.State.{after, area, next_x, next_y}
use Rattle.sheet.specs.Place.{Material, place_case, placed_samples, placed_in_turn}
use Rattle.sheet.proofs.SideLaws.{side-bounds}
use Rattle.record_text.specs.Lines.{Lined, refused_at, read}
use Rattle.show_text.proofs.PrintLaws.{refusal-short, sheet-short}
use Rattle.record_file.specs.Text.{size_fields_of}
use Rattle.record_file.specs.Reading.{File, Aids, read_file}
use Rattle.record_read.specs.Back.{empty_sheet, material_in, in_turn, samples_in}
use Rattle.record_file.proofs.FileLaws.{size_small}
use Rattle.record_file.proofs.RoundTrip.{read-parts, parts-table}
use Rattle.show_text.specs.Showing.{text_by, text_bytes}

-- every sample is a byte
abbrev pub Bytes : List ℕ → Type 0
Bytes s = (i : ℕ) → get_or s i 0 < 256

zeros-bytes : (k : ℕ) → Bytes (replicate k 0)
zeros-bytes k i = go (dec_lt i k)
  where
    go : Dec (i < k) → get_or (replicate k 0) i 0 < 256
    go (yes l) = rw (get_or-replicate {A = ℕ} k i 0 0 l) (omega arith)
    go (no l) = rw (get_or-eq_default {A = ℕ} (replicate k 0) 0 {n = i} (omega (arith, length-replicate {A = ℕ} k 0))) (omega arith)

written-bytes : (n w x y : ℕ) (b s : List ℕ) → Bytes b → Bytes s → Bytes (written n w x y b s)
unfolding written
written-bytes n w x y b s hb hs = list_of-below (written_at n w x y b s) 256 (length s) (omega arith) (λ j. pick-byte (covers n x y (j % w) (j / w)) (get_or b (place n (j % w - x) (j / w - y)) 0) (get_or s j 0) (hb (place n (j % w - x) (j / w - y))) (hs j))

-- so are those of a sheet after each record
in-turn-bytes : (S : Sheet) (M : Material) (f : ℕ → Record) (s : List ℕ) (k : ℕ) → table_ok M.table ≡ true → Bytes s → Bytes (placed_in_turn S M f s k)
unfolding placed_in_turn placed_samples
in-turn-bytes S M f s zero ok h = h
in-turn-bytes S M f s (suc k) ok h =
    let C = place_case (after k S) M (placed_in_turn S M f s k) in
    written-bytes S.n S.width (next_x (after k S)) (next_y (after k S)) (prediction_of C (f k)) (placed_in_turn S M f s k)
    (predicted-bytes C.n (pattern_of C (f k)) C.neighbours C.table (f k).off0 (f k).off1 ok) (in-turn-bytes S M f s k ok h)

-- ---- what is read fits

-- a sheet of at most 128 by 128 samples, and a sound table
pub record FileFits (F : File) : Type 0 where
  pub some : 0 < F.width
  pub width : F.width ≤ 128
  pub height : F.height ≤ 128
  pub samples : F.width * F.height ≤ most_samples
  pub sound : table_ok F.table ≡ true

-- the sides, the number of samples and the table of a file that was read
pub file-fits : (A : Aids) (samples records : ℕ) (F : File) (s t : List ℕ) → read_file A samples records s ≡ read F t → FileFits F
file-fits A samples records F s t e =
    let f = (read-parts A samples records F s t e).1.sound in
    let z = size_small (length A.texture) (size_fields_of F.n F.width F.height (length F.table)) f.size in
    let b = both_of (side_ok F.n F.width) (side_ok F.n F.height) z.sides in
    record {
      some = omega (arith, z.low, (side-bounds F.n F.width b.0).0);
      width = z.width;
      height = z.height;
      samples = mul-le-mul {n₁ = F.width} {m₁ = F.height} {n₂ = 128} {m₂ = 128} z.width z.height;
      sound = parts-table F.table z.some z.values f.values f.rises;
    }

-- so no text is longer than the space that `show_text` asks for
pub text-short : (A : Aids) (samples records : ℕ) (s : List ℕ) → length (text_by A (read_file A samples records s)) ≤ text_bytes
text-short A samples records s = go (read_file A samples records s) refl
  where
    go : (x : Lined File) → read_file A samples records s ≡ x → length (text_by A x) ≤ text_bytes
    go (refused_at n k) e = omega (arith, refusal-short n k)
    go (read F t) e =
        let f = file-fits A samples records F s t e in
        let small : Bytes (samples_in A F) = in-turn-bytes (empty_sheet F) (material_in A F) (in_turn F.records) (replicate (area (empty_sheet F)) 0) _ f.sound (zeros-bytes (area (empty_sheet F))) in
        omega (arith, sheet-short F.width F.height (samples_in A F) f.width f.height small, f.samples)
