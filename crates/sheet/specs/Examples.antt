-- Worked examples of the definitions.
use Rattle.std.specs.Prelude.{ℕ, ◌≡◌, refl, List, [], ◌∷◌, ◌++◌, pos, negsuc, replicate}
use Rattle.arith.specs.Distance.{clamped}
use Rattle.arith.specs.Least.{least_to}
use Rattle.arith.specs.Lists.{list_of}
use Rattle.arith.specs.Sum.{sum_to}
use Rattle.depth_table.specs.Examples.{sample_table}
use Rattle.depth_table.specs.Table.{bytes, rising, table_ok, nearest_to, index_of}
use Rattle.prediction.specs.Sides.{vert_edge, hor_edge, lt_by, br_by, lt, br, side_depth}
use Rattle.depth_table.specs.Offset.{offset_ok, offset_usable, level_of}
use Rattle.prediction.specs.Block.{sample_of, predicted}
use Rattle.choice.specs.Cost.{side_cost}
use Rattle.record.specs.declared.Record.{Record}
use Rattle.choice.specs.Search.{best_cost, best_pattern, chosen}
use Rattle.choice.specs.Trial.{trial_from}
use Rattle.sheet_grid.specs.Neighbours.{first_present, substituted_by, substituted, walked}
use Rattle.sheet_grid.specs.Samples.{written, cut}
use Rattle.sheet.specs.Checks.{lengths_ok_by, start_refusal_by}
use Rattle.sheet.specs.State.{state_of}
use Rattle.record.specs.Meaning.{record_refusal}
use Rattle.record.specs.Record.{record_of}
use Rattle.sheet.specs.Place.{Material, material_of, placed_samples, place_refusal_by, place_refusal}
use Rattle.sheet.specs.Compose.{Task, task_of, composed_to, composed_record}
use Rattle.sheet.specs.declared.Sheet.{Sheet}

-- ---- document 01's file: a sheet of one block of size 4

abbrev pub one_block : ℕ → Sheet
one_block k = state_of 4 4 4 k

-- two words, the second with a bit from 16 up; no texture
abbrev pub sample_material : Material
sample_material = material_of (0xFFF0 ∷ 0x1FFF0 ∷ []) 2 sample_table []

-- entry 0 with offsets -1 and 1
abbrev pub sample_record : Record
sample_record = record_of 0 0 (negsuc 0) (pos 1)

-- the samples that `show` prints
pub sample_placed :
    placed_samples (one_block 0) sample_material (replicate 16 0) sample_record ≡ replicate 4 100 ++ replicate 12 140
unfolding clamped list_of nearest_to index_of vert_edge hor_edge lt_by br_by lt br side_depth level_of sample_of predicted
    first_present substituted_by substituted walked written placed_samples
sample_placed = refl

-- the checks of placing in order, each with the later ones failing too
pub record PlaceRefusals : Type 0 where
  pub size : place_refusal (state_of 5 4 6 2) 15 (material_of [] 1 [] []) (record_of 2 0 (pos 256) (pos 0)) ≡ 1
  pub lengths : place_refusal (state_of 4 4 6 2) 15 (material_of [] 1 [] []) (record_of 2 0 (pos 256) (pos 0)) ≡ 2
  pub sides : place_refusal (state_of 4 4 6 2) 24 (material_of [] 0 [] []) (record_of 2 0 (pos 256) (pos 0)) ≡ 8
  pub over_placed : place_refusal (one_block 2) 16 (material_of [] 0 [] []) (record_of 2 0 (pos 256) (pos 0)) ≡ 23
  pub finished : place_refusal (one_block 1) 16 (material_of [] 0 [] []) (record_of 2 0 (pos 256) (pos 0)) ≡ 20
  pub table : place_refusal (one_block 0) 16 (material_of [] 0 [] []) (record_of 2 0 (pos 256) (pos 0)) ≡ 3
  pub kind : place_refusal (one_block 0) 16 sample_material (record_of 2 0 (pos 256) (pos 0)) ≡ 7
  pub contour_entry : place_refusal (one_block 0) 16 sample_material (record_of 1 1 (pos 256) (pos 0)) ≡ 7
  pub texture : place_refusal (one_block 0) 16 sample_material (record_of 1 0 (pos 256) (pos 0)) ≡ 21
  pub entry : place_refusal (one_block 0) 16 sample_material (record_of 0 2 (pos 256) (pos 0)) ≡ 6
  pub word : place_refusal (one_block 0) 16 sample_material (record_of 0 1 (pos 256) (pos 0)) ≡ 5
  pub offset : place_refusal (one_block 0) 16 sample_material (record_of 0 0 (pos 3) (negsuc 255)) ≡ 4
  pub unusable : place_refusal (one_block 0) 16 sample_material (record_of 0 0 (pos 0) (negsuc 2)) ≡ 24
  pub none : place_refusal (one_block 0) 16 sample_material sample_record ≡ 0

pub place_refusals : PlaceRefusals
unfolding bytes rising table_ok offset_ok offset_usable lengths_ok_by start_refusal_by record_refusal place_refusal_by
place_refusals =
    record {
      size = refl;
      lengths = refl;
      sides = refl;
      over_placed = refl;
      finished = refl;
      table = refl;
      kind = refl;
      contour_entry = refl;
      texture = refl;
      entry = refl;
      word = refl;
      offset = refl;
      unusable = refl;
      none = refl;
    }

-- ---- composing a sheet of two blocks of size 4, whose original is what two records give

abbrev pub two_rows : List ℕ
two_rows = replicate 4 100 ++ replicate 4 128

abbrev pub two_blocks : List ℕ
two_blocks =
    two_rows ++ (replicate 4 140 ++ replicate 4 100) ++ (replicate 4 140 ++ replicate 4 100) ++ (replicate 4 140 ++ replicate 4 100)

abbrev pub sample_task : Task
sample_task = task_of (material_of (0xFFF0 ∷ []) 1 sample_table []) two_blocks 2

pub record Composing : Type 0 where
  -- the records: offsets -1 and 1, then from neighbours 100 and 140
  pub first : composed_record (state_of 4 8 4 0) sample_task (replicate 32 0) 0 ≡ record_of 0 0 (negsuc 0) (pos 1)
  pub second : composed_record (state_of 4 8 4 0) sample_task (replicate 32 0) 1 ≡ record_of 0 0 (pos 1) (negsuc 1)
  -- the samples
  pub composed : composed_to (state_of 4 8 4 0) sample_task (replicate 32 0) 2 ≡ two_blocks

pub composing : Composing
unfolding clamped list_of nearest_to index_of vert_edge hor_edge lt_by br_by lt br side_depth level_of sample_of predicted
    least_to sum_to side_cost trial_from best_cost best_pattern chosen first_present substituted_by substituted walked written cut
    placed_samples composed_to
composing = record { first = refl; second = refl; composed = refl }
