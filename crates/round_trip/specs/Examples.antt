-- A worked case of the law of composed sheets: its premises can be met, by computation.
use Rattle.std.specs.Prelude.{◌≡◌, refl, [], ◌∷◌, pos, negsuc, replicate}
use Rattle.arith.specs.Checks.{given}
use Rattle.arith.specs.Distance.{clamped}
use Rattle.arith.specs.Least.{least_to}
use Rattle.arith.specs.Lists.{list_of}
use Rattle.arith.specs.Sum.{sum_to}
use Rattle.depth_table.specs.Table.{bytes, rising, table_ok, nearest_to, index_of}
use Rattle.prediction.specs.Sides.{vert_edge, hor_edge, lt_by, br_by, lt, br, side_depth}
use Rattle.depth_table.specs.Offset.{level_of}
use Rattle.prediction.specs.Block.{sample_of, predicted}
use Rattle.choice.specs.Cost.{side_cost}
use Rattle.choice.specs.Refusal.{words_ok}
use Rattle.choice.specs.Search.{best_cost, best_pattern, chosen}
use Rattle.choice.specs.Trial.{trial_from}
use Rattle.sheet_grid.specs.Neighbours.{first_present, substituted_by, substituted, walked}
use Rattle.sheet_grid.specs.Samples.{written, cut}
use Rattle.sheet.specs.Checks.{lengths_ok_by, start_refusal_by}
use Rattle.sheet.specs.State.{state_of}
use Rattle.sheet.specs.Place.{placed_samples}
use Rattle.sheet.specs.Compose.{composed_to, over, compose_lengths_ok, choice_refusal, compose_refusal}
use Rattle.sheet.specs.Compose.{compose_answer, compose_after, compose_records}
use Rattle.sheet.specs.Examples.{sample_task, two_blocks}
use Rattle.record.specs.Record.{record_of}
use Rattle.record.specs.Lent.{record_at, record_in, lent_number, fields_of}
use Rattle.record_read.specs.Back.{Lent}
use Rattle.round_trip.specs.Law.{composing, samples_composed, records_composed}

-- two blocks of size 4, and two records lent
abbrev pub sample_lent : Lent
sample_lent =
    record {
      samples = replicate 32 0;
      records = replicate 2 (replicate 4 (pos 0));
    }

-- `compose` answers the finished state and two records, and leaves them and the samples
pub record ComposedSample : Type 0 where
  pub answer : composing (state_of 4 8 4 0) sample_task sample_lent ≡ given (state_of 4 8 4 2, 2)
  pub records :
      list_of (record_at (records_composed (state_of 4 8 4 0) sample_task sample_lent)) 2
      ≡ record_of 0 0 (negsuc 0) (pos 1) ∷ record_of 0 0 (pos 1) (negsuc 1) ∷ []
  pub samples : samples_composed (state_of 4 8 4 0) sample_task sample_lent ≡ two_blocks

pub composed_sample : ComposedSample
unfolding clamped list_of nearest_to index_of vert_edge hor_edge lt_by br_by lt br side_depth level_of sample_of predicted least_to
    sum_to side_cost trial_from best_cost best_pattern chosen first_present substituted_by substituted walked written cut
    placed_samples composed_to
    bytes rising table_ok words_ok lengths_ok_by start_refusal_by over compose_lengths_ok choice_refusal compose_refusal compose_answer
    compose_after compose_records record_in lent_number fields_of
composed_sample = record { answer = refl; records = refl; samples = refl }
