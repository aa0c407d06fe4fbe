-- The worked cases, by computation.
use mathlib.Core.Path.{refl}
use Rattle.arith.specs.Bits.{bits}
use Rattle.arith.specs.Distance.{clamped}
use Rattle.arith.specs.Least.{least_to}
use Rattle.arith.specs.Lists.{list_of}
use Rattle.arith.specs.Raised.{raised_in_range}
use Rattle.arith.specs.Sum.{sum_to}
use Rattle.depth_table.specs.Table.{bytes, rising, table_ok, nearest_to, index_of}
use Rattle.depth_table.specs.Offset.{level_of}
use Rattle.pattern.specs.Contour.{threshold, contour_of}
use Rattle.prediction.specs.Sides.{vert_edge, hor_edge, lt_by, br_by, lt, br, side_depth}
use Rattle.prediction.specs.Block.{sample_of, predicted}
use Rattle.choice.specs.Cost.{side_cost}
use Rattle.choice.specs.Refusal.{lengths_ok, words_ok, choose_refusal}
use Rattle.choice.specs.Record.{difference}
use Rattle.choice.specs.Search.{best_cost, tried_at, best_pattern, chosen, tried}
use Rattle.choice.specs.Trial.{trial_from}
use Rattle.choice.specs.Answer.{choose_answer}
use Rattle.level.specs.Law.{raisable}
use Rattle.level.specs.Cases.{best, LevelCases}

pub level-cases : LevelCases
unfolding bits clamped least_to list_of raised_in_range sum_to bytes rising table_ok nearest_to index_of level_of threshold contour_of vert_edge hor_edge lt_by br_by lt br side_depth sample_of predicted side_cost lengths_ok words_ok choose_refusal difference best_cost tried_at best_pattern chosen tried trial_from choose_answer raisable
level-cases =
    record {
      hold = refl;
      accepted = refl;
      which = refl;
      too_far = refl;
      kept = refl;
      same_answers = refl;
      answers_are = refl;
      rows_are = refl;
      same = record { chosen = best; cost = 109; answers = refl; answers_raised = refl };
      rises = record { prediction = record { in_range = refl; risen = refl }; same_cost = refl };
    }
