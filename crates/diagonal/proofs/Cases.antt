-- The worked cases, by computation.
use mathlib.Core.Path.{refl}
use mathlib.Core.Logic.{inl}
use native.Mathlib.Omega.{arith}
use Rattle.arith.specs.Bits.{bits}
use Rattle.arith.specs.Distance.{clamped}
use Rattle.arith.specs.Least.{least_to}
use Rattle.arith.specs.Lists.{list_of, same_list}
use Rattle.arith.specs.Square.{transposed_list}
use Rattle.arith.specs.Sum.{sum_to}
use Rattle.depth_table.specs.Table.{bytes, rising, table_ok, nearest_to, index_of}
use Rattle.pattern.specs.Contour.{threshold, contour_of}
use Rattle.wedgelet.specs.Wedgelet.{candidate, wedgelet, holds, keep, ends, starts, wedgelet_list}
use Rattle.wedgelet.specs.Answer.{as_built}
use Rattle.prediction.specs.Sides.{vert_edge, hor_edge, lt_by, br_by, lt, br, side_depth}
use Rattle.prediction.specs.Transposed.{transposed_neighbours, ends_decide}
use Rattle.depth_table.specs.Offset.{level_of}
use Rattle.prediction.specs.Block.{sample_of, predicted}
use Rattle.choice.specs.Cost.{side_cost}
use Rattle.choice.specs.Refusal.{lengths_ok, words_ok, choose_refusal}
use Rattle.choice.specs.Record.{difference}
use Rattle.choice.specs.Search.{best_cost, tried_at, best_pattern, chosen, tried}
use Rattle.choice.specs.Trial.{trial_from}
use Rattle.diagonal.specs.Law.{covered}
use Rattle.diagonal.specs.Cases.{WorkedCases}

pub worked-cases : WorkedCases
unfolding bits clamped least_to same_list transposed_list list_of sum_to bytes rising table_ok nearest_to index_of threshold contour_of candidate wedgelet holds keep ends starts wedgelet_list as_built vert_edge hor_edge lt_by br_by lt br side_depth transposed_neighbours ends_decide level_of trial_from side_cost lengths_ok words_ok choose_refusal sample_of predicted difference best_cost tried_at best_pattern chosen tried covered
worked-cases =
    record {
      hold = refl;
      accepted = refl;
      which = refl;
      unequal = refl;
      tried_are = refl;
      chosen_are = refl;
      chosen_transposed = refl;
      partner =
          record {
            within = record { pattern_in = inl (refl, omega arith); off0_in = omega arith; off1_in = omega arith };
            same_kind = refl;
            same_off0 = refl;
            same_off1 = refl;
            transposed_pattern = refl;
          };
      alike = record { same_prediction = refl; same_cost = refl };
    }
