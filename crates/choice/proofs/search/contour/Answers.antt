-- `contour` meets its contract: only an empty texture is refused.
use mathlib.Core.Path.{◌∙◌, ap}
use Rattle.std.specs.Prelude.{option_map}
use Rattle.pattern.specs.Words.{pattern_number}
use Rattle.choice.proofs.SearchLaws.{contour-or-none}
use Rattle.choice.proofs.search.contour.Goals as goal

pub returns : goal.returns
returns c =
    ap (option_map pattern_number) c.ok.ensures.value
    ∙ contour-or-none c.args.n c.args.texture.now c.contour.result c.requires c.contour.ensures
