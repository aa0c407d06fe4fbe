-- `main` is safe: the length that `show_text` answers lies inside the text.
use lib.ListN.{replicate}
use Rattle.show_text.specs.Showing.{text_bytes}
use Rattle.show_text.proofs.ShowLaws.{shown-inside}
use Rattle.show.proofs.main.Goals as goal

pub slice_bounds-text-end : goal.slice_bounds-text-end
slice_bounds-text-end c = (shown-inside _ (replicate text_bytes 0) c.in-Ok.ensures.answered c.in-Ok.ensures.left).1.0

pub slice_bounds-write_all-end : goal.slice_bounds-write_all-end
slice_bounds-write_all-end c = (shown-inside _ (replicate text_bytes 0) c.in-Ok.ensures.answered c.in-Ok.ensures.left).1.1
