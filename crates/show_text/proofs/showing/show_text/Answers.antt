-- `show_text` meets its contract: the space, the list, and the text.
use Prim.Native.Nat.{◌≤◌}
use borrow.Author.Rules.{rules}
use mathlib.Core.Path.{refl, ◌∙◌}
use lib.ListN.{length}
use Rattle.record_print.proofs.WriteSteps.{written_as}
use Rattle.show_text.specs.Showing.{text_bytes}
use Rattle.show_text.proofs.ShowLaws.{show-given, shown-as}
use Rattle.show_text.proofs.showing.show_text.Goals as goal

pub returns : goal.returns
returns c =
    let room : text_bytes ≤ length c.args.out.now = search rules in
    let list = c.with_list.ensures ∙ c.build_list-list.ensures in
    let s = show-given c.args.bytes.now c.args.out.now room (written_as c.put_read.ensures (shown-as c.args.bytes.now refl list)) in
    record { answered = s.0; left = s.1 }
