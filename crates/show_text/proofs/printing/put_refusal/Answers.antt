-- `put_refusal` meets its contract: the title, and a line of number and line.
use Rattle.show_text.specs.Printed.{refusal_title}
use Rattle.show_text.proofs.PrintLaws.{title-written, refusal-written}
use Rattle.show_text.proofs.printing.put_refusal.Goals as goal

pub returns : goal.returns
unfolding refusal_title
returns c =
    rw (← c.from-number.ensures)
    (refusal-written _ _ (title-written refusal_title c.args.out.now c.requires.1 c.put_text-title.ensures) c.put_pair.ensures)
