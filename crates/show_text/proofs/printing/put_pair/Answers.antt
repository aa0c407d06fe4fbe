-- `put_pair` meets its contract: one number after the other, with room for each.
use Rattle.show_text.proofs.PrintLaws.{pair-written}
use Rattle.show_text.proofs.printing.put_pair.Goals as goal

pub returns : goal.returns
returns c =
    let p = c.put_number-next in
    let q = c.put_number in
    pair-written c.args.from p.result q.result c.args.a c.args.b c.requires.0 c.requires.1 c.requires.2 p.ensures q.ensures
