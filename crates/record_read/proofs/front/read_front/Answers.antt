-- `read_front` meets its contract: the first three lines, then the table and its title.
use Rattle.record_read.proofs.FrontLaws.{front-is}
use Rattle.record_read.proofs.front.read_front.Goals as goal

pub returns : goal.returns
returns c =
    front-is c.args.texture c.args.bytes.now c.in_ok-head.head c.in_ok-head.rest.now c.in_ok-head.ensures
    c.in_ok-table.table c.in_ok-table.rest.now c.in_ok-table.ensures c.in_ok-rest.rest c.in_ok-rest.ensures
