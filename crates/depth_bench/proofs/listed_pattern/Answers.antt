-- `listed_pattern` meets its contract: the list is built for n, and its count is that of the definition.
use Rattle.depth_bench.proofs.Built.{built_count, never_refused}
use borrow.Author.Rules.{rules}
use Rattle.depth_bench.proofs.listed_pattern.Goals as goal

pub returns-in_err-count : goal.returns-in_err-count
returns-in_err-count c = absurd (never_refused c.args.size.n _ c.args.size.allowed c.in_err-count.ensures.0)

pub returns-in_err-check : goal.returns-in_err-check
returns-in_err-check c = rw (← built_count c.args.size.n _ c.in_ok-count.ensures.0) (search rules)

pub returns : goal.returns
returns c = rw (← built_count c.args.size.n _ c.in_ok-count.ensures.0, ← c.in_ok-count.ensures.1) (search rules)
