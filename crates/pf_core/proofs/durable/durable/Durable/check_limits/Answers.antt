use Rattle.std.proofs.Common.{rules}
use Rattle.pf_core.proofs.Checks.{named_none}
use Rattle.pf_core.proofs.durable.durable.Durable.check_limits.Goals as goal

pub returns-then-branch : goal.returns-then-branch
returns-then-branch c = rw (named_none c.args.items.now c.requires c.in_ok-tables.ensures.order) (search rules)

pub returns-then-branch-2 : goal.returns-then-branch-2
returns-then-branch-2 c = rw (named_none c.args.items.now c.requires c.in_ok-tables.ensures.order) (search rules)

pub returns : goal.returns
returns c = rw (named_none c.args.items.now c.requires c.in_ok-tables.ensures.order) (search rules)
