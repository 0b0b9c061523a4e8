use Rattle.pf_conf.proofs.Written.{one_written, not_written}
use Rattle.pf_conf.proofs.rulesets.add_written.Goals as goal

pub returns-then-written-number : goal.returns-then-written-number
returns-then-written-number c = not_written c.args.number c.args.written.now c.args.rules.now c.if-written-number.true

pub returns : goal.returns
returns c = rw (one_written c.args.number c.args.written.now c.args.rules.now c.if-written-number.false) c.add_product.ensures
