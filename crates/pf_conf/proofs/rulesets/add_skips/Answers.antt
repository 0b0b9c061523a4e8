use Rattle.pf_conf.proofs.Written.{no_skips}
use Rattle.pf_conf.proofs.rulesets.add_skips.Goals as goal

pub returns-then-number-ne0 : goal.returns-then-number-ne0
returns-then-number-ne0 c = no_skips c.args.number c.args.tree.now c.args.rules.now c.if-number-ne0.true
