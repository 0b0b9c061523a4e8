use Rattle.std.proofs.Common.{[]}
use Rattle.pf_conf.specs.Commit.Naming.{filter_of}
use Rattle.pf_conf.proofs.CommitSteps.{mapped_more}
use Rattle.pf_conf.proofs.commit.naming.filters.Goals as goal

pub loop-ruleset-preserved : goal.loop-ruleset-preserved
loop-ruleset-preserved c =
    mapped_more filter_of [] c.loop-ruleset.names.items c.push.new.self.items c.args.rulesets.now c.loop-ruleset.ruleset-index c.ruleset-item.result c.filter.result c.loop-ruleset-test.true c.ruleset-item.is
    c.loop-ruleset.invariant c.in_ok-push.ensures.items c.filter.ensures
