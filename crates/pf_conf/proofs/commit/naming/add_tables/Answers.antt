use Rattle.pf_ticket.specs.Names.{table_ruleset_at}
use Rattle.pf_conf.proofs.CommitSteps.{mapped_more}
use Rattle.pf_conf.proofs.commit.naming.add_tables.Goals as goal

pub loop-path-preserved : goal.loop-path-preserved
loop-path-preserved c =
    mapped_more table_ruleset_at c.args.names.now.items c.loop-path.names.items c.push.new.self.items c.args.paths.now c.loop-path.path-index c.path-item.result c.table.result c.loop-path-test.true c.path-item.is
    c.loop-path.invariant c.in_ok-push.ensures.items c.table.ensures
