use Rattle.pfd_conf.proofs.Judging.{one_more_tried}
use Rattle.pfd_conf.proofs.firewall.Firewall.judged.Goals as goal

pub loop-cases-preserved : goal.loop-cases-preserved
loop-cases-preserved c =
    one_more_tried c.args.self.now c.args.files.now c.loop-cases.cases-index c.cases-item.result c.loop-cases.tried.items
    c.push.new.self.items c.in_ok-tried.field-0
    c.loop-cases.invariant c.loop-cases-test.true c.cases-item.is
    (record { name = c.in_ok-tried.ensures.name; lines = c.in_ok-tried.ensures.lines; outcomes = c.in_ok-tried.ensures.outcomes })
    c.in_ok-push.ensures.items
