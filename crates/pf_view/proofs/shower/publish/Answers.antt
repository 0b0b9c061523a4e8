use Rattle.std.proofs.Common.{drop}
use Rattle.pf_view.proofs.Steps.{publishes}
use Rattle.pf_view.proofs.shower.publish.Goals as goal

pub publish_as-requires : goal.publish_as-requires
publish_as-requires g c next is =
    let w = c.args.writer in
    publishes g.J.Naming.base g.J.Naming.history w.desk.place.id _ w.desk.shown.value next (drop w.behind w.log.items) is c.requires
