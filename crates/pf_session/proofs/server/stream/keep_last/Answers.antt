use Rattle.std.proofs.Common.{arith}
use Rattle.pf_session.proofs.Grouping.{none-kept}
use Rattle.pf_session.proofs.server.stream.keep_last.Goals as goal

pub returns : goal.returns
returns g c = none-kept c.args.last.now c.args.answers.items (omega (arith, c.in_default.ensures.cases.0))
