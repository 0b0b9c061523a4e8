use Rattle.pf_core.proofs.LongerWorlds.{crashes_are_events}
use Rattle.pf_core.proofs.laws.crashes.Goals as goal

pub returns : goal.returns
returns c = crashes_are_events
