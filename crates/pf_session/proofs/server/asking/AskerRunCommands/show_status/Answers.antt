use Rattle.std.proofs.Common.{refl}
use Rattle.pf_session.specs.Statuses.{shown_text}
use Rattle.pf_session.proofs.Asking.{same-still}
use Rattle.pf_session.proofs.server.asking.AskerRunCommands.show_status.Goals as goal

pub returns : goal.returns
returns g c = (
  shown_text c.status-status.result c.sessions.result,
  record {
    same = same-still c.args.self.now;
    runs = record { status = c.status-status.result; says = rw c.as_ref.ensures.value at c.status-status.ensures; sessions = c.sessions.result; reported = refl; same = refl };
  },
  c.show.ensures,
)
