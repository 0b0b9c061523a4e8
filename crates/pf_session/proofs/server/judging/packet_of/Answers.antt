use Rattle.std.proofs.Common.{sym, ◌∙◌}
use Rattle.pf_session.proofs.Judging.{judge-means}
use Rattle.pf_session.proofs.server.judging.packet_of.Goals as goal

pub returns-in-Ok : goal.returns-in-Ok
returns-in-Ok c = record {
  means = judge-means c.args.line.now c.in-Ok.packet (rw c.in-Ok.is at c.in-Some.ensures.exact);
  allowed = sym c.is_denied.ensures ∙ c.if-is_denied.false;
}
