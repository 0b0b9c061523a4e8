use Rattle.std.proofs.Common.{ℕ, ◌+◌}
use Rattle.pf_session.specs.Server.SessionRuns.{HavePassed}
use Rattle.pf_session.proofs.server.session.Session.pass_each.Given as goal

abbrev pub invariant-loop : goal.invariant-loop
invariant-loop g l = (k : ℕ) → HavePassed (g.G.Gate.passed l.self.gate.now l.self.number) l.line k → HavePassed (g.G.Gate.passed l.self.gate.now l.self.number) l.self.line (l.index + k)
