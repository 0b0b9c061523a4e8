use Rattle.std.proofs.Common.{◌≡◌, ℕ, ◌+◌, length, subst, arith}
use Rattle.pf_session.specs.Server.SessionRuns.{HavePassed}
use Rattle.pf_session.proofs.Running.{passed-on}
use Rattle.pf_session.proofs.server.session.Session.pass_each.Goals as goal

pub loop-init : goal.loop-init
loop-init g c = λ k more. let same : 0 + k ≡ k = omega arith in rw same more

pub loop-preserved : goal.loop-preserved
loop-preserved g c = λ k more.
    let self = c.args.self.now in
    let passed = g.G.Gate.passed self.gate.now self.number in
    passed-on passed self.line c.loop.line c.loop.index k c.loop.invariant (subst passed c.saturating_add-line.ensures c.pass.ensures) (subst (λ (n : ℕ). HavePassed passed n k) c.saturating_add-line.ensures more)

pub returns : goal.returns
returns g c =
    let self = c.args.self.now in
    let passed = g.G.Gate.passed self.gate.now self.number in
    let all : c.loop.index + 0 ≡ length c.args.commands.now = omega arith in
    subst (λ (n : ℕ). HavePassed passed self.line n) all (c.loop.invariant 0 tt)
