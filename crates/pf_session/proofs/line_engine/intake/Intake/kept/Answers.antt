use Rattle.std.proofs.Common.{◌≡◌, ◌≤◌, ap, arith, length, length-take, take}
use Rattle.pf_session.specs.LineEngine.Intakes.{PlainIntake}
use Rattle.pf_session.proofs.Pausing.{begun-kept}
use Rattle.pf_session.proofs.line_engine.intake.Intake.kept.Goals as goal

pub returns-clause-line : goal.returns-clause-line
returns-clause-line c =
    let i = c.self.inside in
    let is : take i.kept i.line.items ≡ c.args.self.now.kept = ap (λ (v : PlainIntake). v.kept) c.self.view_is in
    let few : length (take i.kept i.line.items) ≤ 4097 = omega (arith, length-take i.kept i.line.items) in
    begun-kept c.args.self.now (rw is at c.self.invariant.5) (rw is at few)
