use Rattle.pf_session.proofs.Sitting.{attends-one}
use Rattle.pf_session.proofs.server.session.Session.answer_alone.Goals as goal

pub returns : goal.returns
returns g c = λ line parses refused.
    let (text, reported, written) = c.answer_said.ensures line parses refused in (
      text,
      attends-one g.G.Gate.passed g.J.Naming.base g.J.Chapter.setting c.args.self.now c.answer_said.new.runner line text c.saturating_add-self.result c.saturating_add-self.ensures c.pass.ensures reported,
      written,
    )
