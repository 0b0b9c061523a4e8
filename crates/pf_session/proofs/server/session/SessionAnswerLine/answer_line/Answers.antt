use Rattle.pf_session.proofs.Sitting.{attends-one}
use Rattle.pf_session.proofs.server.session.SessionAnswerLine.answer_line.Goals as goal

pub returns : goal.returns
returns g c =
    let (text, reported, written) = c.answer.ensures in (
      text,
      attends-one g.G.Gate.passed g.J.Naming.base g.J.Chapter.setting c.args.self.now c.answer.new.runner c.args.line.now text c.saturating_add-self.result c.saturating_add-self.ensures c.pass.ensures reported,
      written,
    )
