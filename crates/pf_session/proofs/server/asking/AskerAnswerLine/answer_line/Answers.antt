use Rattle.std.proofs.Common.{sym, ◌∙◌}
use Rattle.pf_session.specs.Server.Askings.{denied_text}
use Rattle.pf_session.proofs.Asking.{answered-one, denied-one}
use Rattle.pf_session.proofs.server.asking.AskerAnswerLine.answer_line.Goals as goal

pub returns-then-is_denied : goal.returns-then-is_denied
returns-then-is_denied g c = (
  denied_text,
  denied-one g.G.Gate.passed g.J.Naming.base g.J.Chapter.setting c.args.self.now c.args.line.now c.saturating_add-self.result c.saturating_add-self.ensures c.pass.ensures (sym c.is_denied.ensures ∙ c.if-is_denied.true),
  c.deny.ensures,
)

pub returns : goal.returns
returns g c =
    let (text, reported, written) = c.answer.ensures in (
      text,
      answered-one g.G.Gate.passed g.J.Naming.base g.J.Chapter.setting c.args.self.now c.answer.new.runner c.args.line.now text c.saturating_add-self.result c.saturating_add-self.ensures c.pass.ensures (sym c.is_denied.ensures ∙ c.if-is_denied.false) reported,
      written,
    )
