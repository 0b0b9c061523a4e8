use Rattle.std.proofs.Common.{refl}
use Rattle.pf_session.specs.Server.{Askings.denied_text, AskingRuns.place}
use Rattle.pf_session.proofs.Asking.{asks-denied, asks-inquired}
use Rattle.pf_session.proofs.server.asking.Asker.ask_or_deny.Goals as goal

pub returns-in-Some-clause-asks : goal.returns-in-Some-clause-asks
returns-in-Some-clause-asks g c =
    let (text, inquired, written) = c.inquire_and_tell.ensures.asked in
    let inquiry = c.in-Some.inquiry in (
      text,
      asks-inquired g.J.Naming.base g.J.Chapter.setting c.args.command (place c.args.self.now) (place c.inquire_and_tell.new.self) text inquiry.command c.in-Some.ensures inquiry.asks inquired,
      written,
    )

pub returns-in-None-clause-asks : goal.returns-in-None-clause-asks
returns-in-None-clause-asks g c = (
  denied_text,
  asks-denied g.J.Naming.base g.J.Chapter.setting c.args.command (place c.args.self.now) (place c.args.self.now) denied_text c.in-None.ensures refl refl,
  c.deny.ensures,
)
