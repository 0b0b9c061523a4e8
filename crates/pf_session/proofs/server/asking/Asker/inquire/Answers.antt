use Rattle.std.proofs.Common.{refl}
use Rattle.pf_session.proofs.Asking.{asked-as-was}
use Rattle.pf_session.proofs.server.asking.Asker.inquire.Goals as goal

pub returns-clause-asked : goal.returns-clause-asked
returns-clause-asked g c =
    let answered = rw c.as_ref.ensures.value at c.ask-reply.ensures in
    record {
      reply = c.ask-reply.result.0;
      slip = c.ask-reply.result.1;
      answered = answered;
      unchanged = asked-as-was g.J.Naming.base g.J.Chapter.setting c.args.inquiry.command c.ask-reply.result.0 c.ask-reply.result.1 c.args.self.now.last.now answered c.args.inquiry.asks;
      reported = refl;
      kept = refl;
    }
