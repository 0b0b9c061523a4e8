use Rattle.pf_session.proofs.Streaming.{fed-cut, fed-replied}
use Rattle.pf_session.proofs.server.stream.Follower.run_fed.Goals as goal

pub returns-in-Ok : goal.returns-in-Ok
returns-in-Ok g c = λ messages is.
    fed-replied g.J.Naming.base g.J.Chapter.setting c.in-Ok.field-0 c.tell_fault.result messages c.args.fault (g.O.Write.contents c.tell_fault.new.writer) (c.in-Ok.ensures messages is) c.tell_fault.ensures

pub returns-in-Err : goal.returns-in-Err
returns-in-Err g c = λ messages is. fed-cut g.J.Naming.base g.J.Chapter.setting c.in-Err.field-0 messages c.args.fault (c.in-Err.ensures messages is)
