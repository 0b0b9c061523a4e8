use Rattle.pf_session.specs.Server.Streams.{GoesOn, StreamSoFar, Takes}
use Rattle.pf_session.proofs.server.stream.follow.Given as goal

abbrev pub invariant-loop : goal.invariant-loop
invariant-loop g l = GoesOn l.fn.peer → StreamSoFar (Takes g.J.Naming.base g.J.Chapter.setting) l.fn.peer (g.R.Read.remaining l.fn.reader) (g.R.Read.remaining l.reader) l.peer
    l.fn.follower.last l.follower.last (g.O.Write.contents l.fn.writer) (g.O.Write.contents l.writer)
