use Rattle.std.proofs.Common.{◌≡◌, List}
use Rattle.std.specs.Slice.Iter.{chunks_rest, chunks_size}
use Rattle.pf_state.specs.declared.peer.message.Message.{Message}
use Rattle.pf_session.specs.Server.Streams.{asked}
use Rattle.pf_session.proofs.Grouping.{IsUnderWay}
use Rattle.pf_session.proofs.server.stream.Follower.run_all.Given as goal

abbrev pub invariant-loop-group : goal.invariant-loop-group
invariant-loop-group g l = record {
  size : chunks_size l.group-iterator ≡ 64;
  ran : (messages : List Message) → l.commands ≡ asked messages
      → IsUnderWay g.J.Naming.base g.J.Chapter.setting messages (chunks_rest l.group-iterator) l.fn.self.last l.self.last (g.O.Write.contents l.fn.writer) (g.O.Write.contents l.writer);
}
