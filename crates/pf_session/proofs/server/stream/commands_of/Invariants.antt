use Rattle.std.proofs.Common.{◌≡◌, ◌++◌, length}
use Rattle.std.specs.Vec.Iter.{into_iter_items, into_iter_len}
use Rattle.pf_session.specs.Server.Streams.{asked}
use Rattle.pf_session.proofs.server.stream.commands_of.Given as goal

abbrev pub invariant-loop-message : goal.invariant-loop-message
invariant-loop-message l = record {
  all : l.yielded ++ into_iter_items l.message-iterator ≡ into_iter_items l.initial.message-iterator;
  len : into_iter_len l.message-iterator ≡ length (into_iter_items l.message-iterator);
  made : l.commands.items ≡ asked l.yielded;
}
