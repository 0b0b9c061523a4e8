use Rattle.std.proofs.Common.{◌++◌, List, length}
use Rattle.pf_state.specs.declared.peer.message.Message.{Message}
use Rattle.pf_state.specs.Peer.Streams.{Ending, Reads}
use Rattle.pf_state.proofs.peer.stream.read_stream.Given as goal

abbrev pub invariant-loop-size : goal.invariant-loop-size
invariant-loop-size l = (ms : List Message) (e : Ending) → Reads l.rest ms e → Reads l.fn.bytes (l.messages.items ++ ms) e

abbrev pub decreases-loop-size : goal.decreases-loop-size
decreases-loop-size l = length l.rest
