use Rattle.std.proofs.Common.{◌≡◌, ◌++◌, ◌+◌, map, length}
use Rattle.std.specs.Slice.Iter.{chunk_count}
use Rattle.pf_state.specs.{Peer.Written.{Each, message_bytes}, Failover.Outgoing.{parts, exported_messages}}
use Rattle.pf_state.proofs.ExportParts.{IsRead}
use Rattle.pf_state.proofs.failover.outgoing.export.Given as goal

abbrev pub invariant-loop-message : goal.invariant-loop-message
invariant-loop-message l = record {
  reported : map (λ m. m.items) l.messages.items ++ map message_bytes (exported_messages l.current l.rest) ≡ map message_bytes (exported_messages l.current l.states);
  read : Each (IsRead l.current) (parts l.rest) → Each (IsRead l.current) (parts l.states);
  count : chunk_count (length l.rest) 31 + l.message ≡ chunk_count (length l.states) 31;
}
