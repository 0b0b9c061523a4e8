-- The messages that give a peer the states here. They are those of pf_state::peer, after pfsync(4).
use Rattle.std.specs.{Prelude.{ℕ, List, [], ◌∷◌, length, map}, Simd.first_chunks, Slice.Iter.chunk_count}
use Rattle.pf_state.specs.{declared.{peer.message.Group.TheVariants.Inserts, peer.message.Message.Message, binding.TheConstants.ALL_ONES, failover.outgoing.TheConstants.EXPORT_RECORDS}, Peer.Records.PlainInsert, Bindings.exported, States.PlainState}

-- The insert of a state if the main rules have this checksum: it has the number of the state's main rule while they are the rules that it
-- was bound by, and no anchor.
abbrev pub exported_insert : List ℕ → PlainState → PlainInsert
exported_insert current s = record {
  id = s.0.id;
  creator = s.0.creator;
  generation = s.1.generation;
  direction = s.1.flow.direction;
  protocol = s.1.flow.protocol;
  source = s.1.flow.source;
  destination = s.1.flow.destination;
  source_port = s.1.flow.source_port;
  destination_port = s.1.flow.destination_port;
  rule = exported s.1.bound current;
  anchor = ALL_ONES;
}

-- a message of one group, with these states
abbrev pub exported_message : List ℕ → List PlainState → Message
exported_message current es = record { checksum = current; groups = Inserts (map (exported_insert current) es) ∷ [] }

-- the states in parts of 31, the last of what is left
abbrev pub parts : List PlainState → List (List PlainState)
parts es = first_chunks EXPORT_RECORDS (chunk_count (length es) EXPORT_RECORDS) es

-- a message for each part
abbrev pub exported_messages : List ℕ → List PlainState → List Message
exported_messages current es = map (exported_message current) (parts es)
