-- The texts of states, of checksums and of messages for a peer. A protocol, an address and a direction are written as in a rule's text.
use Rattle.std.specs.Prelude.{ℕ, ◌==◌, List, [], ◌∷◌, ◌++◌, codes, decimal, if◌then◌else◌, map}
use Rattle.hex.specs.Hex.{encode_lower}
use Rattle.pf_addr.specs.declared.addr.Addr.{Addr}
use Rattle.pf_addr.specs.Spelling.{addr_text}
use Rattle.pf_rule.specs.declared.{value.direction.Direction.Direction, value.direction.Direction.TheVariants.{In, Out}}
use Rattle.pf_rule.specs.Value.Tests.{protocol_word}
use Rattle.pf_state.specs.declared.{peer.fault.PeerFault.PeerFault, peer.fault.PeerFault.TheVariants.{BadVersion, BadLength, BadAction, BadRecord, Ended}, counts.Counts.Counts, state.Bound.Bound, state.Bound.TheVariants.{Rule, Default}, state.StateName.StateName}
use Rattle.pf_state.specs.{Flows.PlainFlow, States.PlainState}

-- a state's number, and its creator after a space (32)
abbrev pub name_text : StateName → List ℕ
name_text n = decimal n.id ++ 32 ∷ decimal n.creator

abbrev pub way_text : Direction → List ℕ
way_text In = codes " in "
way_text Out = codes " out "

-- an address and a port, each after a space
abbrev pub end_text : Addr → ℕ → List ℕ
end_text a port = 32 ∷ addr_text a ++ 32 ∷ decimal port

-- the direction of the first packet, its protocol, where it came from and where it went
abbrev pub flow_text : PlainFlow → List ℕ
flow_text f = way_text f.direction ++ (protocol_word f.protocol
    ++ (end_text f.source f.source_port ++ end_text f.destination f.destination_port))

-- the main rule that a state is bound to, with the checksum of the rules then
abbrev pub bound_text : Bound → List ℕ
bound_text (Rule number sum) = codes " rule " ++ decimal number ++ 32 ∷ encode_lower sum
bound_text Default = codes " default"

-- the tick at which a state expires, if it does
abbrev pub expiry_text : ℕ → List ℕ
expiry_text n = if n == 0 then [] else codes " until " ++ decimal n

-- its name, its generation, its flow, what it is bound to, and when it expires
abbrev pub state_line : PlainState → List ℕ
state_line s = name_text s.0 ++ (32 ∷ decimal s.1.generation ++ (flow_text s.1.flow ++ (bound_text s.1.bound ++ expiry_text s.1.expiry)))

abbrev pub state_lines : List PlainState → List (List ℕ)
state_lines ss = map state_line ss

-- a message in hexadecimal, as the line that a peer is given
abbrev pub message_line : List ℕ → List ℕ
message_line bytes = codes "peer " ++ encode_lower bytes

abbrev pub message_lines : List (List ℕ) → List (List ℕ)
message_lines ms = map message_line ms

-- what became of a message's records
abbrev pub counts_text : Counts → List ℕ
counts_text c =
    codes " new " ++ decimal c.inserted ++ (codes " replaced " ++ decimal c.replaced
    ++ (codes " stale " ++ decimal c.stale ++ (codes " clash " ++ decimal c.clash ++ (codes " deleted " ++ decimal c.deleted))))

abbrev pub fault_text : PeerFault → List ℕ
fault_text BadVersion = codes "err peer version"
fault_text BadLength = codes "err peer length"
fault_text BadAction = codes "err peer action"
fault_text BadRecord = codes "err peer record"
fault_text Ended = codes "err peer ended"
