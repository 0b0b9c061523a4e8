-- What holds of a peer's stream, however reads cut it.
use Rattle.std.specs.Prelude.{◌≡◌, ℕ, List, [], flat_map, Option, Some}
use Rattle.pf_state.specs.declared.peer.fault.PeerFault.{PeerFault}
use Rattle.pf_state.specs.Peer.Outcomes.{TakenAs}
use Rattle.pf_session.specs.Server.Streams.{ArePieces, Piece, messages_of, fault_parts}

-- The messages of all pieces, in their order, and the fault, if there is one, are what their bytes say as a whole.
abbrev pub AreOneStream : Type 0
AreOneStream = (pieces : List Piece) (left : Option (List ℕ)) → ArePieces (Some []) pieces left
    → (fault : Option PeerFault) × (flat_map (λ p. fault_parts p.fault) pieces ≡ fault_parts fault)
    × TakenAs (Some []) (flat_map (λ p. p.bytes) pieces) left (flat_map (λ p. messages_of p.groups) pieces) fault
