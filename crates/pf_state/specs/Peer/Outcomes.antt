-- What readers return.
use Rattle.std.specs.Prelude.{◌≡◌, Result, Ok, Err, Option, Some, None, List, [], ◌∷◌, ◌++◌, ℕ}
use Rattle.pf_state.specs.{declared.{peer.fault.PeerFault.PeerFault, peer.fault.PeerFault.TheVariants.Ended, peer.fault.FeedError.FeedError, peer.fault.FeedError.TheVariants.Failed, peer.fault.ReadError.ReadError, peer.message.Message.Message}, Peer.Streams.{Ending, Unfinished, Faulty, Reads}}
use Rattle.pf_state.specs.declared.peer.fault.ReadError.TheVariants as errors

-- it is what reading gives, unless out of memory
abbrev pub Fails : {Y : Type 0} → ReadError → Result Y PeerFault → Type 0
Fails errors.Memory read = Unit {0}
Fails (errors.Fault f) read = read ≡ Err f

abbrev pub Gives : {X Y : Type 0} → (X → Y) → Result X ReadError → Result Y PeerFault → Type 0
Gives view (Ok x) read = read ≡ Ok (view x)
Gives view (Err e) read = Fails e read

-- if it is a fault, this holds for it
abbrev pub IfFault : ReadError → (PeerFault → Type 0) → Type 0
IfFault errors.Memory P = Unit {0}
IfFault (errors.Fault f) P = P f

-- a stream ends with its fault, or else with these bytes
abbrev pub ending : Option PeerFault → List ℕ → Ending
ending None rest = Unfinished rest
ending (Some f) rest = Faulty f

-- what a reader keeps of a stream: the bytes of the next message, and nothing after a fault
abbrev pub kept : Option PeerFault → List ℕ → Option (List ℕ)
kept None rest = Some rest
kept (Some f) rest = None

-- Given what it kept, followed by this piece, a reader returns these messages and perhaps a fault, and keeps what it has to.
abbrev pub TakenAs : Option (List ℕ) → List ℕ → Option (List ℕ) → List Message → Option PeerFault → Type 0
TakenAs None piece new ms fault = ⊥
TakenAs (Some old) piece new ms fault = (rest : List ℕ) × Reads (old ++ piece) ms (ending fault rest) × (new ≡ kept fault rest)

-- at the stream's end
abbrev pub finished : Option (List ℕ) → Result (Option PeerFault) FeedError
finished None = Err Failed
finished (Some []) = Ok None
finished (Some (b ∷ bytes)) = Ok (Some Ended)

-- what a reader keeps after the end: nothing if it was within a message, which is a fault
abbrev pub kept_at_end : Option (List ℕ) → Option (List ℕ)
kept_at_end None = None
kept_at_end (Some []) = Some []
kept_at_end (Some (b ∷ bytes)) = None
