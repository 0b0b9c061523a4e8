-- Bytes that have to be one whole message, and nothing else. They are read as a stream that ends where they do.
use Rattle.std.specs.Prelude.{◌≡◌, ℕ, List, [], ◌∷◌, Result, Ok, Err}
use Rattle.pf_state.specs.{declared.{peer.fault.PeerFault.TheVariants.Ended, peer.fault.OneFault.OneFault, peer.fault.OneFault.TheVariants.Fault, peer.fault.OneFault.TheVariants.Count, peer.message.Message.Message}, Peer.Streams.{Ending, Unfinished, Faulty, Reads}}

-- What a stream of these messages with this ending is: its fault, wherever it is; else a message that isn't whole; else how many messages
-- there are.
abbrev pub one_of : List Message → Ending → Result Message OneFault
one_of ms (Faulty f) = Err (Fault f)
one_of ms (Unfinished (b ∷ rest)) = Err (Fault Ended)
one_of [] (Unfinished []) = Err Count
one_of (m ∷ []) (Unfinished []) = Ok m
one_of (m ∷ n ∷ ms) (Unfinished []) = Err Count

-- the bytes are this one message, or have this fault
abbrev pub IsOne : List ℕ → Result Message OneFault → Type 0
IsOne bytes r = (ms : List Message) × (e : Ending) × Reads bytes ms e × (r ≡ one_of ms e)
