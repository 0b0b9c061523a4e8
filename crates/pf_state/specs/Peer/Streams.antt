-- A stream: messages one after the other, and then a message that isn't whole yet, or a fault.
use Rattle.std.specs.Prelude.{◌≡◌, ◌≢◌, ◌⊎◌, ◌+◌, ◌*◌, ◌≤◌, ◌<◌, ℕ, List, [], ◌∷◌, ◌++◌, length, take}
use Rattle.pf_state.specs.{declared.{peer.fault.PeerFault.PeerFault, peer.fault.PeerFault.TheVariants.BadVersion, peer.fault.PeerFault.TheVariants.BadLength, peer.message.Message.Message, peer.fields.TheConstants.MESSAGE_VERSION, peer.fields.TheConstants.MESSAGE_HEADER, peer.stream.MessageStart.MessageStart, peer.stream.MessageStart.TheVariants.Partial, peer.stream.MessageStart.TheVariants.Whole, peer.stream.MessageStart.TheVariants.Bad}, Peer.Messages.{IsWhole, IsMessage, IsBroken}}

-- how it ends so far
pub data Ending : Type 0 where
  -- with these bytes of the next message, perhaps none
  Unfinished : List ℕ → Ending
  -- with this fault
  Faulty : PeerFault → Ending

-- These bytes may become a message but aren't one yet: each byte so far is valid, and the length isn't reached.
abbrev pub IsUnfinished : List ℕ → Type 0
IsUnfinished [] = Unit {0}
IsUnfinished (v ∷ []) = v ≡ MESSAGE_VERSION
IsUnfinished (v ∷ z ∷ []) = (v ≡ MESSAGE_VERSION) × (z ≡ 0)
IsUnfinished (v ∷ z ∷ a ∷ []) = (v ≡ MESSAGE_VERSION) × (z ≡ 0)
IsUnfinished (v ∷ z ∷ a ∷ b ∷ bytes) = (v ≡ MESSAGE_VERSION) × (z ≡ 0) × (MESSAGE_HEADER ≤ a * 256 + b) × (length bytes + 4 < a * 256 + b)

-- the version is wrong, as soon as a byte of it is there
abbrev pub HasBadVersion : List ℕ → Type 0
HasBadVersion [] = ⊥
HasBadVersion (v ∷ []) = v ≢ MESSAGE_VERSION
HasBadVersion (v ∷ z ∷ bytes) = (v ≢ MESSAGE_VERSION) ⊎ ((v ≡ MESSAGE_VERSION) × (z ≢ 0))

-- the length is below that of the header, as soon as its two bytes are there
abbrev pub HasShortLength : List ℕ → Type 0
HasShortLength (v ∷ z ∷ a ∷ b ∷ bytes) = (v ≡ MESSAGE_VERSION) × (z ≡ 0) × (a * 256 + b < MESSAGE_HEADER)
HasShortLength bytes = ⊥

-- the bytes begin with a whole message that has this fault
pub record BeginsBroken (bytes : List ℕ) (f : PeerFault) : Type 0 where
  pub front : List ℕ
  pub following : List ℕ
  pub split : bytes ≡ front ++ following
  pub broken : IsBroken front f

-- the header of a message has this fault
abbrev pub IsBadHeader : List ℕ → PeerFault → Type 0
IsBadHeader bytes f = ((f ≡ BadVersion) × HasBadVersion bytes) ⊎ ((f ≡ BadLength) × HasShortLength bytes)

-- where a message should begin, the bytes have this fault
abbrev pub IsFaulty : List ℕ → PeerFault → Type 0
IsFaulty bytes f = IsBadHeader bytes f ⊎ BeginsBroken bytes f

abbrev pub Ends : List ℕ → Ending → Type 0
Ends bytes (Unfinished rest) = (bytes ≡ rest) × IsUnfinished bytes
Ends bytes (Faulty f) = IsFaulty bytes f

-- what is at the start of a message
abbrev pub IsFront : List ℕ → MessageStart → Type 0
IsFront bytes Partial = IsUnfinished bytes
IsFront bytes (Whole size) = (size ≤ length bytes) × IsWhole (take size bytes)
IsFront bytes (Bad f) = IsBadHeader bytes f

-- the bytes so far are these messages, and end like this
abbrev pub Reads : List ℕ → List Message → Ending → Type 0
Reads bytes [] e = Ends bytes e
Reads bytes (m ∷ ms) e = (front following : List ℕ) × (bytes ≡ front ++ following) × IsMessage front m × Reads following ms e

-- The pieces that follow these bytes give these messages, and end like this. After a fault no further piece is taken.
abbrev pub Feeds : List ℕ → List (List ℕ) → List Message → Ending → Type 0
Feeds rest [] ms e = (ms ≡ []) × (e ≡ Unfinished rest)
Feeds rest (p ∷ ps) ms e = ((f : PeerFault) × (e ≡ Faulty f) × Reads (rest ++ p) ms e)
    ⊎ ((first others : List Message) × (left : List ℕ) × (ms ≡ first ++ others)
    × Reads (rest ++ p) first (Unfinished left) × Feeds left ps others e)
