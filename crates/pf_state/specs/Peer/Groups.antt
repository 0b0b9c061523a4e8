-- A message's groups, in order, and the fault of the first that is invalid. A group is an action, a zero byte, a count in two bytes, and
-- that many records of 64 bytes.
use Rattle.std.specs.Prelude.{◌≡◌, ◌≢◌, ◌*◌, ◌==◌, ◌&&◌, ◌||◌, nat_lt, ℕ, zero, suc, Bool, List, [], ◌∷◌, length, take, drop, Option, Some, None, Result, Ok, Err, if◌then◌else◌}
use Rattle.pf_state.specs.{declared.{peer.fault.PeerFault.PeerFault, peer.fault.PeerFault.TheVariants.BadLength, peer.fault.PeerFault.TheVariants.BadAction, peer.fault.PeerFault.TheVariants.BadRecord, peer.message.Group.Group, peer.message.Group.TheVariants.Inserts, peer.message.Group.TheVariants.Deletes, peer.message.Group.TheVariants.Clears, peer.message.TheConstants.INSERT, peer.message.TheConstants.DELETE, peer.message.TheConstants.CLEAR, peer.record.TheConstants.RECORD_LENGTH}, Peer.Records.{insert_of, delete_of, clear_of}}
use Rattle.pf_rule.specs.Bytes.{byte_at, number_at}

infixl 10 ◌>>=◌
abbrev pub ◌>>=◌ : {A B : Type 0} → Result A PeerFault → (A → Result B PeerFault) → Result B PeerFault
(Ok x) >>= f = f x
(Err e) >>= f = Err e

-- ---- records

-- a value, or the fault if there is none
abbrev pub or_bad : {A : Type 0} → Option A → Result A PeerFault
or_bad (Some x) = Ok x
or_bad None = Err BadRecord

-- this many records, one after the other, each read by `reading`
abbrev pub records_of : {A : Type 0} → (List ℕ → Option A) → ℕ → List ℕ → Result (List A) PeerFault
records_of reading zero bytes = Ok []
records_of reading (suc n) bytes =
    or_bad (reading (take RECORD_LENGTH bytes)) >>= λ x. records_of reading n (drop RECORD_LENGTH bytes) >>= λ xs. Ok (x ∷ xs)

-- ---- a group

abbrev pub is_action : ℕ → Bool
is_action a = (a == INSERT) || ((a == DELETE) || (a == CLEAR))

-- the records of a group of this action
unfoldable pub content : ℕ → ℕ → List ℕ → Result Group PeerFault
content a n bytes = if a == INSERT then (records_of insert_of n bytes >>= λ xs. Ok (Inserts xs))
    else (if a == DELETE then (records_of delete_of n bytes >>= λ xs. Ok (Deletes xs))
    else (records_of clear_of n bytes >>= λ xs. Ok (Clears xs)))

-- how many bytes its records take
abbrev pub size_at : List ℕ → ℕ
size_at bytes = RECORD_LENGTH * number_at 2 2 bytes

-- The group at the front of what is left of a message, and what follows it. The fault is the first in this order: fewer bytes than a
-- group's header; an unknown action, or a byte other than 0 after it; records past the message's end; a record.
unfoldable pub group_at : List ℕ → Result (Group × List ℕ) PeerFault
group_at bytes =
    if nat_lt (length bytes) 4 then Err BadLength
    else (if is_action (byte_at 0 bytes) && (byte_at 1 bytes == 0)
    then (if nat_lt (length (drop 4 bytes)) (size_at bytes) then Err BadLength
    else (content (byte_at 0 bytes) (number_at 2 2 bytes) (drop 4 bytes) >>= λ g. Ok (g, drop (size_at bytes) (drop 4 bytes))))
    else Err BadAction)

-- ---- all of them

-- the bytes are these groups and nothing else
abbrev pub AreGroups : List ℕ → List Group → Type 0
AreGroups bytes [] = bytes ≡ []
AreGroups bytes (g ∷ gs) = (bytes ≢ []) × (following : List ℕ) × (group_at bytes ≡ Ok (g, following)) × AreGroups following gs

-- the bytes begin with these groups, and then have this fault
abbrev pub BreakAfterGroups : List Group → List ℕ → PeerFault → Type 0
BreakAfterGroups [] bytes f = (bytes ≢ []) × (group_at bytes ≡ Err f)
BreakAfterGroups (g ∷ gs) bytes f = (bytes ≢ []) × (following : List ℕ) × (group_at bytes ≡ Ok (g, following)) × BreakAfterGroups gs following f
