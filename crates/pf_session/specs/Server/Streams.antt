-- A peer's stream over a Book that others use too: the messages that each read completes are given to it in groups.
use Rattle.std.specs.{Prelude.{◌≡◌, ℕ, ◌<◌, ◌≤◌, length, List, [], ◌∷◌, ◌++◌, map, flat_map, fold, Option, Some, None, Result, Ok, Err, ◌⊎◌, ⊤}, Io.KnownBytes.{Appends, Consumes, IsAtEnd}}
use Rattle.pf_addr.specs.Writing.{WritesFront}
use Rattle.pf_state.specs.declared.{peer.fault.FeedError.FeedError, peer.fault.PeerFault.PeerFault, peer.fault.PeerFault.TheVariants.Ended, peer.message.Message.Message}
use Rattle.pf_state.specs.Peer.Outcomes.{TakenAs}
use Rattle.pf_core.specs.declared.{command.Command.Command, command.Command.TheVariants.States, command.StateCommand.TheVariants.Peer, group.TheConstants.GROUP_LIMIT, reply.Refusal.Refusal, reply.Refusal.TheVariants.BadPeer, reply.Reply.TheVariants.Refused}
use Rattle.pf_core.specs.{Durable.Changes.PlainDurable, Worlds.Setting}
use Rattle.pf_line.specs.Reply.Replies.{reply_text}
use Rattle.pf_book.specs.{Groups.{Answered as Receipted, IsGroupAnswered}, Receipts.PlainReceipt}
use Rattle.pf_session.specs.declared.{line_engine.fault.EngineFault.EngineFault, server.stream.Progress.Progress, server.stream.Progress.TheVariants.{On, Over}}
use Rattle.pf_session.specs.declared.line_engine.fault.EngineFault.TheVariants as fault
use Rattle.pf_session.specs.{LineEngine.Chains.Chain, LineEngine.Pieces.Answers, LineEngine.Sessions.{Answered, CutOff}}

-- ---- parts

-- what is done at once: a group of messages is run, or a fault is written
abbrev pub Part : Type 0
Part = Result (List Message) PeerFault

-- what the Book is asked
abbrev pub asked : List Message → List Command
asked ms = map (λ m. States (Peer m)) ms

-- a reply for each message; of a group that was refused whole, the refusal for each
abbrev pub group_text : List Message → Result (List Receipted) Refusal → List ℕ
group_text ms (Ok answers) = flat_map (λ a. reply_text a.0) answers
group_text ms (Err e) = flat_map (λ m. reply_text (Refused e)) ms

-- the receipt after a group: that of its last message, or the old one if it was refused whole
abbrev pub last_receipt : Option PlainReceipt → Result (List Receipted) Refusal → Option PlainReceipt
last_receipt old (Ok answers) = fold (λ last a. Some a.1) old answers
last_receipt old (Err e) = old

-- The Book ran these messages as one group, with the receipt of the last call handed in.
pub record RunsGroup (base : PlainDurable) (setting : Setting) (ms : List Message) (old new : Option PlainReceipt) (text : List ℕ) : Type 0 where
  pub some : 0 < length ms
  pub few : length ms ≤ GROUP_LIMIT
  pub result : Result (List Receipted) Refusal
  pub answered : IsGroupAnswered base setting (asked ms) result old
  pub reported : text ≡ group_text ms result
  pub kept : new ≡ last_receipt old result

-- A group was run, or a fault was written.
abbrev pub TakesPart : PlainDurable → Setting → Part → Option PlainReceipt → Option PlainReceipt → List ℕ → Type 0
TakesPart base setting (Ok ms) old new text = RunsGroup base setting ms old new text
TakesPart base setting (Err f) old new text = (new ≡ old) × (text ≡ reply_text (Refused (BadPeer f)))

-- These parts, one after the other, took the receipt of the last call from the one to the other, and this is their text.
abbrev pub Takes : PlainDurable → Setting → Option PlainReceipt → Option PlainReceipt → List Part → List ℕ → Type 0
Takes base setting old new parts text = Chain (TakesPart base setting) old new parts text

-- ---- pieces

-- What one read gives: its bytes; the messages that are whole with it, in groups; and the fault behind them, if there is one.
pub record Piece : Type 0 where
  pub bytes : List ℕ
  pub groups : List (List Message)
  pub fault : Option PeerFault

-- Each group has 64 messages, and the last has what is left.
abbrev pub AreGroups : List (List Message) → Type 0
AreGroups [] = ⊤
AreGroups (g ∷ []) = (0 < length g) × (length g ≤ GROUP_LIMIT)
AreGroups (g ∷ h ∷ groups) = (length g ≡ GROUP_LIMIT) × AreGroups (h ∷ groups)

abbrev pub messages_of : List (List Message) → List Message
messages_of groups = flat_map (λ g. g) groups

-- a fault, if there is one
abbrev pub fault_parts : Option PeerFault → List Part
fault_parts None = []
fault_parts (Some f) = Err f ∷ []

-- what is done at a piece: each of its groups is run, and then its fault is written
abbrev pub parts_in : Piece → List Part
parts_in p = map Ok p.groups ++ fault_parts p.fault

-- A piece of a stream whose bytes so far are whole messages and these. It leaves those of the next message, and none after a fault, behind
-- which there is no piece.
pub record IsPiece (old : Option (List ℕ)) (p : Piece) (new : Option (List ℕ)) : Type 0 where
  pub few : length p.bytes ≤ 131072
  pub taken : TakenAs old p.bytes new (messages_of p.groups) p.fault
  pub groups : AreGroups p.groups

-- pieces, one after the other
abbrev pub ArePieces : Option (List ℕ) → List Piece → Option (List ℕ) → Type 0
ArePieces old [] new = new ≡ old
ArePieces old (p ∷ pieces) new = (mid : Option (List ℕ)) × IsPiece old p mid × ArePieces mid pieces new

-- ---- the stream

-- no fault was found so far
abbrev pub GoesOn : Option (List ℕ) → Type 0
GoesOn left = (rest : List ℕ) × (left ≡ Some rest)

-- the stream has a fault, or the reader is at its end
abbrev pub HasEnded : Option (List ℕ) → Option (List ℕ) → Type 0
HasEnded None unread = ⊤
HasEnded (Some rest) unread = IsAtEnd unread

-- what is wrong where the stream ends so: that it ends within a message
abbrev pub wrong : Option (List ℕ) → List Part
wrong None = []
wrong (Some []) = []
wrong (Some (b ∷ bytes)) = Err Ended ∷ []

-- What ends a stream behind pieces that were answered, and these further bytes. At its end, and at a fault, what is wrong is written. Where
-- no more can be read nothing is, nor where there is no memory for a further piece. Where a write fails, groups of a further piece were run,
-- from the front on; or some of what is wrong at the end may be out; or just a flush failed.
abbrev pub StreamEnds : {S : Type 0} → (S → S → List Part → List ℕ → Type 0)
    → Result (Unit {0}) EngineFault → Option (List ℕ) → List ℕ → Option (List ℕ) → S → S → Option (List ℕ) → Option (List ℕ) → Type 0
StreamEnds Serves (Ok u) left bytes unread old new held held' =
    (bytes ≡ []) × HasEnded left unread × Answered Serves (wrong left) old new held held'
StreamEnds Serves (Err fault.Read) left bytes unread old new held held' = (bytes ≡ []) × GoesOn left × Answered Serves [] old new held held'
StreamEnds Serves (Err fault.Write) left bytes unread old new held held' =
    ((p : Piece) × (after : Option (List ℕ)) × (p.bytes ≡ bytes) × IsPiece left p after × CutOff Serves (parts_in p) old new held held')
    ⊎ (bytes ≡ []) × (CutOff Serves [] old new held held' ⊎ (IsAtEnd unread × CutOff Serves (wrong left) old new held held'))
StreamEnds Serves (Err fault.Memory) left bytes unread old new held held' =
    (length bytes ≤ 131072) × GoesOn left × Answered Serves [] old new held held'

-- What was read behind these bytes of a message, and what was done for it. All that is due to a piece is done, and all its replies are written, before another one is read:
-- so whatever ends the stream, all its pieces but the last are answered whole.
pub record IsStreamFrom {S : Type 0} (Serves : S → S → List Part → List ℕ → Type 0) (before : Option (List ℕ))
    (result : Result (Unit {0}) EngineFault) (unread still_unread : Option (List ℕ)) (old new : S) (held held' : Option (List ℕ)) : Type 0 where
  pub pieces : List Piece
  pub left : Option (List ℕ)
  pub are : ArePieces before pieces left
  pub mid : S
  pub shown : Option (List ℕ)
  pub answered : Answered Serves (flat_map parts_in pieces) old mid held shown
  pub bytes : List ℕ
  pub read : Consumes unread still_unread (flat_map (λ p. p.bytes) pieces ++ bytes)
  pub ends : StreamEnds Serves result left bytes still_unread mid new shown held'

-- the same from the stream's begin
abbrev pub IsStream : {S : Type 0} → (S → S → List Part → List ℕ → Type 0)
    → Result (Unit {0}) EngineFault → (unread still_unread : Option (List ℕ)) → S → S → (held held' : Option (List ℕ)) → Type 0
IsStream Serves result unread still_unread old new held held' = IsStreamFrom Serves (Some []) result unread still_unread old new held held'

-- ---- a piece

abbrev pub peer_fault_text : Option PeerFault → List ℕ
peer_fault_text None = []
peer_fault_text (Some f) = reply_text (Refused (BadPeer f))

-- the text where a reader finds this at the end
abbrev pub end_text : Result (Option PeerFault) FeedError → List ℕ
end_text (Ok fault) = peer_fault_text fault
end_text (Err e) = []

-- how the stream goes on after this fault, if there is one
abbrev pub IsGoing : Progress → Option PeerFault → Type 0
IsGoing On fault = fault ≡ None
IsGoing Over fault = (f : PeerFault) × (fault ≡ Some f)

-- a fault was written, if there was one
abbrev pub TellsFault : Result Progress EngineFault → Option PeerFault → Option (List ℕ) → Option (List ℕ) → Type 0
TellsFault (Ok goes) fault held held' = IsGoing goes fault × Appends held held' (peer_fault_text fault)
TellsFault (Err fault.Read) fault held held' = ⊥
TellsFault (Err fault.Write) fault held held' = WritesFront held held' (peer_fault_text fault)
TellsFault (Err fault.Memory) fault held held' = ⊥

-- what is wrong at the end was written, if anything is
abbrev pub TellsEnd : Result (Unit {0}) EngineFault → Result (Option PeerFault) FeedError → Option (List ℕ) → Option (List ℕ) → Type 0
TellsEnd (Ok u) end held held' = Appends held held' (end_text end)
TellsEnd (Err fault.Read) end held held' = ⊥
TellsEnd (Err fault.Write) end held held' = WritesFront held held' (end_text end)
TellsEnd (Err fault.Memory) end held held' = ⊥

-- messages were run in groups, or a failed write cut that short
pub record RunsAll {S A E : Type 0} (Serves : S → S → List Part → List ℕ → Type 0)
    (result : Result A E) (ms : List Message) (old new : S) (held held' : Option (List ℕ)) : Type 0 where
  pub groups : List (List Message)
  pub are : AreGroups groups
  pub of : messages_of groups ≡ ms
  pub answers : Answers Serves result (map Ok groups) old new held held'

-- these parts were done, of which the last is this fault, if there is one; or a failed write cut that short
abbrev pub RunsParts : {S : Type 0} → (S → S → List Part → List ℕ → Type 0)
    → Result Progress EngineFault → List Part → Option PeerFault → S → S → Option (List ℕ) → Option (List ℕ) → Type 0
RunsParts Serves (Ok goes) parts fault old new held held' = IsGoing goes fault × Answered Serves parts old new held held'
RunsParts Serves (Err fault.Read) parts fault old new held held' = ⊥
RunsParts Serves (Err fault.Write) parts fault old new held held' = CutOff Serves parts old new held held'
RunsParts Serves (Err fault.Memory) parts fault old new held held' = ⊥

-- messages were run in groups, and a fault was written after them, if there was one
pub record RunsFed {S : Type 0} (Serves : S → S → List Part → List ℕ → Type 0)
    (result : Result Progress EngineFault) (ms : List Message) (fault : Option PeerFault) (old new : S) (held held' : Option (List ℕ)) : Type 0 where
  pub groups : List (List Message)
  pub are : AreGroups groups
  pub of : messages_of groups ≡ ms
  pub ran : RunsParts Serves result (map Ok groups ++ fault_parts fault) fault old new held held'

-- nothing was done
pub record Waits {S : Type 0} (old new : S) (held held' : Option (List ℕ)) : Type 0 where
  pub state : new ≡ old
  pub bytes : held' ≡ held

-- what is due to a piece of these bytes was done; or there was no memory for it
abbrev pub TakesPiece : {S : Type 0} → (S → S → List Part → List ℕ → Type 0)
    → Result Progress EngineFault → List ℕ → Option (List ℕ) → Option (List ℕ) → S → S → Option (List ℕ) → Option (List ℕ) → Type 0
TakesPiece Serves result bytes left left' old new held held' =
    ((p : Piece) × (p.bytes ≡ bytes) × IsPiece left p left' × RunsParts Serves result (parts_in p) p.fault old new held held')
    ⊎ ((result ≡ Err fault.Memory) × Waits old new held held')

-- ---- so far

-- behind the one bytes of a message these pieces were answered, and the stream goes on with the other bytes of the next message
pub record StreamSoFar {S : Type 0} (Serves : S → S → List Part → List ℕ → Type 0)
    (before unread still_unread left : Option (List ℕ)) (old new : S) (held held' : Option (List ℕ)) : Type 0 where
  pub pieces : List Piece
  pub are : ArePieces before pieces left
  pub going : GoesOn left
  pub read : Consumes unread still_unread (flat_map (λ p. p.bytes) pieces)
  pub answered : Answered Serves (flat_map parts_in pieces) old new held held'
