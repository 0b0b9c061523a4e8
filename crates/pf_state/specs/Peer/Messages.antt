-- A message: a header of 20 bytes, and groups to its end.
--
--   place width field
--       0     1 version, 5
--       1     1 zero
--       2     2 length of the whole message
--       4    16 checksum
use Rattle.std.specs.Prelude.{◌≡◌, ◌≤◌, ℕ, List, length, take, drop, Result, Ok, Err}
use Rattle.pf_state.specs.{declared.{peer.fault.PeerFault.PeerFault, peer.message.Group.Group, peer.message.Message.Message, peer.fields.TheConstants.MESSAGE_VERSION, peer.fields.TheConstants.MESSAGE_HEADER}, Peer.Groups.{AreGroups, BreakAfterGroups}}
use Rattle.pf_rule.specs.Bytes.{byte_at, number_at}

-- the bytes have the header of a message that is as long as they are
pub record IsWhole (bytes : List ℕ) : Type 0 where
  pub version : byte_at 0 bytes ≡ MESSAGE_VERSION
  pub zero : byte_at 1 bytes ≡ 0
  pub measured : number_at 2 2 bytes ≡ length bytes
  pub enough : MESSAGE_HEADER ≤ length bytes

-- the bytes are this message
pub record IsMessage (bytes : List ℕ) (m : Message) : Type 0 where
  pub whole : IsWhole bytes
  pub checksum : m.checksum ≡ take 16 (drop 4 bytes)
  pub groups : AreGroups (drop MESSAGE_HEADER bytes) m.groups

-- by their header the bytes are a message, and the first invalid group has this fault
pub record IsBroken (bytes : List ℕ) (f : PeerFault) : Type 0 where
  pub whole : IsWhole bytes
  pub before : List Group
  pub breaks : BreakAfterGroups before (drop MESSAGE_HEADER bytes) f

-- which of the two it is
abbrev pub IsJudged : List ℕ → Result Message PeerFault → Type 0
IsJudged bytes (Ok m) = IsMessage bytes m
IsJudged bytes (Err f) = IsBroken bytes f
