-- The bytes of a message.
use Rattle.std.specs.{Prelude.{◌+◌, ◌<◌, ℕ, List, [], ◌∷◌, ◌++◌, length, ◌^◌, ◌≡◌}, List.flat_map}
use Rattle.byteorder.specs.Endian.{big_bytes}
use Rattle.pf_state.specs.{declared.{peer.message.Group.Group, peer.message.Group.TheVariants.Inserts, peer.message.Group.TheVariants.Deletes, peer.message.Group.TheVariants.Clears, peer.message.Message.Message, peer.message.TheConstants.INSERT, peer.message.TheConstants.DELETE, peer.message.TheConstants.CLEAR, peer.fields.TheConstants.MESSAGE_VERSION, peer.fields.TheConstants.MESSAGE_HEADER, peer.record.Delete.Delete, peer.record.Clear.Clear}, Peer.Records.{IsInsert, insert_bytes, delete_bytes, clear_bytes}}

-- an action, a zero, how many records, and the records
abbrev pub group_with : {A : Type 0} → ℕ → (A → List ℕ) → List A → List ℕ
group_with action writing xs = action ∷ 0 ∷ (big_bytes 2 (length xs) ++ flat_map writing xs)

abbrev pub group_bytes : Group → List ℕ
group_bytes (Inserts xs) = group_with INSERT insert_bytes xs
group_bytes (Deletes xs) = group_with DELETE delete_bytes xs
group_bytes (Clears xs) = group_with CLEAR clear_bytes xs

abbrev pub groups_bytes : List Group → List ℕ
groups_bytes gs = flat_map group_bytes gs

-- how many bytes it takes
abbrev pub message_length : Message → ℕ
message_length m = MESSAGE_HEADER + length (groups_bytes m.groups)

abbrev pub message_bytes : Message → List ℕ
message_bytes m = MESSAGE_VERSION ∷ 0 ∷ (big_bytes 2 (message_length m) ++ (m.checksum ++ groups_bytes m.groups))

-- ---- which messages can be written

-- each of them has this property
abbrev pub Each : {A : Type 0} → (A → Type 0) → List A → Type 0
Each P [] = Unit {0}
Each P (x ∷ xs) = P x × Each P xs

abbrev pub IsDelete : Delete → Type 0
IsDelete d = (d.id < 2 ^ 64) × (d.creator < 2 ^ 32)

abbrev pub IsClear : Clear → Type 0
IsClear c = c.creator < 2 ^ 32

abbrev pub IsGroup : Group → Type 0
IsGroup (Inserts xs) = Each IsInsert xs
IsGroup (Deletes xs) = Each IsDelete xs
IsGroup (Clears xs) = Each IsClear xs

-- fields within their widths, and few enough bytes for the length field's two
pub record CanBeWritten (m : Message) : Type 0 where
  pub checksum : length m.checksum ≡ 16
  pub groups : Each IsGroup m.groups
  pub fits : message_length m < 65536
