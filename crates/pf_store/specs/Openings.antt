-- Why a device isn't opened.
use Rattle.std.specs.Prelude.{◌≡◌, ◌⊎◌, ◌<◌, ◌≤◌, ℕ, ◌+◌, ◌^◌, Bool, List, ◌∷◌, ◌++◌, length}
use Rattle.pf_disk.specs.Disk.{IsImage}
use Rattle.pf_journal.specs.Records.{records, region, IsFront}
use Rattle.pf_snap.specs.{Banks.{AreBanks, Content, Counts, HasSnapshot, bank_size, records_start}, Faults.IsRefused, declared.header.TheConstants.BANK_HEADER}
use Rattle.pf_snap.specs.Banks as snap
use Rattle.pf_snap.specs.declared.fault.LookFault.TheVariants as looking
use Rattle.pf_core.specs.{Durable.Changes.{PlainDurable}, Worlds.{down, refused_opening, last_epoch, raised, next, IsLegal}}
use Rattle.pf_store.specs.{Durables.IsDurable, Groups.IsRecorded, Lengths.snapshot_length, Stores.{FollowInTurn, Holds, HoldsEither, IsRoomy, Leads, Makes, left_by_all}}
use Rattle.pf_store.specs.declared.{encoding.recorded.Recorded.Recorded, store.fault.OpenFault.OpenFault, store.fault.OpenFault.TheVariants.{BadSize, NoBank, Corrupt, Memory, Fault, EpochsExhausted, Full, Places}}
use Rattle.pf_store.specs.declared.limits.TheConstants.{OPENING_RECORD}

-- The snapshot of the bank at place `at`, of this version, is of nothing that can be kept.
abbrev pub BreaksInSnapshot : (version at : ℕ) → List ℕ → ℕ → Type 0
BreaksInSnapshot version at snapshot place = ((d : PlainDurable) → ¬ IsDurable version d snapshot) × (place ≡ at + BANK_HEADER)

-- One of the payloads is of no group that follows what those before it leave. The first record's gate is at `start`.
pub record StopsAt (version : ℕ) (first : PlainDurable) (start : ℕ) (payloads : List (List ℕ)) (place : ℕ) : Type 0 where
  pub done : List (List ℕ)
  pub payload : List ℕ
  pub rest : List (List ℕ)
  pub split : payloads ≡ done ++ payload ∷ rest
  pub d : PlainDurable
  pub leads : Leads version first done d
  pub none : (xs : List Recorded) → IsRecorded version xs payload → ¬ FollowInTurn d xs
  pub at : place ≡ start + length (records done)

-- The snapshot is of something, but one of the payloads after it stops there.
pub record NoGroup (bank : ℕ) (content : Content) (place : ℕ) : Type 0 where
  pub first : PlainDurable
  pub kept : IsDurable content.version first content.snapshot
  pub stops : StopsAt content.version first (records_start bank content.snapshot) content.payloads place

-- All of them lead on, but the gate after them is open.
pub record IsTorn (torn : Type 0) (bank : ℕ) (content : Content) (place : ℕ) : Type 0 where
  pub d : PlainDurable
  pub makes : Makes content d
  pub open_gate : torn
  pub at : place ≡ records_start bank content.snapshot + length (records content.payloads)

-- The content of a bank makes nothing: it breaks off at this place.
abbrev pub MakesNone : Type 0 → (bank : ℕ) → Content → ℕ → Type 0
MakesNone torn bank content place =
    BreaksInSnapshot content.version bank content.snapshot place ⊎ (NoGroup bank content place ⊎ IsTorn torn bank content place)

-- The header of the bank that counts can be read, but the snapshot and records after it break off at this place.
pub record BreaksAfterHeader (seen : List ℕ) (place : ℕ) : Type 0 where
  pub bank : ℕ
  pub other : ℕ
  pub content : Content
  pub places : AreBanks (length seen) bank other
  pub counts : Counts seen bank other
  pub early : content.generation < 2 ^ 63
  pub has : HasSnapshot seen bank content.version content.generation content.snapshot
  pub front : IsFront (region (records_start bank content.snapshot) (bank + bank_size (length seen)) seen) content.payloads
  pub none : MakesNone ((c : Content) → ¬ snap.Holds seen c) bank content place

-- where the closed gate is
abbrev pub gate_of : (seen : List ℕ) (d : PlainDurable) → Holds seen d → ℕ
gate_of seen d held = records_start held.bank.at held.content.snapshot + length (records held.content.payloads)

-- the generation of the bank that counts
abbrev pub generation_of : (seen : List ℕ) (d : PlainDurable) → Holds seen d → ℕ
generation_of seen d held = held.content.generation

-- its version
abbrev pub version_of : (seen : List ℕ) (d : PlainDurable) → Holds seen d → ℕ
version_of seen d held = held.content.version

-- what the image holds, it holds by a generation of at most g
abbrev pub IsNoLaterThan : ℕ → List ℕ → Type 0
IsNoLaterThan g seen = (d : PlainDurable) (held : Holds seen d) → generation_of seen d held ≤ g

abbrev pub IsAsLongAs : List ℕ → List ℕ → Type 0
IsAsLongAs seen image = length image ≡ length seen

-- A bank has 56 bytes left after a snapshot of what the image holds.
abbrev pub LeavesRoom : List ℕ → Type 0
LeavesRoom image = (d : PlainDurable) → Holds image d → IsRoomy (bank_size (length image)) d

-- H is true of the image, which is as long as this one, and what it holds it holds by a generation of at most g.
pub record HoldsBy (seen : List ℕ) (g : ℕ) (H : List ℕ → Type 0) (image : List ℕ) : Type 0 where
  pub long : IsAsLongAs seen image
  pub generation : IsNoLaterThan g image
  pub holds : H image

-- It holds what was kept, or what any group leaves of it whose record was added.
pub record HoldsAdded (IsAdded : List Recorded → Type 0) (d : PlainDurable) (image : List ℕ) : Type 0 where
  pub either : (xs : List Recorded) → IsAdded xs → FollowInTurn d xs → HoldsEither d (left_by_all d xs) image

-- An image while changes are saved: it holds what was kept before or what is kept after them, and leaves room if the read before did.
pub record IsOfSave (seen : List ℕ) (g : ℕ) (before after : PlainDurable) (image : List ℕ) : Type 0 where
  pub by : HoldsBy seen g (HoldsEither before after) image
  pub roomy : LeavesRoom seen → LeavesRoom image

-- The record of an opening has room after the others in the bank that counts.
abbrev pub HasRoomHere : (seen : List ℕ) (d : PlainDurable) → Holds seen d → Type 0
HasRoomHere seen d held = gate_of seen d held + OPENING_RECORD ≤ held.bank.at + bank_size (length seen)

-- The image holds what the opened device held, its epoch perhaps one greater, by the generation from before or the next one, and leaves
-- room if that did.
pub record FollowsOn (seen image : List ℕ) : Type 0 where
  pub kept : PlainDurable
  pub held : Holds seen kept
  pub holds : HoldsEither kept (raised kept) image
  pub generation : IsNoLaterThan (generation_of seen kept held + 1) image
  pub roomy : LeavesRoom seen → LeavesRoom image

-- an image from the opening's start, or one that holds what was read
abbrev pub IsOfOpening : List ℕ → (ℕ → Bool) → List ℕ → Type 0
IsOfOpening seen unsynced image = IsImage seen unsynced image ⊎ FollowsOn seen image

-- The record of an opening has room neither after the others nor in a bank after a snapshot of what is held: it takes 12 bytes with the
-- gate after it.
pub record IsFull (seen : List ℕ) (d : PlainDurable) : Type 0 where
  pub held : Holds seen d
  pub early : generation_of seen d held < 2 ^ 63
  pub low : d.epoch < last_epoch
  pub here : held.bank.at + bank_size (length seen) < gate_of seen d held + OPENING_RECORD
  pub there : bank_size (length seen) < BANK_HEADER + snapshot_length d + OPENING_RECORD

-- What is true of the bytes that a device reads as, if it isn't opened. `Fault` may take the place of each error but `BadSize`, and
-- `Memory` that of each error in what comes after the header.
abbrev pub IsUnopened : OpenFault → List ℕ → Type 0
IsUnopened BadSize seen = IsRefused looking.BadSize seen
IsUnopened NoBank seen = IsRefused looking.NoBank seen
IsUnopened (Corrupt at) seen = IsRefused (looking.Corrupt at) seen ⊎ BreaksAfterHeader seen at
IsUnopened Memory seen = IsRefused looking.Memory seen
IsUnopened Fault seen = IsRefused looking.Fault seen
IsUnopened EpochsExhausted seen = (d : PlainDurable) × (held : Holds seen d) × (generation_of seen d held < 2 ^ 63) × (d.epoch ≡ last_epoch)
IsUnopened Full seen = (d : PlainDurable) × IsFull seen d
IsUnopened Places seen = ⊥

-- What an opening that is refused or cut short leaves: an image from its start held `before`, and it is an event that leaves `d` of that.
pub record LeavesRefused (seen : List ℕ) (unsynced : ℕ → Bool) (d : PlainDurable) : Type 0 where
  pub image : List ℕ
  pub start : IsImage seen unsynced image
  pub before : PlainDurable
  pub held : Holds image before
  pub rose : Bool
  pub legal : IsLegal (down before) (refused_opening rose)
  pub leaves : next (down before) (refused_opening rose) ≡ down d
