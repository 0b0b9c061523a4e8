-- What a device's image holds: what was kept first, and what changes have made of it since.
use Rattle.std.specs.Prelude.{◌≡◌, ◌⊎◌, ◌≤◌, ℕ, ◌+◌, true, List, [], ◌∷◌, fold, Ok}
use Rattle.pf_snap.specs.{Banks.Content, declared.header.TheConstants.{BANK_HEADER}}
use Rattle.pf_snap.specs.Banks as snap
use Rattle.pf_core.specs.Durable.{Changes.{PlainDurable, PlainChange, in_epoch, applied, fits}}
use Rattle.pf_store.specs.{Durables.IsDurable, Groups.{IsRecorded, have_form, made_all}, Lengths.{snapshot_length, payload_length}, declared.encoding.recorded.Recorded.Recorded}
use Rattle.pf_store.specs.declared.encoding.recorded.Recorded.TheVariants as recorded
use Rattle.pf_store.specs.declared.limits.TheConstants.{AROUND, ROOM_KEPT, ROOM_TO_OPEN}

-- ---- what is held

-- It may come next: a change fits what is kept, and an opening has the next epoch.
abbrev pub Follows : PlainDurable → Recorded → Type 0
Follows d (recorded.Made e) = fits d e ≡ Ok tt
Follows d (recorded.Opens epoch) = epoch ≡ d.epoch + 1

-- what it leaves
abbrev pub left_by : PlainDurable → Recorded → PlainDurable
left_by d (recorded.Made e) = applied d e
left_by d (recorded.Opens epoch) = in_epoch epoch d

-- Each of a group may come next after those before it.
abbrev pub FollowInTurn : PlainDurable → List Recorded → Type 0
FollowInTurn d [] = Unit {0}
FollowInTurn d (r ∷ rs) = Follows d r × FollowInTurn (left_by d r) rs

-- what they leave
abbrev pub left_by_all : PlainDurable → List Recorded → PlainDurable
left_by_all d rs = fold left_by d rs

-- The payloads are those of groups, in this version; each group follows what those before it leave, and all of them leave `e`.
abbrev pub Leads : (version : ℕ) → PlainDurable → List (List ℕ) → PlainDurable → Type 0
Leads version d [] e = d ≡ e
Leads version d (p ∷ ps) e = (xs : List Recorded) × IsRecorded version xs p × FollowInTurn d xs × Leads version (left_by_all d xs) ps e

-- The snapshot is of what was kept first, and the payloads lead from there to `d`, both in the bank's version.
pub record Makes (content : Content) (d : PlainDurable) : Type 0 where
  pub first : PlainDurable
  pub kept : IsDurable content.version first content.snapshot
  pub leads : Leads content.version first content.payloads d

-- The image holds what is kept, in the bank that counts.
pub record Holds (image : List ℕ) (d : PlainDurable) : Type 0 where
  pub content : Content
  pub bank : snap.Holds image content
  pub makes : Makes content d

-- one of the two
abbrev pub HoldsEither : PlainDurable → PlainDurable → List ℕ → Type 0
HoldsEither before next image = Holds image before ⊎ Holds image next

-- ---- room

-- A bank of `size` bytes has 56 left after a snapshot of what is kept, in the version that is written: enough for openings' records. A
-- version without expiries has snapshots of eight bytes less: where a save of its time left 64 after one, these 56 are left.
abbrev pub IsRoomy : (size : ℕ) → PlainDurable → Type 0
IsRoomy size d = BANK_HEADER + snapshot_length d + ROOM_KEPT ≤ size

-- It has 64 left, as each save leaves it.
abbrev pub HasSpare : (size : ℕ) → PlainDurable → Type 0
HasSpare size d = BANK_HEADER + snapshot_length d + ROOM_TO_OPEN ≤ size

-- A payload of n bytes finds room in banks of `size` bytes: one has 64 bytes left after a snapshot of what is kept then, and room for the
-- payload's record after one of what is kept before.
pub record HasRoom (size : ℕ) (before next : PlainDurable) (n : ℕ) : Type 0 where
  pub then : HasSpare size next
  pub room_left : BANK_HEADER + snapshot_length before + (n + AROUND) ≤ size

-- changes have a payload, and it finds room
pub record FindsRoom (size : ℕ) (before next : PlainDurable) (es : List PlainChange) : Type 0 where
  pub formed : have_form (made_all es) ≡ true
  pub room : HasRoom size before next (payload_length (made_all es))
