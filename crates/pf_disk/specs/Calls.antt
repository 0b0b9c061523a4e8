-- The calls of a device that keeps them, what they make of it, and what a crash during one of them may leave.
use Rattle.std.specs.{Prelude.{◌≡◌, ℕ, zero, suc, ◌+◌, ◌<◌, Bool, true, false, ◌&&◌, nat_le, if◌then◌else◌, List, [], ◌∷◌, length, take, refl}, Coded.{Coded, code_by, coded×, coded_ℕ, coded_list}}
use Rattle.pf_disk.specs.Disk.{IsImage, with_range, overwritten}

-- a call: a read, a write of these bytes from a place on, a sync
pub data Event : Type 0 where
  reading : Event
  writing : ℕ → List ℕ → Event
  syncing : Event

pub record State : Type 0 where
  pub seen : List ℕ
  -- as of the last sync
  pub kept : List ℕ
  pub unsynced : ℕ → Bool

-- these bytes, all of them synced
abbrev pub at_rest : List ℕ → State
at_rest bytes = record { seen = bytes; kept = bytes; unsynced = λ _. false }

abbrev pub after_event : State → Event → State
after_event s reading = s
after_event s (writing at bytes) =
    record { seen = overwritten s.seen at bytes; kept = s.kept; unsynced = with_range at (length bytes) s.unsynced }
after_event s syncing = record { seen = s.seen; kept = s.seen; unsynced = λ _. false }

abbrev pub after : State → List Event → State
after s [] = s
after s (event ∷ events) = after (after_event s event) events

abbrev pub is_sync : Event → Bool
is_sync reading = false
is_sync (writing at bytes) = false
is_sync syncing = true

-- call number k + 1 is a sync
abbrev pub is_sync_at : List Event → ℕ → Bool
is_sync_at [] k = false
is_sync_at (event ∷ events) zero = is_sync event
is_sync_at (event ∷ events) (suc k) = is_sync_at events k

-- How many calls count during call number m: a write from its own start on, a sync at its end.
abbrev pub counting : List Event → ℕ → ℕ
counting events zero = zero
counting events (suc k) = if is_sync_at events k then k else suc k

-- the state during call number m, before the first for 0, after the last for a greater number
abbrev pub state_at : List ℕ → List Event → ℕ → State
state_at first events m = after (at_rest first) (take (counting events m) events)

-- an image of a crash during call number m
abbrev pub IsImageAt : List ℕ → List Event → ℕ → List ℕ → Type 0
IsImageAt first events m c = let s = state_at first events m in IsImage s.seen s.unsynced c

-- a crash at a moment after call number t
abbrev pub LeftSince : List ℕ → List Event → ℕ → List ℕ → Type 0
LeftSince first events t c = (m : ℕ) × (t < m) × IsImageAt first events m c

-- each write lies within the device
abbrev pub fits_in : ℕ → Event → Bool
fits_in size reading = true
fits_in size (writing at bytes) = nat_le (at + length bytes) size
fits_in size syncing = true

abbrev pub all_fit : ℕ → List Event → Bool
all_fit size [] = true
all_fit size (event ∷ events) = fits_in size event && all_fit size events

-- ---- how the logic stores calls

abbrev event_to_numbers : Event → ℕ × (ℕ × List ℕ)
event_to_numbers reading = (0, (0, []))
event_to_numbers (writing at bytes) = (1, (at, bytes))
event_to_numbers syncing = (2, (0, []))

abbrev event_from_numbers : ℕ × (ℕ × List ℕ) → Event
event_from_numbers (zero, rest) = reading
event_from_numbers (suc zero, rest) = writing rest.0 rest.1
event_from_numbers (suc (suc n), rest) = syncing

pub event_from_numbers-event_to_numbers : (event : Event) → event_from_numbers (event_to_numbers event) ≡ event
event_from_numbers-event_to_numbers reading = refl
event_from_numbers-event_to_numbers (writing at bytes) = refl
event_from_numbers-event_to_numbers syncing = refl

abbrev pub events_code : Coded (List Event)
events_code = coded_list (code_by (ℕ × (ℕ × List ℕ)) (coded× coded_ℕ (coded× coded_ℕ (coded_list coded_ℕ)))
    event_to_numbers event_from_numbers event_from_numbers-event_to_numbers)
