-- A `MemDisk` after one call more.
use Rattle.std.proofs.Common.{◌≡◌, true, List, [], ◌∷◌, ◌++◌, length}
use Rattle.pf_disk.specs.declared.memory.MemDisk.{MemDisk}
use Rattle.pf_disk.specs.{Calls.{Event, at_rest, after_event, fits_in}, Memory.{first_of, events_of, seen_of}}
use Rattle.pf_disk.proofs.Calls.{Keeps, GoesOn, goes}

pub keeps : (m : MemDisk) → Keeps (first_of m) (seen_of m) (length (first_of m)) (events_of m)
keeps m = record { seen = m.seen_is; same_size = m.size_is; fit = m.calls_fit }

-- a call that writes nothing
pub quiet : (m : MemDisk) (new : List Event) (event : Event) → fits_in (length (first_of m)) event ≡ true → seen_of m ≡ (after_event (at_rest (seen_of m)) event).seen
    → new ≡ events_of m ++ event ∷ [] → GoesOn (first_of m) (seen_of m) (seen_of m) (length (first_of m)) (events_of m) new event
quiet m new event fits unmoved is = goes (first_of m) (seen_of m) (seen_of m) (length (first_of m)) (events_of m) new event (keeps m) fits is unmoved
