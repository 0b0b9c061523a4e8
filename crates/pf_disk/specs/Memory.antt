-- What a `MemDisk` shows.
use Rattle.std.specs.Prelude.{ℕ, Bool, List, map}
use Rattle.pf_disk.specs.declared.memory.MemDisk.{MemDisk}
use Rattle.pf_disk.specs.{Calls.{Event, at_rest, after}, Kept.event_of}

-- the bytes at first, all of them synced
abbrev pub first_of : MemDisk → List ℕ
first_of m = m.first.items

-- its calls so far, the first of them first
abbrev pub events_of : MemDisk → List Event
events_of m = map event_of m.calls.items

-- what a read gives
abbrev pub seen_of : MemDisk → List ℕ
seen_of m = m.bytes.items

abbrev pub unsynced_of : MemDisk → ℕ → Bool
unsynced_of m = (after (at_rest (first_of m)) (events_of m)).unsynced
