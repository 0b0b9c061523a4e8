-- What a `FileDisk` shows.
use Rattle.std.specs.Prelude.{ℕ, Bool, List, replicate}
use Rattle.pf_disk.specs.declared.file.FileDisk.{FileDisk}
use Rattle.pf_disk.specs.Calls.{Event, at_rest, after}

-- what a read gives
abbrev pub seen_of : FileDisk → List ℕ
seen_of f = f.bytes.items

-- what was noted, the first of it first
abbrev pub events_of : FileDisk → List Event
events_of f = f.history.events

abbrev pub unsynced_of : FileDisk → ℕ → Bool
unsynced_of f = (after (at_rest (replicate f.size 0)) f.history.events).unsynced
