-- What a file's record notes.
use Rattle.std.specs.Prelude.{ℕ, List, [], ◌∷◌}
use Rattle.pf_disk.specs.Calls.{Event, writing, syncing}

-- a write from the place on, or a sync where there is none
abbrev pub noted : List ℕ → List ℕ → Event
noted [] bytes = syncing
noted (place ∷ places) bytes = writing place bytes
