-- Changes that have several owners.
use Rattle.std.specs.{Prelude.{List, map}, Arc.arc_value, declared.{sync.Arc.Arc, alloc.Global.Global}}
use Rattle.pf_core.specs.Durable.Changes.{PlainChange}

-- the changes themselves, in order
abbrev pub changes_of : List (Arc PlainChange Global) → List PlainChange
changes_of changes = map arc_value changes
