-- Pages of rows that may be shared.
use Rattle.std.specs.{Prelude.{List, [], Option, Some, None}, Arc.arc_value, declared.{sync.Arc.Arc}}

-- the items of a list that may be shared, or none
abbrev pub shared_items : {X Z : Type 0} → Option (Arc (List X) Z) → List X
shared_items None = []
shared_items (Some list) = arc_value list
