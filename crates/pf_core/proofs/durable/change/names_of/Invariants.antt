use Rattle.std.proofs.Common.{◌≡◌, take}
use Rattle.std.specs.Prelude.{map}
use Rattle.pf_core.specs.Durable.Changes.{name_of}
use Rattle.pf_core.proofs.durable.change.names_of.Given as goal

abbrev pub invariant-loop-item : goal.invariant-loop-item
invariant-loop-item l = l.names.items ≡ map name_of (take l.item-index l.items)
