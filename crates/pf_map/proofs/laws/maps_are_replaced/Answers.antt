use Rattle.std.specs.FinMap.Entries.{same_entries}
use Rattle.pf_map.proofs.Maps.{replaces_the_key, stays_sorted, stays_map}
use Rattle.pf_map.proofs.laws.maps_are_replaced.Goals as goal

pub returns-clause-key : goal.returns-clause-key
returns-clause-key g c = replaces_the_key _ g.met.K.Key.total

pub returns-clause-sorted : goal.returns-clause-sorted
returns-clause-sorted g c = stays_sorted _ g.met.K.Key.total

pub returns-clause-one : goal.returns-clause-one
returns-clause-one g c = same_entries _ g.met.K.Key.total g.met.K.Key.alike

pub returns-clause-map : goal.returns-clause-map
returns-clause-map g c = stays_map g.met.K.Key.total g.V.Content.kept g.met.V.Content.keeps
