use Rattle.pf_map.proofs.ListMaps.{lists_replaced, list_maps_stay, one_list_map}
use Rattle.pf_map.proofs.laws.lists_are_replaced.Goals as goal

pub returns-clause-lists : goal.returns-clause-lists
returns-clause-lists g c = lists_replaced _ g.met.K.Key.total

pub returns-clause-map : goal.returns-clause-map
returns-clause-map g c = list_maps_stay _ g.met.K.Key.total

pub returns-clause-one : goal.returns-clause-one
returns-clause-one g c = one_list_map _ g.met.K.Key.total
