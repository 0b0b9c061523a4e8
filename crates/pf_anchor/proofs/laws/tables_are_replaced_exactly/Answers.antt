use Rattle.pf_anchor.proofs.TableMaps.{tables_replaced, has_its_entries, other_names_stay, other_paths_stay, table_maps_stay, empty_is_absent, one_table_map, leaves_the_other}
use Rattle.pf_anchor.proofs.laws.tables_are_replaced_exactly.Goals as goal

pub returns : goal.returns
returns c = record { tables = tables_replaced; its = has_its_entries; names = other_names_stay; paths = other_paths_stay; map = table_maps_stay; empty = empty_is_absent; one = one_table_map; other = leaves_the_other }
