use Rattle.std.proofs.Common.{subst}
use Rattle.pf_map.proofs.ListMaps.{list_map_is}
use Rattle.pf_anchor.specs.{Tables.IsTableMap, Configurations.PlainConfig}
use Rattle.pf_anchor.proofs.config.Config.table_at.Goals as goal

pub returns-in-Some-clause-map : goal.returns-in-Some-clause-map
returns-in-Some-clause-map c = subst (λ (x : PlainConfig). IsTableMap x.tables) c.self.view_is (list_map_is c.self.inside.tables c.get.ensures.map)

pub returns-in-None-clause-map : goal.returns-in-None-clause-map
returns-in-None-clause-map c = subst (λ (x : PlainConfig). IsTableMap x.tables) c.self.view_is (list_map_is c.self.inside.tables c.get.ensures.map)
