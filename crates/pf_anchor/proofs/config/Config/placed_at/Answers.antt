use Rattle.std.proofs.Common.{◌≡◌, subst}
use Rattle.std.specs.{Option.option_map, FinMap.find}
use Rattle.pf_addr.specs.Path.Paths.{path_order}
use Rattle.pf_map.specs.Maps.{entry_at}
use Rattle.pf_map.proofs.ListMaps.{list_map_is}
use Rattle.pf_anchor.specs.{Rulesets.IsMap, Configurations.PlainConfig}
use Rattle.pf_anchor.proofs.RulesetMaps.{ruleset_found}
use Rattle.pf_anchor.proofs.config.Config.placed_at.Goals as goal

pub returns-clause-rules : goal.returns-clause-rules
returns-clause-rules g c =
    let path = g.Q.Sought.key c.args.path.now in
    ruleset_found (λ e. e.now) c.get.result path (find path_order path c.args.self.now.rulesets)
    (subst (λ (x : PlainConfig). option_map (λ e. e.now) c.get.result ≡ entry_at path_order path x.rulesets) c.self.view_is c.get.ensures.entry)

pub returns-clause-map : goal.returns-clause-map
returns-clause-map g c = subst (λ (x : PlainConfig). IsMap x.rulesets) c.self.view_is (list_map_is c.self.inside.rulesets c.get.ensures.map)
