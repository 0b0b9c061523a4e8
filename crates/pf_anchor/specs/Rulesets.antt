-- Rulesets at paths (pf.conf(5), ANCHORS): a finite map. That an empty ruleset doesn't exist is this project's own.
use Rattle.std.specs.{Prelude.{ℕ, Bool, false, cond, List, Option, map, filter}, Option.option_map_or}
use Rattle.pf_addr.specs.{Path.Paths.{path_order, same_path}, Path.Nested.{path_within, is_child}, Path.References.PlainReference}
use Rattle.pf_rule.specs.Rules.{PlainRule}
use Rattle.pf_map.specs.ListMaps.{list_in, list_at, with_list, IsListMap}

-- a path and the rules there
abbrev pub PlainPlaced : Type 0
PlainPlaced = List ℕ × List PlainRule

abbrev pub ruled : List ℕ → List PlainRule → PlainPlaced
ruled p rs = (p, rs)

-- the map with the rules at one path replaced; an empty ruleset has no entry
abbrev pub with_rules : List PlainPlaced → PlainPlaced → List PlainPlaced
with_rules es e = with_list path_order es e

abbrev pub rules_in : Option (List PlainRule) → List PlainRule
rules_in v = list_in v

-- the rules at a path, none if it has no entry
abbrev pub rules_at : List ℕ → List PlainPlaced → List PlainRule
rules_at p es = list_at path_order p es

-- entries in the order of their paths, none of them twice; each is then what is found at its path, and so has rules
abbrev pub IsMap : List PlainPlaced → Type 0
IsMap es = IsListMap path_order es

-- ---- rulesets that others lead to

-- the children of a path: the paths of one component more that have rules, in order
abbrev pub children : List PlainPlaced → List ℕ → List (List ℕ)
children c p = filter (is_child p) (map (λ e. e.0) c)

-- to the ruleset at a path, or by a wildcard to its children
abbrev pub leads_from : List ℕ → Bool → List ℕ → Bool
leads_from base wildcard q = cond wildcard (is_child base q) (same_path base q)

-- whether a rule of the ruleset at p leads to q by a reference, which is relative to p; past the limits it leads nowhere
abbrev pub leads_to : List ℕ → PlainReference → List ℕ → Bool
leads_to p r q = option_map_or (λ base. leads_from base r.wildcard q) (path_within p r.names) false

-- the rulesets that it leads to, in order
abbrev pub targets : List PlainPlaced → List ℕ → PlainReference → List PlainPlaced
targets c p r = filter (λ e. leads_to p r e.0) c
