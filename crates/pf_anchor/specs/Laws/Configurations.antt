-- What follows from the definitions of maps; the contracts of law functions say that it holds.
use Rattle.std.specs.{Prelude.{◌≡◌, ℕ, ◌==◌, ◌&&◌, T, Bool, not, List, [], length, fold, map}, List.list_any, FinMap.is_sorted}
use Rattle.pf_rule.specs.Rules.{PlainRule}
use Rattle.pf_map.specs.ListMaps.{list_by}
use Rattle.pf_addr.specs.{Path.Paths.{path_order, same_path}, Path.Nested.is_child}
use Rattle.pf_anchor.specs.Rulesets.{PlainPlaced, ruled, rules_at, with_rules, children, IsMap}

-- ---- the map of rulesets

-- the rules at a path after these were replaced in turn: those of the last one that has this path, else the old ones
abbrev pub rules_by : List PlainPlaced → List ℕ → List PlainRule → List PlainRule
rules_by items q old = list_by path_order items q old

-- a commit gives each path its rules
abbrev pub ReplacesInTurn : Type 0
ReplacesInTurn = (items es : List PlainPlaced) (q : List ℕ) → rules_at q (fold with_rules es items) ≡ rules_by items q (rules_at q es)

-- and it leaves a map
abbrev pub StaysMap : Type 0
StaysMap = (items es : List PlainPlaced) → IsMap es → IsMap (fold with_rules es items)

-- two maps that have the same rules at each path are equal
abbrev pub OneMap : Type 0
OneMap = (a b : List PlainPlaced) → IsMap a → IsMap b → ((q : List ℕ) → rules_at q a ≡ rules_at q b) → a ≡ b

-- ---- children

-- paths in order, none of them twice
abbrev pub in_order : List (List ℕ) → Bool
in_order paths = is_sorted path_order (map (λ q. ruled q []) paths)

-- the children of a path, in order: the paths of one component more that have rules
pub record AreChildren (c : List PlainPlaced) (p : List ℕ) (paths : List (List ℕ)) : Type 0 where
  pub ordered : T (in_order paths)
  pub each : (q : List ℕ) → list_any (same_path q) paths ≡ (is_child p q && not (length (rules_at q c) == 0))

abbrev pub ChildrenHaveRules : Type 0
ChildrenHaveRules = (c : List PlainPlaced) (p : List ℕ) → IsMap c → AreChildren c p (children c p)
