-- The map of rulesets: what a commit leaves of it.
use Rattle.std.proofs.{Common.{◌≡◌, ◌≢◌, ◌==◌, ◌&&◌, not, T, ℕ, Bool, true, false, cond, List, [], ◌∷◌, length, refl, sym, ap, subst, ◌∙◌, Option, Some, None, arith}, lemmas.Bool.Decides.nat_tests, lemmas.Map.Views.any-filter_same, lemmas.Cmp.nat_list_cmp_total}
use Rattle.std.specs.{Prelude.{map, filter, is_some}, FinMap.{find, is_sorted, slice_cmp-IsAntisymmetric, nat_cmp-IsAntisymmetric}, FinMap.Entries.{below_all, is_some-find, is_sorted-where_key}, Option.{option_map, MatchOption}}
use Rattle.pf_addr.proofs.PathsRead.{same_path_is}
use Rattle.pf_addr.specs.{Path.Nested.is_child, Path.Paths.{path_order, same_path}}
use Rattle.pf_rule.specs.Rules.{PlainRule}
use Rattle.pf_anchor.specs.{Laws.Configurations.{ReplacesInTurn, StaysMap, OneMap, in_order, ChildrenHaveRules}, Rulesets.{PlainPlaced, ruled, rules_in}}
use Rattle.pf_map.proofs.ListMaps.{lists_replaced, list_maps_stay, one_list_map}
use Rattle.pf_map.proofs.Tests.{first_of, second_of, both_of}

-- ---- replaced

pub map_all : StaysMap
map_all items es is = list_maps_stay PlainRule nat_list_cmp_total items es is

pub replaced_in_turn : ReplacesInTurn
replaced_in_turn items es q = lists_replaced PlainRule nat_list_cmp_total items es q

pub one_map : OneMap
one_map a b left right read = one_list_map PlainRule nat_list_cmp_total (slice_cmp-IsAntisymmetric nat_cmp-IsAntisymmetric) a b left right read

-- ---- what is found

-- the entry that is found at a path is the ruleset there
pub ruleset_found : {B : Type 0} (now : B → PlainPlaced) (found : Option B) (p : List ℕ) (v : Option (List PlainRule)) → option_map now found ≡ option_map (λ rs. (p, rs)) v → MatchOption found (rules_in v ≡ []) (λ b. now b ≡ ruled p (rules_in v))
ruleset_found now None p None h = refl
ruleset_found now None p (Some rs) h = absurd (cc (h))
ruleset_found now (Some b) p None h = absurd (cc (h))
ruleset_found now (Some b) p (Some rs) h = cc (h)

-- ---- children

pub paths_kept : (test : List ℕ → Bool) (c : List PlainPlaced) → filter test (map (λ (e : PlainPlaced). e.0) c) ≡ map (λ (e : PlainPlaced). e.0) (filter (λ e. test e.0) c)
paths_kept test [] = refl
paths_kept test (e ∷ c) = by (test e.0) (paths_kept test c) where
  by : (b : Bool) → filter test (map (λ (x : PlainPlaced). x.0) c) ≡ map (λ (x : PlainPlaced). x.0) (filter (λ x. test x.0) c) →
      cond b (e.0 ∷ filter test (map (λ (x : PlainPlaced). x.0) c)) (filter test (map (λ (x : PlainPlaced). x.0) c)) ≡ map (λ (x : PlainPlaced). x.0) (cond b (e ∷ filter (λ x. test x.0) c) (filter (λ x. test x.0) c))
  by true rest = ap (λ (paths : List (List ℕ)). e.0 ∷ paths) rest
  by false rest = rest

-- the paths of a map are in its order
below_keys : (k : List ℕ) (es : List PlainPlaced) → T (below_all path_order k es) → T (below_all path_order k (map (λ q. ruled q []) (map (λ (e : PlainPlaced). e.0) es)))
below_keys k [] h = h
below_keys k (e ∷ es) h = both_of _ _ (first_of _ _ h) (below_keys k es (second_of _ _ h))

keys_sorted : (es : List PlainPlaced) → T (is_sorted path_order es) → T (in_order (map (λ (e : PlainPlaced). e.0) es))
keys_sorted [] h = h
keys_sorted (e ∷ es) h = both_of _ _ (below_keys e.0 es (first_of _ _ h)) (keys_sorted es (second_of _ _ h))

has_rules : (v : Option (List PlainRule)) → v ≢ Some [] → is_some v ≡ not (length (rules_in v) == 0)
has_rules None some = refl
has_rules (Some []) some = absurd (some refl)
has_rules (Some (r ∷ rs)) some = let filled : (length (r ∷ rs) == 0) ≡ false = grind (arith, nat_tests) in sym (ap not filled)

pub children_have_rules : ChildrenHaveRules
children_have_rules c p is = record {
  ordered = subst (λ (paths : List (List ℕ)). T (in_order paths)) (sym (paths_kept (is_child p) c)) (keys_sorted (filter (λ e. is_child p e.0) c) (is_sorted-where_key path_order (is_child p) c is.sorted));
  each = λ q.
      any-filter_same (same_path q) (is_child p) (is_child p q) (λ k same. ap (is_child p) (sym (same_path_is q k same))) (map (λ (e : PlainPlaced). e.0) c)
      ∙ ap (λ (b : Bool). is_child p q && b) (sym (is_some-find path_order q c) ∙ has_rules (find path_order q c) (is.filled q));
}
