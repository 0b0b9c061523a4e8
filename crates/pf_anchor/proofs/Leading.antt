-- What a rule leads to: the rulesets at the children of its path, or the one at it, or none.
use Rattle.std.proofs.{Common.{◌≡◌, ◌==◌, ◌≢◌, ℕ, inl, inr, true, false, cond, List, [], ◌∷◌, length, Option, Some, None, Bool, refl, sym, ap, ◌∙◌, arith}, lemmas.Bool.Decides.nat_tests}
use Rattle.std.specs.{Prelude.{filter, map}, FinMap.find}
use Rattle.pf_addr.specs.{Path.Paths.path_order, Path.Nested.{path_within, is_child}, Path.References.PlainReference}
use Rattle.pf_rule.specs.Rules.{PlainRule}
use Rattle.pf_anchor.specs.{Rulesets.{PlainPlaced, ruled, rules_in, rules_at, children, targets, IsMap}, Laws.Evaluation.{IsIn, InTurn, rulesets_at, LeadsToTheseAlone}}
use Rattle.pf_anchor.proofs.{Evaluations.and_then_none, Entries.entry_is, RulesetMaps.paths_kept, Turns.{alone, one_there, no_targets, targets_from, turns_append}}

-- some entries of a map, each as it is found there
found_again : (c : List PlainPlaced) (test : List ℕ → Bool) (es : List PlainPlaced) → ((e : PlainPlaced) → IsIn e es → e ≡ ruled e.0 (rules_at e.0 c)) →
    filter (λ e. test e.0) es ≡ rulesets_at c (map (λ e. e.0) (filter (λ e. test e.0) es))
found_again c test [] h = refl
found_again c test (e ∷ es) h = by (test e.0) (h e (inl refl)) (found_again c test es (λ x i. h x (inr i))) where
  by : (b : Bool) → e ≡ ruled e.0 (rules_at e.0 c) → filter (λ x. test x.0) es ≡ rulesets_at c (map (λ x. x.0) (filter (λ x. test x.0) es)) →
      cond b (e ∷ filter (λ x. test x.0) es) (filter (λ x. test x.0) es) ≡ rulesets_at c (map (λ x. x.0) (cond b (e ∷ filter (λ x. test x.0) es) (filter (λ x. test x.0) es)))
  by true here rest = ap (λ (x : PlainPlaced). x ∷ filter (λ y. test y.0) es) here ∙ ap (λ (xs : List PlainPlaced). ruled e.0 (rules_at e.0 c) ∷ xs) rest
  by false here rest = rest

leads_to_children : (c : List PlainPlaced) (p : List ℕ) (s : PlainReference) → IsMap c → (base : List ℕ) → path_within p s.names ≡ Some base → s.wildcard ≡ true → targets c p s ≡ rulesets_at c (children c base)
leads_to_children c p s is base at wildcard =
    targets_from c p s base true at wildcard
    ∙ found_again c (is_child base) c (λ e i. entry_is c e is.sorted i)
    ∙ ap (rulesets_at c) (sym (paths_kept (is_child base) c))

alone_or_none : (p : List ℕ) (v : Option (List PlainRule)) → v ≢ Some [] → alone p v ≡ cond (length (rules_in v) == 0) [] (ruled p (rules_in v) ∷ [])
alone_or_none p None some = refl
alone_or_none p (Some []) some = absurd (some refl)
alone_or_none p (Some (r ∷ rs)) some = let filled : (length (r ∷ rs) == 0) ≡ false = grind (arith, nat_tests) in sym (ap (λ (b : Bool). cond b [] (ruled p (r ∷ rs) ∷ [])) filled)

leads_to_one : (c : List PlainPlaced) (p : List ℕ) (s : PlainReference) → IsMap c → (base : List ℕ) → path_within p s.names ≡ Some base → s.wildcard ≡ false → targets c p s ≡ cond (length (rules_at base c) == 0) [] (rulesets_at c (base ∷ []))
leads_to_one c p s is base at plain = targets_from c p s base false at plain ∙ one_there c base is.sorted ∙ alone_or_none base (find path_order base c) (is.filled base)

pub leads_to_these_alone : LeadsToTheseAlone
leads_to_these_alone c p s is = record { by_wildcard = leads_to_children c p s is; one = leads_to_one c p s is; none = no_targets c p s }

pub taken_in_turn : InTurn
taken_in_turn f = record { none = refl; one = λ e. and_then_none (f e); more = turns_append f }
