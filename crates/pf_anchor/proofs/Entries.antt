-- Entries of a map, and what is found at their paths.
use Rattle.std.proofs.{Common.{◌≡◌, ℕ, T, inl, inr, Bool, true, false, cond, List, [], ◌∷◌, Option, Some, None, refl, sym, ap, subst, ◌∙◌}, lemmas.Cmp.{eq_by_cmp_equiv, nat_list_cmp_total}}
use Rattle.std.specs.{Prelude.filter, FinMap.{find, is_sorted}}
use Rattle.pf_addr.specs.Path.Paths.{path_order, same_path}
use Rattle.pf_addr.proofs.PathsRead.{same_path_is}
use Rattle.pf_rule.specs.Rules.{PlainRule}
use Rattle.pf_anchor.specs.{Rulesets.{PlainPlaced, ruled, rules_in, rules_at}, Laws.Evaluation.IsIn}
use Rattle.pf_anchor.proofs.Turns.{alone, one_there}

pub found_is_in : (p : List ℕ) (c : List PlainPlaced) (rs : List PlainRule) → find path_order p c ≡ Some rs → IsIn (ruled p rs) c
found_is_in p [] rs h = absurd (cc (h))
found_is_in p (e ∷ c) rs h = by (same_path p e.0) refl h (found_is_in p c rs) where
  by : (b : Bool) → same_path p e.0 ≡ b → cond b (Some e.1) (find path_order p c) ≡ Some rs → (find path_order p c ≡ Some rs → IsIn (ruled p rs) c) → IsIn (ruled p rs) (e ∷ c)
  by true is there rest = let rules : e.1 ≡ rs = cc in inl (ap (λ (q : List ℕ). ruled q e.1) (sym (same_path_is p e.0 is)) ∙ ap (λ (x : List PlainRule). ruled p x) rules)
  by false is there rest = inr (rest there)

kept_is_in : (test : PlainPlaced → Bool) (t : PlainPlaced) (c : List PlainPlaced) → IsIn t c → test t ≡ true → IsIn t (filter test c)
kept_is_in test t [] i is = absurd i
kept_is_in test t (e ∷ c) (inl here) is = rw (here, is) (inl refl)
kept_is_in test t (e ∷ c) (inr there) is = by (test e) (kept_is_in test t c there is) where
  by : (b : Bool) → IsIn t (filter test c) → IsIn t (cond b (e ∷ filter test c) (filter test c))
  by true rest = inr rest
  by false rest = rest

alone_is : (t : PlainPlaced) (p : List ℕ) (v : Option (List PlainRule)) → IsIn t (alone p v) → t ≡ ruled p (rules_in v)
alone_is t p None i = absurd i
alone_is t p (Some rs) (inl here) = sym here
alone_is t p (Some rs) (inr i) = absurd i

-- each entry is what is found at its path
pub entry_is : (c : List PlainPlaced) (t : PlainPlaced) → T (is_sorted path_order c) → IsIn t c → t ≡ ruled t.0 (rules_at t.0 c)
entry_is c t sorted i =
    alone_is t t.0 (find path_order t.0 c) (subst (λ (es : List PlainPlaced). IsIn t es) (one_there c t.0 sorted) (kept_is_in (λ e. same_path t.0 e.0) t c i ((eq_by_cmp_equiv nat_list_cmp_total).refl t.0)))
