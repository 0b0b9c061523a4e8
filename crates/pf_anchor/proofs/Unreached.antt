-- A ruleset that no rule leads to changes nothing.
use Rattle.std.proofs.Common.{◌≡◌, ℕ, zero, suc, ◌+◌, inl, inr, Bool, true, false, not, cond, List, [], ◌∷◌, Option, Some, None, refl, sym, ap, ◌∙◌}
use Rattle.std.specs.{Prelude.filter, declared.{cmp.Ordering.Ordering, cmp.Ordering.TheVariants.Less, cmp.Ordering.TheVariants.Equal, cmp.Ordering.TheVariants.Greater}, FinMap.{find, put, slice_cmp-IsAntisymmetric, nat_cmp-IsAntisymmetric}, FinMap.Entries.by_order}
use Rattle.pf_addr.specs.{Path.Paths.{main, path_order, same_path}, Path.References.PlainReference}
use Rattle.pf_addr.proofs.PathsRead.{same_path_is}
use Rattle.pf_rule.specs.{Rules.PlainRule, declared.{rule.Effect.Effect, rule.Effect.TheVariants.Decide, rule.Effect.TheVariants.Evaluate}}
use Rattle.pf_anchor.specs.{declared.{evaluated.Evaluated.Evaluated, evaluated.Evaluated.TheVariants.Open}, Matches.PlainMatch, Rulesets.{PlainPlaced, ruled, rules_in, rules_at, with_rules, leads_to, targets}, Evaluation.{Tests, in_turn, effected, evaluate_with, levels, evaluation, matching, verdict_by, last_of, rules_at_path}, Laws.Evaluation.{IsIn, rule_numbered, NoneLeadsTo, UnreachedIsNothing}}
use Rattle.pf_map.specs.Maps.{without}
use Rattle.pf_anchor.proofs.{RulesetMaps.replaced_in_turn, Entries.found_is_in}

-- ---- entries of other paths stay

skipped : (P : List ℕ → Bool) (e : PlainPlaced) (es : List PlainPlaced) → P e.0 ≡ false → filter (λ x. P x.0) (e ∷ es) ≡ filter (λ x. P x.0) es
skipped P e es h = ap (λ (b : Bool). cond b (e ∷ filter (λ x. P x.0) es) (filter (λ x. P x.0) es)) h

kept_without : (P : List ℕ → Bool) (c : List PlainPlaced) (k : List ℕ) → P k ≡ false → filter (λ x. P x.0) (without path_order c k) ≡ filter (λ x. P x.0) c
kept_without P [] k h = refl
kept_without P (e ∷ c) k h = by (same_path k e.0) refl (kept_without P c k h) where
  by : (b : Bool) → same_path k e.0 ≡ b → filter (λ x. P x.0) (without path_order c k) ≡ filter (λ x. P x.0) c → filter (λ x. P x.0) (cond (not b) (e ∷ without path_order c k) (without path_order c k)) ≡ filter (λ x. P x.0) (e ∷ c)
  by true is rest = rest ∙ sym (skipped P e c (ap P (sym (same_path_is k e.0 is)) ∙ h))
  by false is rest = ap (λ (es : List PlainPlaced). cond (P e.0) (e ∷ es) es) rest

kept_put : (P : List ℕ → Bool) (k : List ℕ) (v : List PlainRule) (c : List PlainPlaced) → P k ≡ false → filter (λ x. P x.0) (put path_order k v c) ≡ filter (λ x. P x.0) c
kept_put P k v [] h = skipped P (k, v) [] h
kept_put P k v (e ∷ c) h = by (path_order k e.0) refl (kept_put P k v c h) where
  by : (r : Ordering) → path_order k e.0 ≡ r → filter (λ x. P x.0) (put path_order k v c) ≡ filter (λ x. P x.0) c →
      filter (λ x. P x.0) (by_order r ((k, v) ∷ e ∷ c) ((e.0, v) ∷ c) (e ∷ put path_order k v c)) ≡ filter (λ x. P x.0) (e ∷ c)
  by Less is rest = skipped P (k, v) (e ∷ c) h
  by Equal is rest =
      let no = ap P (sym (slice_cmp-IsAntisymmetric nat_cmp-IsAntisymmetric k e.0 is)) ∙ h in
      skipped P (e.0, v) c no ∙ sym (skipped P e c no)
  by Greater is rest = ap (λ (es : List PlainPlaced). cond (P e.0) (e ∷ es) es) rest

kept : (P : List ℕ → Bool) (c : List PlainPlaced) (new : PlainPlaced) → P new.0 ≡ false → filter (λ x. P x.0) (with_rules c new) ≡ filter (λ x. P x.0) c
kept P c new h = by new.1 where
  by : (rs : List PlainRule) → filter (λ x. P x.0) (with_rules c (ruled new.0 rs)) ≡ filter (λ x. P x.0) c
  by [] = kept_without P c new.0 h
  by (r ∷ rs) = kept_put P new.0 (r ∷ rs) (without path_order c new.0) h ∙ kept_without P c new.0 h

-- ---- evaluations that agree on the rulesets that are there

one_agrees : (f g : PlainPlaced → Evaluated PlainMatch) (e : PlainPlaced) (b : Bool) (es : List PlainPlaced) → f e ≡ g e → in_turn f es ≡ in_turn g es → in_turn f (cond b (e ∷ es) es) ≡ in_turn g (cond b (e ∷ es) es)
one_agrees f g e true es h rest = cc
one_agrees f g e false es h rest = rest

targets_agree : (f g : PlainPlaced → Evaluated PlainMatch) (p : List ℕ) (s : PlainReference) (c : List PlainPlaced) → ((t : PlainPlaced) → IsIn t c → f t ≡ g t) → in_turn f (targets c p s) ≡ in_turn g (targets c p s)
targets_agree f g p s [] h = refl
targets_agree f g p s (e ∷ es) h = one_agrees f g e (leads_to p s e.0) (targets es p s) (h e (inl refl)) (targets_agree f g p s es (λ t i. h t (inr i)))

effects_agree : (f g : PlainPlaced → Evaluated PlainMatch) (a b : List PlainPlaced) (p : List ℕ) (n : ℕ) (e : Effect) → ((s : PlainReference) → e ≡ Evaluate s → in_turn f (targets a p s) ≡ in_turn g (targets b p s)) → effected f a p n e ≡ effected g b p n e
effects_agree f g a b p n (Decide x) h = refl
effects_agree f g a b p n (Evaluate s) h = h s refl

rules_agree : (f g : PlainPlaced → Evaluated PlainMatch) (a b : List PlainPlaced) (tests : Tests) (p : List ℕ) (n : ℕ) (rs : List PlainRule) →
    ((j : ℕ) (r : PlainRule) (s : PlainReference) → rule_numbered rs j ≡ Some r → r.effect ≡ Evaluate s → in_turn f (targets a p s) ≡ in_turn g (targets b p s)) → rules_at_path f a tests p n rs ≡ rules_at_path g b tests p n rs
rules_agree f g a b tests p n [] h = refl
rules_agree f g a b tests p n (r ∷ rs) h =
    let here = effects_agree f g a b p n r.effect (λ s e. h zero r s refl e) in
    let rest = rules_agree f g a b tests p (n + 1) rs (λ j q s i e. h (suc j) q s i e) in
    cc

-- no rule of this ruleset leads to the path
abbrev Avoids : List ℕ → PlainPlaced → Type 0
Avoids q e = (n : ℕ) (r : PlainRule) (s : PlainReference) → rule_numbered e.1 n ≡ Some r → r.effect ≡ Evaluate s → leads_to e.0 s q ≡ false

one_level : (c : List PlainPlaced) (new : PlainPlaced) (tests : Tests) (f g : PlainPlaced → Evaluated PlainMatch) (e : PlainPlaced) → Avoids new.0 e → ((t : PlainPlaced) → IsIn t c → f t ≡ g t) →
    evaluate_with f (with_rules c new) tests e ≡ evaluate_with g c tests e
one_level c new tests f g e avoids h =
    rules_agree f g (with_rules c new) c tests e.0 0 e.1 (λ j r s at is. ap (in_turn f) (kept (leads_to e.0 s) c new (avoids j r s at is)) ∙ targets_agree f g e.0 s c h)

levels_agree : (k : ℕ) (c : List PlainPlaced) (new : PlainPlaced) (tests : Tests) (e : PlainPlaced) → NoneLeadsTo new.0 c → Avoids new.0 e → levels k (with_rules c new) tests e ≡ levels k c tests e
unfolding levels
levels_agree zero c new tests e none avoids = one_level c new tests (λ t. Open None) (λ t. Open None) e avoids (λ t i. refl)
levels_agree (suc k) c new tests e none avoids =
    one_level c new tests (levels k (with_rules c new) tests) (levels k c tests) e avoids (λ t i. levels_agree k c new tests t none (λ n r s at is. none t n r s i at is))

evaluations_agree : (c : List PlainPlaced) (new : PlainPlaced) (tests : Tests) (e : PlainPlaced) → NoneLeadsTo new.0 c → Avoids new.0 e → evaluation (with_rules c new) tests e ≡ evaluation c tests e
unfolding evaluation
evaluations_agree c new tests e none avoids = levels_agree _ c new tests e none avoids

-- ---- the main ruleset

main_avoids : (c : List PlainPlaced) (q : List ℕ) → NoneLeadsTo q c → Avoids q (ruled main (rules_at main c))
main_avoids c q none = by (find path_order main c) refl where
  by : (v : Option (List PlainRule)) → find path_order main c ≡ v → Avoids q (ruled main (rules_in v))
  by None is n r s at effect = absurd (cc (at))
  by (Some rs) is n r s at effect = none (ruled main rs) n r s (found_is_in main c rs is) at effect

pub unreached_is_nothing : UnreachedIsNothing
unreached_is_nothing c new packet is none other =
    let rulesets = c.rulesets in
    let tests = matching c.tables packet in
    let same : rules_at main (with_rules rulesets new) ≡ rules_at main rulesets = replaced_in_turn (new ∷ []) rulesets main ∙ ap (λ (b : Bool). cond b new.1 (rules_at main rulesets)) other in
    ap (λ (rs : List PlainRule). verdict_by (last_of (evaluation (with_rules rulesets new) tests (ruled main rs)))) same
    ∙ ap (λ (x : Evaluated PlainMatch). verdict_by (last_of x)) (evaluations_agree rulesets new tests (ruled main (rules_at main rulesets)) none (main_avoids rulesets new.0 none))
