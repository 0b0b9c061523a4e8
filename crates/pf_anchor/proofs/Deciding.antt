-- What is found is a rule that decides, and a verdict says which.
use Rattle.std.proofs.Common.{◌≡◌, ℕ, T, zero, suc, ◌+◌, inl, inr, Bool, true, false, cond, List, [], ◌∷◌, Option, Some, None, refl, sym, ap, ◌∙◌, subst, arith}
use Rattle.std.specs.FinMap.{find, is_sorted}
use Rattle.pf_addr.specs.{Path.Paths.{main, path_order}, Path.References.PlainReference}
use Rattle.pf_rule.specs.{Rules.PlainRule, declared.{rule.Action.Action, rule.Effect.Effect, rule.Effect.TheVariants.Decide, rule.Effect.TheVariants.Evaluate}}
use Rattle.pf_anchor.specs.{declared.{evaluated.Evaluated.Evaluated, evaluated.Evaluated.TheVariants.Open, evaluated.Evaluated.TheVariants.Ended}, Matches.{PlainMatch, found}, Rulesets.{PlainPlaced, ruled, rules_in, rules_at, targets, leads_to}, Evaluation.{Tests, and_then, settled, in_turn, effected, evaluate_with, levels, evaluation, matching, verdict_by, last_of, judged, rules_at_path}, Laws.Evaluation.{IsIn, rule_numbered, IsDecidedBy, Holds, AnchorsNeverDecide, VerdictRuleDecides}}
use Rattle.pf_anchor.specs.declared.verdict.RuleVerdict.TheVariants as by
use Rattle.pf_anchor.proofs.{Evaluations.default_judged, Entries.{found_is_in, entry_is}}

both_hold : (P : PlainMatch → Type 0) (a b : Evaluated PlainMatch) → Holds P a → Holds P b → Holds P (and_then a b)
both_hold P (Ended m) b h k = h
both_hold P (Open l) (Ended m) h k = k
both_hold P (Open l) (Open None) h k = h
both_hold P (Open l) (Open (Some m)) h k = k

settled_holds : (P : PlainMatch → Type 0) (quick : Bool) (a : Evaluated PlainMatch) → Holds P a → Holds P (settled quick a)
settled_holds P quick (Ended m) h = h
settled_holds P quick (Open None) h = h
settled_holds P true (Open (Some m)) h = h
settled_holds P false (Open (Some m)) h = h

one_holds : (P : PlainMatch → Type 0) (f : PlainPlaced → Evaluated PlainMatch) (e : PlainPlaced) (b : Bool) (es : List PlainPlaced) → Holds P (f e) → Holds P (in_turn f es) → Holds P (in_turn f (cond b (e ∷ es) es))
one_holds P f e true es h rest = both_hold P (f e) (in_turn f es) h rest
one_holds P f e false es h rest = rest

targets_hold : (P : PlainMatch → Type 0) (f : PlainPlaced → Evaluated PlainMatch) (p : List ℕ) (s : PlainReference) (c : List PlainPlaced) → ((t : PlainPlaced) → IsIn t c → Holds P (f t)) → Holds P (in_turn f (targets c p s))
targets_hold P f p s [] h = tt
targets_hold P f p s (e ∷ es) h = one_holds P f e (leads_to p s e.0) (targets es p s) (h e (inl refl)) (targets_hold P f p s es (λ t i. h t (inr i)))

rule_holds : (P : PlainMatch → Type 0) (f : PlainPlaced → Evaluated PlainMatch) (c : List PlainPlaced) (p : List ℕ) (n : ℕ) (b quick : Bool) (e : Effect) →
    ((t : PlainPlaced) → IsIn t c → Holds P (f t)) → ((a : Action) → b ≡ true → e ≡ Decide a → P (found p n a)) → Holds P (cond b (settled quick (effected f c p n e)) (Open None))
rule_holds P f c p n false quick e h own = tt
rule_holds P f c p n true quick (Decide a) h own = settled_holds P quick (Open (Some (found p n a))) (own a refl refl)
rule_holds P f c p n true quick (Evaluate s) h own = settled_holds P quick (in_turn f (targets c p s)) (targets_hold P f p s c h)

rules_hold : (P : PlainMatch → Type 0) (f : PlainPlaced → Evaluated PlainMatch) (c : List PlainPlaced) (tests : Tests) (p : List ℕ) (n : ℕ) (rs : List PlainRule) →
    ((t : PlainPlaced) → IsIn t c → Holds P (f t)) →
    ((j : ℕ) (r : PlainRule) (a : Action) → rule_numbered rs j ≡ Some r → tests p r ≡ true → r.effect ≡ Decide a → P (found p (n + j) a)) →
    Holds P (rules_at_path f c tests p n rs)
rules_hold P f c tests p n [] h own = tt
rules_hold P f c tests p n (r ∷ rs) h own =
    both_hold P (cond (tests p r) (settled r.quick (effected f c p n r.effect)) (Open None)) (rules_at_path f c tests p (n + 1) rs)
    (rule_holds P f c p n (tests p r) r.quick r.effect h (λ a m d.
    let same : n + 0 ≡ n = omega arith in
    subst (λ (x : ℕ). P (found p x a)) same (own zero r a refl m d)))
    (rules_hold P f c tests p (n + 1) rs h (λ j s a i m d.
    let same : n + suc j ≡ n + 1 + j = omega arith in
    subst (λ (x : ℕ). P (found p x a)) same (own (suc j) s a i m d)))

one_level_holds : (c : List PlainPlaced) (tests : Tests) (f : PlainPlaced → Evaluated PlainMatch) (e : PlainPlaced) → IsIn e c →
    ((t : PlainPlaced) → IsIn t c → Holds (λ m. (t : PlainPlaced) × (IsIn t c × IsDecidedBy tests m t)) (f t)) →
    Holds (λ m. (t : PlainPlaced) × (IsIn t c × IsDecidedBy tests m t)) (evaluate_with f c tests e)
one_level_holds c tests f e i h =
    rules_hold (λ m. (t : PlainPlaced) × (IsIn t c × IsDecidedBy tests m t)) f c tests e.0 0 e.1 h (λ j r a at m d.
    let same : j ≡ 0 + j = omega arith in
    (e, (i, (r, (refl, ap (rule_numbered e.1) (sym same) ∙ at, m, d)))))

levels_hold : (d : ℕ) (c : List PlainPlaced) (tests : Tests) (e : PlainPlaced) → IsIn e c → Holds (λ m. (t : PlainPlaced) × (IsIn t c × IsDecidedBy tests m t)) (levels d c tests e)
unfolding levels
levels_hold zero c tests e i = one_level_holds c tests (λ t. Open None) e i (λ t j. tt)
levels_hold (suc d) c tests e i = one_level_holds c tests (levels d c tests) e i (λ t j. levels_hold d c tests t j)

pub anchors_never_decide : AnchorsNeverDecide
unfolding evaluation
anchors_never_decide c tests e i = levels_hold _ c tests e i

-- ---- the rule of a verdict

verdict_is : (m : PlainMatch) (p : List ℕ) (n : ℕ) (a : Action) → verdict_by (Some m) ≡ by.Rule p n a → m ≡ found p n a
verdict_is m p n a reported =
    let path : m.path ≡ p = cc in
    let number : m.number ≡ n = cc in
    let action : m.action ≡ a = cc in
    ap (λ (q : List ℕ). found q m.number m.action) path ∙ ap (λ (k : ℕ). found p k m.action) number ∙ ap (found p n) action

verdict_holds : (P : PlainMatch → Type 0) (x : Evaluated PlainMatch) (p : List ℕ) (n : ℕ) (a : Action) → Holds P x → verdict_by (last_of x) ≡ by.Rule p n a → P (found p n a)
verdict_holds P (Ended m) p n a h reported = let same : m ≡ found p n a = verdict_is m p n a reported in subst P same h
verdict_holds P (Open None) p n a h reported = absurd (cc (reported))
verdict_holds P (Open (Some m)) p n a h reported = let same : m ≡ found p n a = verdict_is m p n a reported in subst P same h

entry_decides : (c : List PlainPlaced) (tests : Tests) (p : List ℕ) (n : ℕ) (a : Action) (t : PlainPlaced) → T (is_sorted path_order c) → IsIn t c → IsDecidedBy tests (found p n a) t →
    (r : PlainRule) × ((rule_numbered (rules_at p c) n ≡ Some r) × (tests p r ≡ true) × (r.effect ≡ Decide a))
entry_decides c tests p n a t sorted i is =
    let rules : rules_at p c ≡ t.1 = sym (ap (λ (e : PlainPlaced). e.1) (entry_is c t sorted i) ∙ ap (λ (q : List ℕ). rules_at q c) is.1.0) in
    (is.0, (ap (λ (rs : List PlainRule). rule_numbered rs n) rules ∙ is.1.1, ap (λ (q : List ℕ). tests q is.0) (sym is.1.0) ∙ is.1.2, is.1.3))

pub verdict_rule_decides : VerdictRuleDecides
verdict_rule_decides c packet p n a is reported = by (find path_order main c.rulesets) refl where
  by : (v : Option (List PlainRule)) → find path_order main c.rulesets ≡ v → (r : PlainRule) × ((rule_numbered (rules_at p c.rulesets) n ≡ Some r) × (matching c.tables packet p r ≡ true) × (r.effect ≡ Decide a))
  by None none = absurd (cc (default_judged c packet (ap rules_in none), reported))
  by (Some rs) some =
      let rulesets = c.rulesets in
      let tests = matching c.tables packet in
      let e = ruled main rs in
      let there : judged c packet ≡ verdict_by (last_of (evaluation rulesets tests e)) = ap (λ (v : Option (List PlainRule)). verdict_by (last_of (evaluation rulesets tests (ruled main (rules_in v))))) some in
      let decided = verdict_holds (λ m. (t : PlainPlaced) × (IsIn t rulesets × IsDecidedBy tests m t)) (evaluation rulesets tests e) p n a (anchors_never_decide rulesets tests e (found_is_in main rulesets rs some)) (sym there ∙ reported) in
      entry_decides rulesets tests p n a decided.0 is.sorted decided.1.0 decided.1.1
