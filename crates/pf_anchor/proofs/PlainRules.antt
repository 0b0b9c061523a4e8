-- Rules that decide, none of them an anchor rule: which one is found.
use Rattle.std.proofs.Common.{◌≡◌, ◌⊎◌, inl, inr, ℕ, suc, ◌+◌, Bool, true, false, not, ◌&&◌, cond, List, [], ◌∷◌, Some, None, refl, ap, ◌∙◌, arith}
use Rattle.std.specs.List.{list_all, list_any}
use Rattle.pf_addr.specs.Path.Paths.{main}
use Rattle.pf_rule.specs.{Rules.PlainRule, declared.{rule.Action.Action, rule.Effect.Effect, rule.Effect.TheVariants.Decide, rule.Effect.TheVariants.Evaluate}}
use Rattle.pf_anchor.specs.{declared.{evaluated.Evaluated.Evaluated, evaluated.Evaluated.TheVariants.Open, evaluated.Evaluated.TheVariants.Ended}, Matches.{PlainMatch, found}, Rulesets.{PlainPlaced, ruled, rules_at}, Evaluation.{and_then, settled, effected, rules_give, evaluation, matching, last_of, verdict_by}, Laws.Evaluation.{IsDeciding, TellsWhatDecides, decides}}
use Rattle.pf_anchor.proofs.Evaluations.{none_and_then, unrolled}
use Rattle.std.proofs.lemmas.Bool.{and_parts}

-- what rules from a number on give: nothing, or the rule that decides
abbrev GivesDeciding : (PlainRule → Bool) → List ℕ → ℕ → List PlainRule → Evaluated PlainMatch → Type 0
GivesDeciding test p k rules x =
    ((list_any test rules ≡ false) × (x ≡ Open None))
    ⊎ ((n : ℕ) × ((r : PlainRule) × ((a : Action) × (IsDeciding test rules n r × (r.effect ≡ Decide a) × (last_of x ≡ Some (found p (k + n) a))))))

-- a rule that decides, and is the first
here : (test : PlainRule → Bool) (p : List ℕ) (k : ℕ) (r : PlainRule) (rs : List PlainRule) (x : Evaluated PlainMatch) (a : Action) → test r ≡ true → r.effect ≡ Decide a → (r.quick ≡ true) ⊎ (list_any test rs ≡ false) → last_of x ≡ Some (found p k a) → GivesDeciding test p k (r ∷ rs) x
here test p k r rs x a m decide stands last =
    let at : k ≡ k + 0 = omega arith in
    inr (0, (r, (a, (record { before = []; following = rs; all = refl; numbered = refl; matches = m; not_ended = refl; stands = stands }, decide, last ∙ ap (λ (n : ℕ). Some (found p n a)) at))))

-- a rule that decides after one that doesn't end the evaluation
further : (test : PlainRule → Bool) (p : List ℕ) (k : ℕ) (x : PlainRule) (xs : List PlainRule) (n : ℕ) (r : PlainRule) (a : Action) (y : Evaluated PlainMatch) → not (test x && x.quick) ≡ true → IsDeciding test xs n r → r.effect ≡ Decide a → last_of y ≡ Some (found p (k + 1 + n) a) → GivesDeciding test p k (x ∷ xs) y
further test p k x xs n r a y passed is decide last =
    let at : k + 1 + n ≡ k + suc n = omega arith in
    inr (suc n, (r, (a, (record { before = x ∷ is.before; following = is.following; all = ap (λ rs. x ∷ rs) is.all; numbered = ap suc is.numbered; matches = is.matches; not_ended = rw passed is.not_ended; stands = is.stands }, decide, last ∙ ap (λ (m : ℕ). Some (found p m a)) at))))

-- a later match stands in place of an earlier one
then_stands : (m d : PlainMatch) (y : Evaluated PlainMatch) → last_of y ≡ Some d → last_of (and_then (Open (Some m)) y) ≡ Some d
then_stands m d (Ended e) h = h
then_stands m d (Open None) h = absurd (cc (h))
then_stands m d (Open (Some e)) h = h

step : (f : PlainPlaced → Evaluated PlainMatch) (c : List PlainPlaced) (test : PlainRule → Bool) (p : List ℕ) (k : ℕ) (x : PlainRule) (xs : List PlainRule) (y : Evaluated PlainMatch) (m q : Bool) (e : Effect) → test x ≡ m → x.quick ≡ q → x.effect ≡ e → decides x ≡ true →
    GivesDeciding test p (k + 1) xs y → GivesDeciding test p k (x ∷ xs) (and_then (cond m (settled q (effected f c p k e)) (Open None)) y)
step f c test p k x xs y m q (Evaluate s) is quick effect plain rest = absurd (cc (rw effect at plain))
step f c test p k x xs y true true (Decide a) is quick effect plain rest = here test p k x xs (Ended (found p k a)) a is effect (inl quick) refl
step f c test p k x xs y true false (Decide a) is quick effect plain (inl none) =
    here test p k x xs (and_then (Open (Some (found p k a))) y) a is effect (inr none.0) (ap (λ z. last_of (and_then (Open (Some (found p k a))) z)) none.1)
step f c test p k x xs y true false (Decide a) is quick effect plain (inr found_is) =
    further test p k x xs found_is.0 found_is.1.0 found_is.1.1.0 (and_then (Open (Some (found p k a))) y) (rw (is, quick) refl) found_is.1.1.1.0 found_is.1.1.1.1 (then_stands (found p k a) _ y found_is.1.1.1.2)
step f c test p k x xs y false q (Decide a) is quick effect plain (inl none) = inl (rw is none.0, none_and_then y ∙ none.1)
step f c test p k x xs y false q (Decide a) is quick effect plain (inr found_is) =
    further test p k x xs found_is.0 found_is.1.0 found_is.1.1.0 (and_then (Open None) y) (rw is refl) found_is.1.1.1.0 found_is.1.1.1.1 (ap last_of (none_and_then y) ∙ found_is.1.1.1.2)

finds : (f : PlainPlaced → Evaluated PlainMatch) (c : List PlainPlaced) (test : PlainRule → Bool) (p : List ℕ) (k : ℕ) (rules : List PlainRule) → list_all decides rules ≡ true → GivesDeciding test p k rules (rules_give (λ n r. effected f c p n r.effect) test k rules)
finds f c test p k [] plain = inl (refl, refl)
finds f c test p k (x ∷ xs) plain =
    let parts = and_parts (decides x) (list_all decides xs) plain in
    step f c test p k x xs (rules_give (λ n r. effected f c p n r.effect) test (k + 1) xs) (test x) x.quick x.effect refl refl refl parts.0 (finds f c test p (k + 1) xs parts.1)

pub tells_what_decides : TellsWhatDecides
tells_what_decides c packet plain =
    let rules = rules_at main c.rulesets in
    let tests = matching c.tables packet in
    let opened = unrolled c.rulesets tests (ruled main rules) in
    elim (finds (evaluation c.rulesets tests) c.rulesets (tests main) main 0 rules plain) [
      | inl none ↦ inl (none.0, ap (λ x. verdict_by (last_of x)) (opened ∙ none.1))
      | inr is ↦ inr (is.0, (is.1.0, (is.1.1.0, (is.1.1.1.0, is.1.1.1.1, ap (λ x. verdict_by (last_of x)) opened ∙ ap verdict_by is.1.1.1.2 ∙ ap (λ (n : ℕ). verdict_by (Some (found main n is.1.1.0))) (let at : 0 + is.0 ≡ is.0 = omega arith in at)))))
    ]
