-- A rule before other rules, rules in parts, and where a ruleset ends.
use Rattle.std.proofs.Common.{◌≡◌, ℕ, ◌+◌, Bool, true, false, cond, List, [], ◌∷◌, ◌++◌, length, Option, Some, None, refl, sym, ap, ◌∙◌, arith}
use Rattle.std.specs.List.{list_any}
use Rattle.pf_addr.specs.{Path.Paths.main, Path.References.PlainReference}
use Rattle.pf_rule.specs.Rules.{PlainRule}
use Rattle.pf_anchor.specs.{declared.{evaluated.Evaluated.Evaluated, evaluated.Evaluated.TheVariants.Open, evaluated.Evaluated.TheVariants.Ended}, Matches.{PlainMatch, found}, Rulesets.{PlainPlaced, ruled, targets}, Evaluation.{Tests, and_then, settled, in_turn, effected, evaluation, matching, last_of, verdict_by, rules_at_path}, Laws.Evaluation.{IsAnchor, OwnMatch, EndsOutside, NothingWithin, MatchWithin, QuickEnds, EndsTheVerdict, InTwoParts, PassedOver}}
use Rattle.pf_anchor.proofs.Evaluations.{none_and_then, and_then_assoc, unrolled}
use Rattle.std.proofs.lemmas.Bool.{or_parts}

rule_is : (f : PlainPlaced → Evaluated PlainMatch) (c : List PlainPlaced) (tests : Tests) (p : List ℕ) (n : ℕ) (r : PlainRule) (rs : List PlainRule) (x : Evaluated PlainMatch) →
    tests p r ≡ true → effected f c p n r.effect ≡ x → rules_at_path f c tests p n (r ∷ rs) ≡ and_then (settled r.quick x) (rules_at_path f c tests p (n + 1) rs)
rule_is f c tests p n r rs x is effect =
    ap (λ (b : Bool). and_then (cond b (settled r.quick (effected f c p n r.effect)) (Open None)) (rules_at_path f c tests p (n + 1) rs)) is
    ∙ ap (λ (y : Evaluated PlainMatch). and_then (settled r.quick y) (rules_at_path f c tests p (n + 1) rs)) effect

within_is : (f : PlainPlaced → Evaluated PlainMatch) (c : List PlainPlaced) (tests : Tests) (p : List ℕ) (n : ℕ) (r : PlainRule) (s : PlainReference) (rs : List PlainRule) (x : Evaluated PlainMatch) →
    IsAnchor tests p r s → in_turn f (targets c p s) ≡ x → rules_at_path f c tests p n (r ∷ rs) ≡ and_then (settled r.quick x) (rules_at_path f c tests p (n + 1) rs)
within_is f c tests p n r s rs x is h = rule_is f c tests p n r rs x is.0 (ap (effected f c p n) is.1 ∙ h)

pub ends_outside : EndsOutside
ends_outside f c tests p n r s rs m is h = within_is f c tests p n r s rs (Ended m) is h

pub nothing_within : NothingWithin
nothing_within f c tests p n r s rs is h = within_is f c tests p n r s rs (Open None) is h ∙ none_and_then _

quick_or_not : (m : PlainMatch) (quick : Bool) (rest : Evaluated PlainMatch) → and_then (settled quick (Open (Some m))) rest ≡ cond quick (Ended m) (and_then (Open (Some m)) rest)
quick_or_not m true rest = refl
quick_or_not m false rest = refl

pub match_within : MatchWithin
match_within f c tests p n r s rs m is h = within_is f c tests p n r s rs (Open (Some m)) is h ∙ quick_or_not m r.quick _

pub own_match : OwnMatch
own_match f c tests p n r a rs is decides = rule_is f c tests p n r rs (Open (Some (found p n a))) is (ap (effected f c p n) decides) ∙ quick_or_not (found p n a) r.quick _

-- ---- parts

pub in_two_parts : InTwoParts
in_two_parts f c tests p n [] back =
    let same : n + 0 ≡ n = omega arith in
    sym (none_and_then (rules_at_path f c tests p (n + 0) back) ∙ ap (λ (k : ℕ). rules_at_path f c tests p k back) same)
in_two_parts f c tests p n (r ∷ front) back =
    let same : n + 1 + length front ≡ n + length (r ∷ front) = omega arith in
    let said = cond (tests p r) (settled r.quick (effected f c p n r.effect)) (Open None) in
    ap (and_then said) (in_two_parts f c tests p (n + 1) front back ∙ ap (λ (k : ℕ). and_then (rules_at_path f c tests p (n + 1) front) (rules_at_path f c tests p k back)) same)
    ∙ sym (and_then_assoc said (rules_at_path f c tests p (n + 1) front) (rules_at_path f c tests p (n + length (r ∷ front)) back))

pub passes_over : PassedOver
passes_over f c tests p n [] h = refl
passes_over f c tests p n (r ∷ rs) h =
    let parts = or_parts (tests p r) (list_any (tests p) rs) h in
    ap (λ (b : Bool). and_then (cond b (settled r.quick (effected f c p n r.effect)) (Open None)) (rules_at_path f c tests p (n + 1) rs)) parts.0
    ∙ ap (and_then (Open None)) (passes_over f c tests p (n + 1) rs parts.1)

-- ---- a whole ruleset

-- what ends at a rule ends the ruleset, if no rule before it did
ended_at : (c : List PlainPlaced) (tests : Tests) (p : List ℕ) (front back : List PlainRule) (r : PlainRule) (last : Option PlainMatch) (m : PlainMatch) →
    rules_at_path (evaluation c tests) c tests p 0 front ≡ Open last → rules_at_path (evaluation c tests) c tests p (length front) (r ∷ back) ≡ Ended m → evaluation c tests (ruled p (front ++ r ∷ back)) ≡ Ended m
ended_at c tests p front back r last m goes_on ends =
    let f = evaluation c tests in
    let at : 0 + length front ≡ length front = omega arith in
    unrolled c tests (ruled p (front ++ r ∷ back))
    ∙ in_two_parts f c tests p 0 front (r ∷ back)
    ∙ ap (λ (x : Evaluated PlainMatch). and_then x (rules_at_path f c tests p (0 + length front) (r ∷ back))) goes_on
    ∙ ap (λ (k : ℕ). and_then (Open last) (rules_at_path f c tests p k (r ∷ back))) at
    ∙ ap (and_then (Open last)) ends

pub quick_ends : QuickEnds
quick_ends c tests p front back r a last goes_on is decides quick =
    let f = evaluation c tests in
    let rest = and_then (Open (Some (found p (length front) a))) (rules_at_path f c tests p (length front + 1) back) in
    ended_at c tests p front back r last (found p (length front) a) goes_on
    (own_match f c tests p (length front) r a back is decides ∙ ap (λ (b : Bool). cond b (Ended (found p (length front) a)) rest) quick)

pub ends_the_verdict : EndsTheVerdict
ends_the_verdict c packet front back r s last m rules goes_on is ended =
    let tests = matching c.tables packet in
    let f = evaluation c.rulesets tests in
    ap (λ (rs : List PlainRule). verdict_by (last_of (f (ruled main rs)))) rules
    ∙ ap (λ (x : Evaluated PlainMatch). verdict_by (last_of x)) (ended_at c.rulesets tests main front back r last m goes_on (ends_outside f c.rulesets tests main (length front) r s back m is ended))
