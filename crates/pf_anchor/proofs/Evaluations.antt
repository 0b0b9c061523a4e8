-- The equation of evaluation has one solution.
use Rattle.std.proofs.Common.{◌≡◌, ℕ, zero, suc, ◌+◌, ◌-◌, ◌<◌, ◌≤◌, Bool, true, false, cond, List, [], ◌∷◌, Option, Some, None, refl, sym, ap, ◌∙◌, arith}
use Rattle.std.specs.Option.{option_map_or}
use Rattle.pf_addr.specs.declared.path.limits.TheConstants.{DEPTH_LIMIT}
use Rattle.pf_addr.specs.{Path.Paths.main, Path.Nested.{depth, path_within}, Path.References.PlainReference}
use Rattle.pf_addr.proofs.{PathsRead.same_path_is, Nesting.{leads_deeper, has_one_more}}
use Rattle.pf_rule.specs.{Packets.PlainPacket, Rules.PlainRule, declared.{rule.Effect.Effect, rule.Effect.TheVariants.Decide, rule.Effect.TheVariants.Evaluate}}
use Rattle.pf_anchor.specs.{declared.{evaluated.Evaluated.Evaluated, evaluated.Evaluated.TheVariants.Open, evaluated.Evaluated.TheVariants.Ended, verdict.RuleVerdict.TheVariants.Default}, Matches.PlainMatch, Rulesets.{PlainPlaced, ruled, rules_at, leads_from, leads_to, targets}, Configurations.PlainConfig, Evaluation.{Tests, and_then, in_turn, last_of, effected, rules_give, evaluate_with, levels, evaluation, matching, verdict_by, judged}, Laws.Evaluation.{Unrolls, IsTheOnly, DepthIsEnough}}

-- ---- evaluations one after the other

pub none_and_then : {M : Type 0} (x : Evaluated M) → and_then (Open None) x ≡ x
none_and_then (Ended m) = refl
none_and_then (Open None) = refl
none_and_then (Open (Some m)) = refl

pub and_then_none : {M : Type 0} (x : Evaluated M) → and_then x (Open None) ≡ x
and_then_none (Ended m) = refl
and_then_none (Open last) = refl

pub and_then_assoc : {M : Type 0} (x y z : Evaluated M) → and_then (and_then x y) z ≡ and_then x (and_then y z)
and_then_assoc (Ended m) y z = refl
and_then_assoc (Open last) (Ended m) z = refl
and_then_assoc (Open last) (Open None) (Ended m) = refl
and_then_assoc (Open last) (Open None) (Open None) = refl
and_then_assoc (Open last) (Open None) (Open (Some m)) = refl
and_then_assoc (Open last) (Open (Some m)) (Ended n) = refl
and_then_assoc (Open last) (Open (Some m)) (Open None) = refl
and_then_assoc (Open last) (Open (Some m)) (Open (Some n)) = refl

-- ---- what a rule leads to is deeper

from_deeper : (base : List ℕ) (wildcard : Bool) (q : List ℕ) → leads_from base wildcard q ≡ true → depth base ≤ depth q
from_deeper base true q is = let more = (has_one_more base q is).1.2 in omega (arith, more)
from_deeper base false q is = let same = ap depth (same_path_is base q is) in omega (arith, same)

pub deeper : (p : List ℕ) (s : PlainReference) (q : List ℕ) → leads_to p s q ≡ true → (depth p < depth q) × (depth p < DEPTH_LIMIT)
deeper p s q is = by (path_within p s.names) refl is where
  by : (base : Option (List ℕ)) → path_within p s.names ≡ base → option_map_or (λ b. leads_from b s.wildcard q) base false ≡ true → (depth p < depth q) × (depth p < DEPTH_LIMIT)
  by None at h = absurd (cc (h))
  by (Some base) at h =
      let leads = leads_deeper p s.names base at in
      let from = from_deeper base s.wildcard q h in
      (omega (arith, leads.0, from), omega (arith, leads.0, leads.1))

-- ---- evaluations that agree on what is deeper agree

one_agrees : (f g : PlainPlaced → Evaluated PlainMatch) (e : PlainPlaced) (b : Bool) (es : List PlainPlaced) → (b ≡ true → f e ≡ g e) → in_turn f es ≡ in_turn g es → in_turn f (cond b (e ∷ es) es) ≡ in_turn g (cond b (e ∷ es) es)
one_agrees f g e true es h rest = let here = h refl in cc
one_agrees f g e false es h rest = rest

pub targets_agree : (f g : PlainPlaced → Evaluated PlainMatch) (p : List ℕ) (s : PlainReference) (c : List PlainPlaced) → ((t : PlainPlaced) → leads_to p s t.0 ≡ true → f t ≡ g t) → in_turn f (targets c p s) ≡ in_turn g (targets c p s)
targets_agree f g p s [] h = refl
targets_agree f g p s (e ∷ es) h = one_agrees f g e (leads_to p s e.0) (targets es p s) (h e) (targets_agree f g p s es h)

effects_agree : (f g : PlainPlaced → Evaluated PlainMatch) (c : List PlainPlaced) (p : List ℕ) → ((s : PlainReference) (t : PlainPlaced) → leads_to p s t.0 ≡ true → f t ≡ g t) → (n : ℕ) (e : Effect) → effected f c p n e ≡ effected g c p n e
effects_agree f g c p h n (Decide a) = refl
effects_agree f g c p h n (Evaluate s) = targets_agree f g p s c (h s)

rules_agree : {M : Type 0} (f g : ℕ → PlainRule → Evaluated M) (test : PlainRule → Bool) → ((n : ℕ) (r : PlainRule) → f n r ≡ g n r) → (n : ℕ) (rs : List PlainRule) → rules_give f test n rs ≡ rules_give g test n rs
rules_agree f g test h n [] = refl
rules_agree f g test h n (r ∷ rs) =
    let here = h n r in
    let rest = rules_agree f g test h (n + 1) rs in
    cc

pub agree : (f g : PlainPlaced → Evaluated PlainMatch) (c : List PlainPlaced) (tests : Tests) (e : PlainPlaced) → ((s : PlainReference) (t : PlainPlaced) → leads_to e.0 s t.0 ≡ true → f t ≡ g t) → evaluate_with f c tests e ≡ evaluate_with g c tests e
agree f g c tests e h = rules_agree (λ n r. effected f c e.0 n r.effect) (λ n r. effected g c e.0 n r.effect) (tests e.0) (λ n r. effects_agree f g c e.0 h n r.effect) 0 e.1

-- ---- one solution

no_level : (f : PlainPlaced → Evaluated PlainMatch) (c : List PlainPlaced) (tests : Tests) (e : PlainPlaced) → DEPTH_LIMIT ≤ depth e.0 + 0 → evaluate_with f c tests e ≡ evaluate_with (λ t. Open None) c tests e
no_level f c tests e far = agree f (λ t. Open None) c tests e (λ s t is. let leads = deeper e.0 s t.0 is in absurd (omega (arith, leads.1)))

same_levels : (d k : ℕ) (c : List PlainPlaced) (tests : Tests) (e : PlainPlaced) → DEPTH_LIMIT ≤ depth e.0 + d → DEPTH_LIMIT ≤ depth e.0 + k → levels d c tests e ≡ levels k c tests e
unfolding levels
same_levels zero zero c tests e far near = refl
same_levels zero (suc k) c tests e far near = sym (no_level (levels k c tests) c tests e far)
same_levels (suc d) zero c tests e far near = no_level (levels d c tests) c tests e near
same_levels (suc d) (suc k) c tests e far near =
    agree (levels d c tests) (levels k c tests) c tests e (λ s t is. let leads = deeper e.0 s t.0 is in same_levels d k c tests t (omega (arith, leads.0)) (omega (arith, leads.0)))

opened : (d : ℕ) (c : List PlainPlaced) (tests : Tests) (e : PlainPlaced) → DEPTH_LIMIT ≤ depth e.0 + d → levels d c tests e ≡ evaluate_with (evaluation c tests) c tests e
unfolding levels evaluation
opened zero c tests e far = sym (no_level (evaluation c tests) c tests e far)
opened (suc d) c tests e far =
    agree (levels d c tests) (evaluation c tests) c tests e (λ s t is. let leads = deeper e.0 s t.0 is in same_levels d (DEPTH_LIMIT - depth t.0) c tests t (omega (arith, leads.0)) (omega arith))

pub unrolled : Unrolls
unfolding evaluation
unrolled c tests e = opened (DEPTH_LIMIT - depth e.0) c tests e (omega arith)

only : (d : ℕ) (c : List PlainPlaced) (tests : Tests) (f : PlainPlaced → Evaluated PlainMatch) → ((e : PlainPlaced) → f e ≡ evaluate_with f c tests e) → (e : PlainPlaced) → DEPTH_LIMIT ≤ depth e.0 + d → f e ≡ levels d c tests e
unfolding levels
only zero c tests f solves e far = solves e ∙ no_level f c tests e far
only (suc d) c tests f solves e far =
    solves e ∙ agree f (levels d c tests) c tests e (λ s t is. let leads = deeper e.0 s t.0 is in only d c tests f solves t (omega (arith, leads.0)))

pub only_solution : IsTheOnly
unfolding evaluation
only_solution c tests f solves e = only (DEPTH_LIMIT - depth e.0) c tests f solves e (omega arith)

pub depth_is_enough : DepthIsEnough
unfolding evaluation
depth_is_enough c tests e k enough = same_levels k (DEPTH_LIMIT - depth e.0) c tests e (omega (arith, enough)) (omega arith)

-- ---- no rules

pub no_rules : (c : List PlainPlaced) (tests : Tests) (p : List ℕ) → evaluation c tests (ruled p []) ≡ Open None
no_rules c tests p = unrolled c tests (ruled p [])

pub default_judged : (c : PlainConfig) (packet : PlainPacket) → rules_at main c.rulesets ≡ [] → Default ≡ judged c packet
default_judged c packet none =
    let tests = matching c.tables packet in
    sym (ap (λ (rs : List PlainRule). verdict_by (last_of (evaluation c.rulesets tests (ruled main rs)))) none ∙ ap (λ (x : Evaluated PlainMatch). verdict_by (last_of x)) (no_rules c.rulesets tests main))
