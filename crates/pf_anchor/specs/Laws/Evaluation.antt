-- What follows from the definition of evaluation (pf.conf(5), PACKET FILTERING and ANCHORS): laws that say it without the levels, or
-- without the recursion.
use Rattle.std.specs.{Prelude.{◌≡◌, ◌⊎◌, ℕ, zero, suc, ◌+◌, ◌≤◌, Bool, true, false, not, cond, ◌&&◌, List, [], ◌∷◌, ◌++◌, length, ◌==◌, map, Option, Some, None}, List.{list_all, list_any}}
use Rattle.pf_addr.specs.declared.path.limits.TheConstants.{DEPTH_LIMIT}
use Rattle.pf_addr.specs.{Path.Paths.{main, same_path}, Path.Nested.path_within, Path.References.PlainReference}
use Rattle.pf_rule.specs.{Packets.PlainPacket, Rules.PlainRule, declared.{rule.Action.Action, rule.Effect.TheVariants.Decide, rule.Effect.TheVariants.Evaluate}}
use Rattle.pf_anchor.specs.{declared.{evaluated.Evaluated.Evaluated, evaluated.Evaluated.TheVariants.Open, evaluated.Evaluated.TheVariants.Ended}, Matches.{PlainMatch, found}, Rulesets.{PlainPlaced, ruled, IsMap, rules_at, children, leads_to, targets}, Configurations.{PlainConfig, with_rulesets}, Evaluation.{Tests, and_then, in_turn, rules_at_path, evaluate_with, levels, evaluation, matching, judged}}
use Rattle.pf_anchor.specs.declared.verdict.RuleVerdict.TheVariants as by

-- ---- one solution

-- a ruleset is evaluated as its rules in order, and so is each ruleset that they lead to
abbrev pub Unrolls : Type 0
Unrolls = (c : List PlainPlaced) (tests : Tests) (e : PlainPlaced) → evaluation c tests e ≡ evaluate_with (evaluation c tests) c tests e

-- no other function is
abbrev pub IsTheOnly : Type 0
IsTheOnly = (c : List PlainPlaced) (tests : Tests) (f : PlainPlaced → Evaluated PlainMatch) → ((e : PlainPlaced) → f e ≡ evaluate_with f c tests e) →
    (e : PlainPlaced) → f e ≡ evaluation c tests e

-- more levels than a path may have components change nothing
abbrev pub DepthIsEnough : Type 0
DepthIsEnough = (c : List PlainPlaced) (tests : Tests) (e : PlainPlaced) (k : ℕ) → DEPTH_LIMIT ≤ k → levels k c tests e ≡ evaluation c tests e

-- ---- rules that decide

-- whether a rule is no anchor rule
abbrev pub decides : PlainRule → Bool
decides r = elim r.effect [ Decide _ ↦ true | Evaluate _ ↦ false ]

-- the rule with this number matches, no quick rule before it does, and it is quick or no later rule matches
pub record IsDeciding (test : PlainRule → Bool) (rules : List PlainRule) (number : ℕ) (rule : PlainRule) : Type 0 where
  pub before : List PlainRule
  pub following : List PlainRule
  pub all : rules ≡ before ++ rule ∷ following
  pub numbered : number ≡ length before
  pub matches : test rule ≡ true
  pub not_ended : list_all (λ r. not (test r && r.quick)) before ≡ true
  pub stands : (rule.quick ≡ true) ⊎ (list_any test following ≡ false)

-- none of the main ruleset's rules matches, and the verdict is the default; or one decides, and the verdict has its number and what it does
abbrev pub IsVerdictOfMain : PlainConfig → PlainPacket → Type 0
IsVerdictOfMain c packet =
    ((list_any (matching c.tables packet main) (rules_at main c.rulesets) ≡ false) × (judged c packet ≡ by.Default))
    ⊎ ((n : ℕ) × ((r : PlainRule) × ((a : Action) × (IsDeciding (matching c.tables packet main) (rules_at main c.rulesets) n r
    × (r.effect ≡ Decide a) × (judged c packet ≡ by.Rule main n a)))))

-- so it is if the main ruleset has no anchor rule
abbrev pub TellsWhatDecides : Type 0
TellsWhatDecides = (c : PlainConfig) (packet : PlainPacket) → list_all decides (rules_at main c.rulesets) ≡ true → IsVerdictOfMain c packet

-- ---- a rule that matches, before other rules; f is what each ruleset gives

-- a quick rule that decides ends, and any other's match stands until a later one
abbrev pub OwnMatch : Type 0
OwnMatch = (f : PlainPlaced → Evaluated PlainMatch) (c : List PlainPlaced) (tests : Tests) (p : List ℕ) (n : ℕ) (r : PlainRule)
    (a : Action) (rs : List PlainRule) →
    tests p r ≡ true → r.effect ≡ Decide a → rules_at_path f c tests p n (r ∷ rs)
    ≡ cond r.quick (Ended (found p n a)) (and_then (Open (Some (found p n a))) (rules_at_path f c tests p (n + 1) rs))

abbrev pub IsAnchor : Tests → List ℕ → PlainRule → PlainReference → Type 0
IsAnchor tests p r s = (tests p r ≡ true) × (r.effect ≡ Evaluate s)

-- what ends within an anchor rule ends the rule's ruleset too, and so everything outside
abbrev pub EndsOutside : Type 0
EndsOutside = (f : PlainPlaced → Evaluated PlainMatch) (c : List PlainPlaced) (tests : Tests) (p : List ℕ) (n : ℕ) (r : PlainRule)
    (s : PlainReference) (rs : List PlainRule) (m : PlainMatch) →
    IsAnchor tests p r s → in_turn f (targets c p s) ≡ Ended m → rules_at_path f c tests p n (r ∷ rs) ≡ Ended m

-- if nothing within matched, it is as if the rule weren't there, quick or not
abbrev pub NothingWithin : Type 0
NothingWithin = (f : PlainPlaced → Evaluated PlainMatch) (c : List PlainPlaced) (tests : Tests) (p : List ℕ) (n : ℕ) (r : PlainRule)
    (s : PlainReference) (rs : List PlainRule) →
    IsAnchor tests p r s → in_turn f (targets c p s) ≡ Open None →
    rules_at_path f c tests p n (r ∷ rs) ≡ rules_at_path f c tests p (n + 1) rs

-- a quick one ends if something within matched, and any other's match stands until a later one
abbrev pub MatchWithin : Type 0
MatchWithin = (f : PlainPlaced → Evaluated PlainMatch) (c : List PlainPlaced) (tests : Tests) (p : List ℕ) (n : ℕ) (r : PlainRule)
    (s : PlainReference) (rs : List PlainRule) (m : PlainMatch) →
    IsAnchor tests p r s → in_turn f (targets c p s) ≡ Open (Some m) →
    rules_at_path f c tests p n (r ∷ rs) ≡ cond r.quick (Ended m) (and_then (Open (Some m)) (rules_at_path f c tests p (n + 1) rs))

-- ---- what a rule leads to

-- of rulesets in turn the first that ends is the end of all, else the latest match stands
pub record TakesInTurn (f : PlainPlaced → Evaluated PlainMatch) : Type 0 where
  pub none : in_turn f [] ≡ Open None
  pub one : (e : PlainPlaced) → in_turn f (e ∷ []) ≡ f e
  pub more : (front back : List PlainPlaced) → in_turn f (front ++ back) ≡ and_then (in_turn f front) (in_turn f back)

abbrev pub InTurn : Type 0
InTurn = (f : PlainPlaced → Evaluated PlainMatch) → TakesInTurn f

-- the rulesets at some paths
abbrev pub rulesets_at : List PlainPlaced → List (List ℕ) → List PlainPlaced
rulesets_at c paths = map (λ q. ruled q (rules_at q c)) paths

-- a rule leads to the ruleset at its path if there is one, by a wildcard to those at its children in their order, and past the limits to
-- none
pub record LeadsThere (c : List PlainPlaced) (p : List ℕ) (s : PlainReference) : Type 0 where
  pub by_wildcard : (base : List ℕ) → path_within p s.names ≡ Some base → s.wildcard ≡ true →
      targets c p s ≡ rulesets_at c (children c base)
  pub one : (base : List ℕ) → path_within p s.names ≡ Some base → s.wildcard ≡ false →
      targets c p s ≡ cond (length (rules_at base c) == 0) [] (rulesets_at c (base ∷ []))
  pub none : path_within p s.names ≡ None → targets c p s ≡ []

abbrev pub LeadsToTheseAlone : Type 0
LeadsToTheseAlone = (c : List PlainPlaced) (p : List ℕ) (s : PlainReference) → IsMap c → LeadsThere c p s

-- ---- a quick end, over a whole ruleset

-- a quick rule that decides ends its ruleset's evaluation if no rule before it did, at any path: no rule after it is looked at
abbrev pub QuickEnds : Type 0
QuickEnds = (c : List PlainPlaced) (tests : Tests) (p : List ℕ) (front back : List PlainRule) (r : PlainRule)
    (a : Action) (last : Option PlainMatch) →
    rules_at_path (evaluation c tests) c tests p 0 front ≡ Open last → tests p r ≡ true → r.effect ≡ Decide a → r.quick ≡ true →
    evaluation c tests (ruled p (front ++ r ∷ back)) ≡ Ended (found p (length front) a)

-- what ends within an anchor rule of the main ruleset is the verdict, whatever comes after that rule
abbrev pub EndsTheVerdict : Type 0
EndsTheVerdict = (c : PlainConfig) (packet : PlainPacket) (front back : List PlainRule) (r : PlainRule)
    (s : PlainReference) (last : Option PlainMatch) (m : PlainMatch) →
    rules_at main c.rulesets ≡ front ++ r ∷ back →
    rules_at_path (evaluation c.rulesets (matching c.tables packet)) c.rulesets (matching c.tables packet) main 0 front ≡ Open last →
    IsAnchor (matching c.tables packet) main r s → in_turn (evaluation c.rulesets (matching c.tables packet)) (targets c.rulesets main s)
    ≡ Ended m → judged c packet ≡ by.Rule m.path m.number m.action

-- ---- what decides

abbrev pub IsIn : PlainPlaced → List PlainPlaced → Type 0
IsIn e [] = ⊥
IsIn e (x ∷ xs) = (x ≡ e) ⊎ IsIn e xs

abbrev pub rule_numbered : List PlainRule → ℕ → Option PlainRule
rule_numbered [] n = None
rule_numbered (r ∷ rs) zero = Some r
rule_numbered (r ∷ rs) (suc n) = rule_numbered rs n

-- this match is a rule of the ruleset that matches and isn't an anchor rule
abbrev pub IsDecidedBy : Tests → PlainMatch → PlainPlaced → Type 0
IsDecidedBy tests m e = (r : PlainRule) × ((e.0 ≡ m.path) × (rule_numbered e.1 m.number ≡ Some r) × (tests e.0 r ≡ true)
    × (r.effect ≡ Decide m.action))

abbrev pub Holds : (PlainMatch → Type 0) → Evaluated PlainMatch → Type 0
Holds P (Ended m) = P m
Holds P (Open None) = Unit {0}
Holds P (Open (Some m)) = P m

-- what is found is a rule that decides, of a ruleset that is there
abbrev pub AnchorsNeverDecide : Type 0
AnchorsNeverDecide = (c : List PlainPlaced) (tests : Tests) (e : PlainPlaced) → IsIn e c →
    Holds (λ m. (t : PlainPlaced) × (IsIn t c × IsDecidedBy tests m t)) (evaluation c tests e)

-- the rule of a verdict is at its path and number, matches the packet, and does what the verdict says
abbrev pub VerdictRuleDecides : Type 0
VerdictRuleDecides = (c : PlainConfig) (packet : PlainPacket) (p : List ℕ) (n : ℕ) (a : Action) →
    IsMap c.rulesets → judged c packet ≡ by.Rule p n a →
    (r : PlainRule) × ((rule_numbered (rules_at p c.rulesets) n ≡ Some r) × (matching c.tables packet p r ≡ true)
    × (r.effect ≡ Decide a))

-- ---- a ruleset that no rule leads to

abbrev pub NoneLeadsTo : List ℕ → List PlainPlaced → Type 0
NoneLeadsTo q c = (e : PlainPlaced) (n : ℕ) (r : PlainRule) (s : PlainReference) → IsIn e c → rule_numbered e.1 n ≡ Some r →
    r.effect ≡ Evaluate s → leads_to e.0 s q ≡ false

-- such a ruleset, if it isn't the main one, may be replaced by any other and no verdict changes; rulesets that lead only to one another can
-- be taken out one by one, the outermost first
abbrev pub UnreachedIsNothing : Type 0
UnreachedIsNothing = (c : PlainConfig) (new : PlainPlaced) (packet : PlainPacket) → IsMap c.rulesets → NoneLeadsTo new.0 c.rulesets →
    same_path new.0 main ≡ false → judged (with_rulesets c (new ∷ [])) packet ≡ judged c packet

-- ---- parts

-- rules in two parts, the second's numbers going on from the first's
abbrev pub InTwoParts : Type 0
InTwoParts = (f : PlainPlaced → Evaluated PlainMatch) (c : List PlainPlaced) (tests : Tests) (p : List ℕ) (n : ℕ) (front back : List PlainRule) →
    rules_at_path f c tests p n (front ++ back)
    ≡ and_then (rules_at_path f c tests p n front) (rules_at_path f c tests p (n + length front) back)

-- rules that don't match give nothing
abbrev pub PassedOver : Type 0
PassedOver = (f : PlainPlaced → Evaluated PlainMatch) (c : List PlainPlaced) (tests : Tests) (p : List ℕ) (n : ℕ) (rs : List PlainRule) →
    list_any (tests p) rs ≡ false → rules_at_path f c tests p n rs ≡ Open None
