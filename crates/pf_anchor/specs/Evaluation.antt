-- Evaluation of rulesets (pf.conf(5), PACKET FILTERING and ANCHORS): the last rule that matches decides, or the first quick one. Quick
-- anchor rules, the order of children by bytes and the limits of paths are this project's own.
use Rattle.std.specs.Prelude.{ℕ, zero, suc, ◌+◌, ◌-◌, Bool, cond, List, [], ◌∷◌, Option, Some, None}
use Rattle.pf_addr.specs.declared.path.limits.TheConstants.{DEPTH_LIMIT}
use Rattle.pf_addr.specs.{Path.Paths.main, Path.Nested.depth}
use Rattle.pf_rule.specs.{Packets.PlainPacket, Rules.{PlainRule, matches}, declared.{rule.Effect.Effect, rule.Effect.TheVariants.Decide, rule.Effect.TheVariants.Evaluate}}
use Rattle.pf_anchor.specs.{declared.{evaluated.Evaluated.Evaluated, evaluated.Evaluated.TheVariants.Open, evaluated.Evaluated.TheVariants.Ended, verdict.RuleVerdict.RuleVerdict}, Matches.{PlainMatch, found}, Rulesets.{PlainPlaced, ruled, rules_at, targets}, Tables.{PlainPlacedTable, tables_say}, Configurations.PlainConfig}
use Rattle.pf_anchor.specs.declared.verdict.RuleVerdict.TheVariants as by

-- ---- one after the other

-- two evaluations one after the other: the later match stands, and the first that has ended is the end of all
abbrev pub and_then : {M : Type 0} → Evaluated M → Evaluated M → Evaluated M
and_then (Ended m) rest = Ended m
and_then (Open last) (Ended m) = Ended m
and_then (Open last) (Open None) = Open last
and_then (Open last) (Open (Some m)) = Open (Some m)

-- quick ends the evaluation if there was a match
abbrev pub settled : {M : Type 0} → Bool → Evaluated M → Evaluated M
settled quick (Ended m) = Ended m
settled quick (Open None) = Open None
settled quick (Open (Some m)) = cond quick (Ended m) (Open (Some m))

-- one rule, by what its effect gives and which rules match
abbrev pub rule_gives : {M : Type 0} → (ℕ → PlainRule → Evaluated M) → (PlainRule → Bool) → ℕ → PlainRule → Evaluated M
rule_gives effect test n r = cond (test r) (settled r.quick (effect n r)) (Open None)

-- the rules from this number on
abbrev pub rules_give : {M : Type 0} → (ℕ → PlainRule → Evaluated M) → (PlainRule → Bool) → ℕ → List PlainRule → Evaluated M
rules_give effect test n [] = Open None
rules_give effect test n (r ∷ rs) = and_then (rule_gives effect test n r) (rules_give effect test (n + 1) rs)

-- rulesets in turn, by what each gives
abbrev pub in_turn : {M : Type 0} → (PlainPlaced → Evaluated M) → List PlainPlaced → Evaluated M
in_turn f [] = Open None
in_turn f (e ∷ es) = and_then (f e) (in_turn f es)

abbrev pub last_of : {M : Type 0} → Evaluated M → Option M
last_of (Open last) = last
last_of (Ended m) = Some m

-- ---- rulesets that lead to one another

-- whether a rule of the ruleset at a path matches
abbrev pub Tests : Type 0
Tests = List ℕ → PlainRule → Bool

-- what rule n of the ruleset at p does if it matches: it decides, or the rulesets that it leads to are evaluated
abbrev pub effected : (PlainPlaced → Evaluated PlainMatch) → List PlainPlaced → List ℕ → ℕ → Effect → Evaluated PlainMatch
effected f c p n (Decide a) = Open (Some (found p n a))
effected f c p n (Evaluate r) = in_turn f (targets c p r)

-- the rules of the ruleset at p from this number on, by what each ruleset that they lead to gives
abbrev pub rules_at_path : (PlainPlaced → Evaluated PlainMatch) → List PlainPlaced → Tests → List ℕ → ℕ → List PlainRule → Evaluated PlainMatch
rules_at_path f c tests p n rs = rules_give (λ k r. effected f c p k r.effect) (tests p) n rs

-- a whole ruleset
abbrev pub evaluate_with : (PlainPlaced → Evaluated PlainMatch) → List PlainPlaced → Tests → PlainPlaced → Evaluated PlainMatch
evaluate_with f c tests e = rules_at_path f c tests e.0 0 e.1

-- a ruleset, with this many levels of rulesets below it
unfoldable pub levels : ℕ → List PlainPlaced → Tests → PlainPlaced → Evaluated PlainMatch
levels zero c tests e = evaluate_with (λ t. Open None) c tests e
levels (suc d) c tests e = evaluate_with (levels d c tests) c tests e

-- a ruleset: below a path there are as many levels as the path may have further components
unfoldable pub evaluation : List PlainPlaced → Tests → PlainPlaced → Evaluated PlainMatch
evaluation c tests e = levels (DEPTH_LIMIT - depth e.0) c tests e

-- ---- verdicts

-- a rule matches a packet by its tests, with the tables as they are named at its ruleset's path
abbrev pub matching : List PlainPlacedTable → PlainPacket → Tests
matching tables packet p r = matches (tables_say tables p) r packet

-- the rule that decides, or the default pass
abbrev pub verdict_by : Option PlainMatch → RuleVerdict
verdict_by None = by.Default
verdict_by (Some m) = by.Rule m.path m.number m.action

-- a packet is judged by the main ruleset, and where its anchor rules match by the rulesets that they lead to
abbrev pub judged : PlainConfig → PlainPacket → RuleVerdict
judged c packet = verdict_by (last_of (evaluation c.rulesets (matching c.tables packet) (ruled main (rules_at main c.rulesets))))
