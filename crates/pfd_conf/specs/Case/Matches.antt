-- The rules that match a packet, as the evaluation looks at them (pf.conf(5), PACKET FILTERING and ANCHORS): a rule at which it looks twice
-- comes twice, and what stands behind its end doesn't come.
use Rattle.std.specs.Prelude.{◌≡◌, ℕ, zero, suc, ◌+◌, Bool, true, List, [], ◌∷◌, ◌++◌, Result, Ok, Err, if◌then◌else◌}
use Rattle.pf_addr.specs.declared.path.limits.TheConstants.{DEPTH_LIMIT}
use Rattle.pf_addr.specs.Path.Paths.{main}
use Rattle.pf_rule.specs.{Rules.PlainRule, Packets.PlainPacket, declared.{rule.Effect.Effect, rule.Effect.TheVariants.Decide, rule.Effect.TheVariants.Evaluate}}
use Rattle.pf_anchor.specs.{Rulesets.{PlainPlaced, ruled, rules_at, targets}, Configurations.PlainConfig, Evaluation.{Tests, matching}}
use Rattle.pfd_conf.specs.declared.case.trace.{Matched.Matched, Traced.Traced, Cut.Cut, Came.Came}
use Rattle.pfd_conf.specs.declared.case.trace.Came.TheVariants as came

-- ---- how an evaluation goes on

-- one behind another; nothing comes behind the end
abbrev pub came_then : Came → Came → Came
came_then came.Ended later = came.Ended
came_then came.Nothing later = later
came_then came.Decided came.Nothing = came.Decided
came_then came.Decided came.Decided = came.Decided
came_then came.Decided came.Ended = came.Ended

-- quick ends it if something decided
abbrev pub came_settled : Bool → Came → Came
came_settled quick came.Nothing = came.Nothing
came_settled quick came.Decided = if quick then came.Ended else came.Decided
came_settled quick came.Ended = came.Ended

-- ---- a part of an evaluation: the rules that match, and how it goes on behind them

abbrev pub Part : Type 0
Part = List Matched × Came

abbrev pub nothing : Part
nothing = ([], came.Nothing)

abbrev pub unless_ended : Came → List Matched → List Matched
unless_ended came.Ended later = []
unless_ended came.Nothing later = later
unless_ended came.Decided later = later

abbrev pub and_then : Part → Part → Part
and_then first later = (first.0 ++ unless_ended first.1 later.0, came_then first.1 later.1)

-- rulesets in turn, by the part of each
abbrev pub in_turn : (PlainPlaced → Part) → List PlainPlaced → Part
in_turn part [] = nothing
in_turn part (e ∷ es) = and_then (part e) (in_turn part es)

-- what a rule of the ruleset at p does: it decides, or the rulesets that it leads to are evaluated
abbrev pub effected : (PlainPlaced → Part) → List PlainPlaced → List ℕ → Effect → Part
effected part c p (Decide action) = ([], came.Decided)
effected part c p (Evaluate r) = in_turn part (targets c p r)

-- the rule itself, and then what it does
abbrev pub settled : Matched → Bool → Part → Part
settled m quick within = (m ∷ within.0, came_settled quick within.1)

-- rule n of the ruleset at p, if it matches
abbrev pub rule_part : (PlainPlaced → Part) → List PlainPlaced → Tests → List ℕ → ℕ → PlainRule → Part
rule_part part c tests p n r =
    if tests p r then settled (record { path = p; number = n }) r.quick (effected part c p r.effect) else nothing

-- the rules of the ruleset at p from this number on
abbrev pub rules_part : (PlainPlaced → Part) → List PlainPlaced → Tests → List ℕ → ℕ → List PlainRule → Part
rules_part part c tests p n [] = nothing
rules_part part c tests p n (r ∷ rs) = and_then (rule_part part c tests p n r) (rules_part part c tests p (n + 1) rs)

-- a ruleset, where so many levels of rulesets are left
unfoldable pub below : ℕ → List PlainPlaced → Tests → PlainPlaced → Part
below zero c tests e = nothing
below (suc left) c tests e = rules_part (below left c tests) c tests e.0 0 e.1

-- ---- a packet

abbrev pub part_below : ℕ → PlainConfig → PlainPacket → PlainPlaced → Part
part_below left c packet = below left c.rulesets (matching c.tables packet)

abbrev pub part_of_rulesets : ℕ → PlainConfig → PlainPacket → List PlainPlaced → Part
part_of_rulesets left c packet es = in_turn (part_below left c packet) es

abbrev pub part_of_effect : ℕ → PlainConfig → PlainPacket → List ℕ → Effect → Part
part_of_effect left c packet p e = effected (part_below left c packet) c.rulesets p e

abbrev pub part_of_rule : ℕ → PlainConfig → PlainPacket → List ℕ → ℕ → PlainRule → Part
part_of_rule left c packet p n r = rule_part (part_below left c packet) c.rulesets (matching c.tables packet) p n r

abbrev pub part_of_rules : ℕ → PlainConfig → PlainPacket → List ℕ → ℕ → List PlainRule → Part
part_of_rules left c packet p n rs = rules_part (part_below left c packet) c.rulesets (matching c.tables packet) p n rs

abbrev pub part_of_ruleset : ℕ → PlainConfig → PlainPacket → List ℕ → Part
part_of_ruleset left c packet p = part_of_rules left c packet p 0 (rules_at p c.rulesets)

-- the rules that match as the main ruleset is evaluated
abbrev pub rules_matched : PlainConfig → PlainPacket → List Matched
rules_matched c packet = (part_below (DEPTH_LIMIT + 1) c packet (ruled main (rules_at main c.rulesets))).0

-- these, or the first of them
pub record IsTrace (c : PlainConfig) (packet : PlainPacket) (t : Traced) : Type 0 where
  pub others : List Matched
  pub all : rules_matched c packet ≡ t.matched.items ++ others
  pub whole : t.is_whole ≡ true → others ≡ []

-- Behind what was listed comes this part, and the evaluation goes on so; or the list is cut off behind a front of it.
abbrev pub Lists : Result Came Cut → List Matched → List Matched → Part → Type 0
Lists (Ok c) old new part = (old ++ part.0 ≡ new) × (c ≡ part.1)
Lists (Err cut) old new part = (others : List Matched) × (old ++ part.0 ≡ new ++ others)
