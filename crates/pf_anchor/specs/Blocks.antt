-- Eight rules of a ruleset together.
use Rattle.std.specs.Prelude.{◌≡◌, ℕ, ◌*◌, ◌<◌, ◌≤◌, true, false, List, Option, length, drop}
use Rattle.pf_rule.specs.{Host.Hosts.TableTest, Packets.PlainPacket, Rules.PlainRule}
use Rattle.pf_lanes.specs.{Masks.is_set, Answered.{block_mark, block_match, eight_from, stops}, Probes.PlainProbe}
use Rattle.pf_anchor.specs.{declared.{limits.TheConstants.{RULE_LIMIT}, evaluated.Evaluated.Evaluated, evaluated.Evaluated.TheVariants.Open}, Matches.PlainMatch, Rulesets.PlainPlaced, Tables.tables_say, Configurations.PlainConfig, Evaluation.{Tests, and_then, rules_at_path, matching}, Known.ruleset_gives}

-- the bits show the quick and anchor rules among those of a mask: a rule whose bit isn't set is neither
pub record AreStops (rules : List PlainRule) (block mask bits : ℕ) : Type 0 where
  pub unset : (i : ℕ) → i < 8 → is_set mask i ≡ true → is_set bits i ≡ false → block_mark stops rules block i ≡ false

-- what the rules of a block give, a match or none, if the mask has those that match and no quick and no anchor rule is among them
abbrev pub GivesLast : PlainPlaced → ℕ → ℕ → Option PlainMatch → Type 0
GivesLast e block mask last = (f : PlainPlaced → Evaluated PlainMatch) (c : List PlainPlaced) (tests : Tests) →
    ((i : ℕ) → i < 8 → is_set mask i ≡ block_mark (tests e.0) e.1 block i) →
    ((i : ℕ) → i < 8 → is_set mask i ≡ true → block_mark stops e.1 block i ≡ false) →
    Open last ≡ rules_at_path f c tests e.0 (8 * block) (eight_from (8 * block) e.1)

-- no rule of the blocks from one up to another matches, whatever tables say
abbrev pub NoneBetween : PlainProbe → ℕ → ℕ → Type 0
NoneBetween a from to = (says : TableTest) (block i : ℕ) → from ≤ block → block < to → i < 8 → block_match says a.rules a.packet block i ≡ false

-- what a ruleset gives for a packet from a block on, after the last match before it
abbrev pub given_from : PlainConfig → PlainPacket → PlainPlaced → ℕ → Option PlainMatch → Evaluated PlainMatch
given_from c packet e block last =
    and_then (Open last) (rules_at_path (ruleset_gives c packet) c.rulesets (matching c.tables packet) e.0 (8 * block) (drop (8 * block) e.1))

-- from a block and the last match before it on, a ruleset gives the same as from a later one on, of which the mask says which rules match
pub record IsStop (c : PlainConfig) (packet : PlainPacket) (e : PlainPlaced) (from : ℕ) (before last : Option PlainMatch) (block mask : ℕ) : Type 0 where
  pub later : from ≤ block
  pub within : block < length e.1
  pub few : block < RULE_LIMIT
  pub matching : (i : ℕ) → i < 8 → is_set mask i ≡ block_match (tables_say c.tables e.0) e.1 packet block i
  pub gives : given_from c packet e from before ≡ given_from c packet e block last
