-- A match with the tables' answers given: one for the source, and one for the destination (pf.conf(5), PARAMETERS).
use Rattle.std.specs.{Prelude.{◌≡◌, ℕ, ◌+◌, ◌*◌, ◌==◌, ◌&&◌, ◌||◌, Bool, true, false, List, take, drop, slice_get, Option, None, Some}, Str.bytes_eq}
use Rattle.pf_addr.specs.declared.addr.Addr.{Addr}
use Rattle.pf_addr.specs.Address.{family_of, same_family}
use Rattle.pf_rule.specs.declared.host.host.Host.{Host}
use Rattle.pf_rule.specs.declared.host.host.Host.TheVariants.{Any, Net, Table}
use Rattle.pf_rule.specs.declared.{rule.Effect.Effect, rule.Effect.TheVariants.{Decide, Evaluate}}
use Rattle.pf_rule.specs.{Value.Tests.{holds, same_direction}, Value.Ports.port_holds, Host.Hosts.{TableTest, host_holds}, Packets.PlainPacket, Rules.{PlainRule, matches}}
use Rattle.pf_lanes.specs.Masks.{is_set}

-- tables that all give this answer
abbrev pub answered : Bool → TableTest
answered answer name a = answer

-- the rule's tests, its hosts by the answers for its source and its destination, before `!` inverts them
abbrev pub matches_answered : Bool → Bool → PlainRule → PlainPacket → Bool
matches_answered source destination r p =
    holds r.direction (λ d. same_direction d p.direction)
    && holds r.interface (λ name. bytes_eq name p.interface)
    && holds r.family (λ f. same_family f (family_of p.source))
    && holds r.protocol (λ n. n == p.protocol)
    && (host_holds (answered source) r.source p.source
    && holds r.source_port (λ t. port_holds t p.source_port)
    && host_holds (answered destination) r.destination p.destination
    && holds r.destination_port (λ t. port_holds t p.destination_port))

-- a rule's bit by a test; unset if there is no rule
abbrev pub bit_by : (PlainRule → Bool) → Option PlainRule → Bool
bit_by test None = false
bit_by test (Some r) = test r

-- whether rule i of these exists and matches, given bits i of the two masks of answers
abbrev pub answered_bit : Option PlainRule → PlainPacket → ℕ → ℕ → ℕ → Bool
answered_bit o p sources destinations i = bit_by (λ r. matches_answered (is_set sources i) (is_set destinations i) r p) o

-- the eight rules from a place on, or fewer at the end
abbrev pub eight_from : ℕ → List PlainRule → List PlainRule
eight_from at rules = take 8 (drop at rules)

-- the same for rule i of a block of eight
abbrev pub block_bit : List PlainRule → PlainPacket → ℕ → ℕ → ℕ → ℕ → Bool
block_bit rules p block sources destinations i = answered_bit (slice_get rules (8 * block + i)) p sources destinations i

-- whether rule i of a block of eight exists and matches, by what tables say
abbrev pub block_match : TableTest → List PlainRule → PlainPacket → ℕ → ℕ → Bool
block_match says rules p block i = bit_by (λ r. matches says r p) (slice_get rules (8 * block + i))

-- an anchor rule
abbrev pub is_anchor : Effect → Bool
is_anchor (Decide a) = false
is_anchor (Evaluate r) = true

-- a match of this rule needs a closer look: it may end the evaluation, or leads to other rulesets
abbrev pub stops : PlainRule → Bool
stops r = r.quick || is_anchor r.effect

-- the same for rule i of a block of eight
abbrev pub block_mark : (PlainRule → Bool) → List PlainRule → ℕ → ℕ → Bool
block_mark test rules block i = bit_by test (slice_get rules (8 * block + i))

-- if the host is a table, the answer is what tables say
abbrev pub AnswersFor : TableTest → Host → Addr → Bool → Type 0
AnswersFor says Any a answer = Unit {0}
AnswersFor says (Net n negated) a answer = Unit {0}
AnswersFor says (Table name negated) a answer = answer ≡ says name a
