-- The grammar of a rule (pf.conf(5), GRAMMAR).
use Rattle.std.specs.{Prelude.{◌≡◌, ℕ, Bool, true, false, List, codes, Option, Some, None, Result, Ok, Err, if◌then◌else◌}, Option.option_and_then}
use Rattle.std.proofs.Common.{refl}
use Rattle.pf_addr.specs.{Path.References.{PlainReference, refers, reference_of}, Address.same_family, Reading.{part_at, pieces_at, v4_at, address_at}}
use Rattle.pf_form.specs.Form.{Readers.if_there, Forms.{Form, word, nothing, key, or, pair, pair_by, making, is_decided}}
use Rattle.pf_addr.specs.declared.addr.Family.{Family}
use Rattle.pf_rule.specs.declared.{rule.Action.TheVariants.{Pass, Block}, rule.Effect.Effect, rule.Effect.TheVariants.{Decide, Evaluate}, rule_words.RuleStart.RuleStart, value.direction.Direction.Direction, host.host.Host.Host, fault.Mistake.Mistake, fault.Mistake.TheVariants.{MixedFamily, PortNeedsProto}}
use Rattle.pf_rule.specs.declared.rule_words.RuleStart.TheVariants as openings
use Rattle.pf_rule.specs.{Value.Values.a_label, Value.Tests.{direction, interface, family, protocol}, Value.Ports.{port, port_test, order_or_range, compared, ranged, range_end, ports_fit}, Host.Hosts.{a_negated_host, a_host, host, host_family}, Host.Ends.{End, end, destination, ends}, Rules.PlainRule}

-- what an anchor rule names
abbrev pub a_reference : Form PlainReference
a_reference = word (record { of = reference_of; sample = codes "a"; value = refers (codes "a") false; takes = refl })

-- "pass" | "block" ["drop"] | "anchor" reference
unfoldable pub opening : Form RuleStart
opening =
    or (codes "pass") (nothing openings.Pass)
    (or (codes "block") (or (codes "drop") (nothing openings.Block) (nothing openings.Block))
    (key (codes "anchor") (making openings.Anchor a_reference)))

abbrev pub passes : RuleStart → Bool
passes openings.Pass = true
passes openings.Block = false
passes (openings.Anchor r) = false

-- ["keep" "state" | "no" "state"], if the rule passes; it keeps state if nothing is said
unfoldable pub state : Bool → Form Bool
state true = or (codes "keep") (key (codes "state") (nothing true)) (or (codes "no") (key (codes "state") (nothing false)) (nothing true))
state false = nothing false

-- whether a rule that begins so decides; only such a rule may have a label
abbrev pub decides : RuleStart → Bool
decides openings.Pass = true
decides openings.Block = true
decides (openings.Anchor r) = false

-- ["label" name], if the rule decides
unfoldable pub label : Bool → Form (Option (List ℕ))
label true = or (codes "label") (making (λ l. Some l) a_label) (nothing None)
label false = nothing None

abbrev pub effect_of : RuleStart → Bool → Effect
effect_of openings.Pass keeps = Decide (Pass keeps)
effect_of openings.Block keeps = Decide Block
effect_of (openings.Anchor r) keeps = Evaluate r

-- how a rule begins, its tests, and whether it keeps state
abbrev pub Unlabelled : Type 0
Unlabelled = RuleStart × (Option Direction × (Bool × (Option (List ℕ) × (Option Family × (Option ℕ × ((End × End) × Bool))))))

-- with the family as it is written
abbrev pub rule_with : Unlabelled × Option (List ℕ) → PlainRule
rule_with ((o, (d, (q, (i, (f, (p, ((s, t), keeps))))))), l) =
    record {
      effect = effect_of o keeps;
      label = l;
      direction = d;
      quick = q;
      interface = i;
      family = f;
      protocol = p;
      source = s.0;
      source_port = s.1;
      destination = t.0;
      destination_port = t.1;
    }

abbrev pub unlabelled_words : Form Unlabelled
unlabelled_words =
    pair_by opening passes (λ passes.
    pair direction (pair (if_there (codes "quick")) (pair interface (pair family (pair protocol (pair ends (state passes)))))))

-- the label comes after all else
abbrev pub rule_words : Form PlainRule
rule_words = making rule_with (pair_by unlabelled_words (λ x. decides x.0) label)

-- ---- after the last word: the families that are written agree, and ports are tested only with a protocol that has them

-- The one family of two, either of which may be missing; none if they differ.
abbrev pub agreed : Option Family → Option Family → Option (Option Family)
agreed None g = Some g
agreed (Some f) None = Some (Some f)
agreed (Some f) (Some g) = if same_family f g then Some (Some f) else None

-- A rule has the family that is written or that of a host's network.
abbrev pub one_family : Option Family → Host → Host → Option (Option Family)
one_family written source destination = option_and_then (λ f. agreed f (host_family destination)) (agreed written (host_family source))

-- given its one family, and whether its ports may be tested; different families are the first mistake
abbrev pub agreeing_with : PlainRule → Option (Option Family) → Bool → Result PlainRule Mistake
agreeing_with r None fit = Err MixedFamily
agreeing_with r (Some f) false = Err PortNeedsProto
agreeing_with r (Some f) true = Ok (record r { family = f })

abbrev pub agreeing : PlainRule → Result PlainRule Mistake
agreeing r = agreeing_with r (one_family r.family r.source r.destination) (ports_fit r.protocol r.source_port r.destination_port)

-- The words of a rule, or of one whose words are each good but make a mistake.
unfoldable pub rule : Form (Result PlainRule Mistake)
rule = making agreeing rule_words

-- One word of look-ahead suffices.
pub rule_decided : is_decided rule ≡ true
unfolding rule opening direction interface family protocol a_negated_host a_host host port port_test order_or_range compared ranged
    range_end end destination ends state label part_at pieces_at v4_at address_at
rule_decided = refl
