-- The one text of a rule: its words separated by one space, as pfctl(8) shows rules. This project's own are: a port that equals a number
-- as `port = n`, a reference in quotes, IPv6 in eight groups, no `flags`, and the `!` separate from what it negates.
use Rattle.std.specs.{Prelude.{ℕ, Bool, true, false, List, [], ◌∷◌, ◌++◌, Option, Some, None, codes}, List.join_with_byte}
use Rattle.pf_addr.specs.Path.References.{reference_text, quoted}
use Rattle.pf_form.specs.Form.Words.{Word}
use Rattle.pf_rule.specs.declared.{rule.Effect.Effect, rule.Effect.TheVariants.{Decide, Evaluate}, rule.Action.TheVariants.{Pass, Block}}
use Rattle.pf_rule.specs.{Value.Tests.{direction_words, interface_words, family_words, protocol_words}, Host.Ends.ends_words, Rules.PlainRule}

abbrev pub effect_word : Effect → Word
effect_word (Decide (Pass keeps)) = codes "pass"
effect_word (Decide Block) = codes "block"
effect_word (Evaluate r) = codes "anchor"

abbrev pub reference_words : Effect → List Word
reference_words (Decide a) = []
reference_words (Evaluate r) = quoted (reference_text r) ∷ []

abbrev pub quick_words : Bool → List Word
quick_words true = codes "quick" ∷ []
quick_words false = []

abbrev pub state_words : Effect → List Word
state_words (Decide (Pass true)) = codes "keep" ∷ codes "state" ∷ []
state_words (Decide (Pass false)) = codes "no" ∷ codes "state" ∷ []
state_words (Decide Block) = []
state_words (Evaluate r) = []

abbrev pub label_words : Option (List ℕ) → List Word
label_words None = []
label_words (Some label) = codes "label" ∷ quoted label ∷ []

abbrev pub before_label : PlainRule → List Word
before_label r =
    effect_word r.effect ∷ (reference_words r.effect ++ (direction_words r.direction ++ (quick_words r.quick ++ (interface_words r.interface
    ++ (family_words r.family ++ (protocol_words r.protocol
    ++ (ends_words (r.source, r.source_port) (r.destination, r.destination_port) ++ state_words r.effect)))))))

abbrev pub canonical : PlainRule → List Word
canonical r = before_label r ++ label_words r.label

-- words separated by a space (32)
unfoldable pub rule_text : PlainRule → List ℕ
rule_text r = join_with_byte 32 (canonical r)
