-- A rule's text, part by part.
use Rattle.std.proofs.Common.{◌≡◌, ℕ, List, ◌++◌, ap, ◌∙◌, append_assoc}
use Rattle.pf_rule.specs.{Value.Spacing.{spaced, first_spaced, spaced-append}, Value.Tests.{direction_words, interface_words, family_words, protocol_words}, Host.Ends.ends_words, Rules.PlainRule, RuleText.{effect_word, reference_words, quick_words, state_words, label_words, rule_text}}

pub in_order : (r : PlainRule) → rule_text r ≡ effect_word r.effect
    ++ (spaced (reference_words r.effect) ++ (spaced (direction_words r.direction)
    ++ (spaced (quick_words r.quick) ++ (spaced (interface_words r.interface) ++ (spaced (family_words r.family)
    ++ (spaced (protocol_words r.protocol) ++ (spaced (ends_words (r.source, r.source_port) (r.destination, r.destination_port))
    ++ (spaced (state_words r.effect) ++ spaced (label_words r.label)))))))))
unfolding rule_text
in_order r = first_spaced (effect_word r.effect) _ ∙ ap (λ (t : List ℕ). effect_word r.effect ++ t) (simp (spaced-append, append_assoc))
