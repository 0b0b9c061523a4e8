use Rattle.std.proofs.Common.{◌≡◌, Ok}
use Rattle.pf_form.specs.{Form.Forms.read_all, Form.Words.words_of}
use Rattle.pf_rule.specs.{Rules.PlainRule, RuleGrammar.rule, RuleText.rule_text}
use Rattle.pf_conf.proofs.Kept.{rules_are_read}
use Rattle.pf_conf.proofs.laws.printed_rules_are_read_again.Goals as goal

pub returns : goal.returns
returns c =
    rules_are_read (λ (r : PlainRule). read_all rule (words_of (rule_text r)) ≡ Ok (Ok r))
    (λ ws r from. c.what_is_written_is_read_again.ensures.read r (c.what_is_spelled_is_kept.ensures.rules r ws ((c.rules_and_packets_are_read_as_spelled.ensures.rules ws (Ok r)).0 from)))
