use Rattle.std.proofs.Common.{rules}
use Rattle.pf_form.specs.Form.Words.{texts}
use Rattle.pf_rule.specs.RuleGrammar.{rule}
use Rattle.pf_rule.proofs.Kept.{rule_read_kept}
use Rattle.pf_rule.proofs.rule.Rule.read.Goals as goal

pub of-requires : goal.of-requires
unfolding rule
of-requires c = rule_read_kept (texts c.args.words.now.now) (texts c.read_label.new.words.now) _ (search rules)
