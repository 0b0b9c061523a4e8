use Rattle.std.proofs.Common.{rules}
use Rattle.pf_parse.proofs.Rules.{rule_kept}
use Rattle.pf_parse.proofs.parser.Parser.rule_of.Goals as goal

pub returns : goal.returns
returns c =
    rule_kept c.args.start c.args.word.now c.args.place c.args.self.now c.direction-direction.new.self c.log_and_quick.new.self c.tests_and_options.new.self c.end_line.new.self
    c.keep_rule-2.new.self c.direction-direction.result c.in_ok-quick.quick c.in_ok-tests.tests c.in_ok-tests.closing c.in_ok-opening.opening c.in_ok-product.product _ c.keep_rule-2.result
    c.direction-direction.ensures c.in_ok-quick.ensures c.in_ok-tests.ensures c.in_ok-end_line.ensures c.in_ok-opening.ensures c.in_ok-product.ensures c.keep_rule-2.ensures (search rules)
