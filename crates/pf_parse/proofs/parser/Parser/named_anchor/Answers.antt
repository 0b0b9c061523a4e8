use Rattle.std.proofs.Common.{rules}
use Rattle.pf_parse.proofs.Rules.{anchor_kept}
use Rattle.pf_parse.proofs.parser.Parser.named_anchor.Goals as goal

pub returns : goal.returns
returns c =
    anchor_kept c.args.place c.args.depth c.args.name c.args.self.now c.direction-direction.new.self c.takes_word-quick.new.self c.tests_and_options.new.self c.braces_or_line.new.self
    c.keep_rule.new.self c.direction-direction.result c.takes_word-quick.result c.in_ok-tests.tests c.in_ok-tests.closing c.in_ok-opening.opening c.in_ok-name.name c.as_slice.result.now
    c.in_ok-product.product _ c.keep_rule.result
    c.direction-direction.ensures c.takes_word-quick.ensures c.in_ok-tests.ensures c.in_ok-name.ensures c.as_slice.ensures c.in_ok-opening.ensures c.in_ok-product.ensures c.keep_rule.ensures (search rules)
