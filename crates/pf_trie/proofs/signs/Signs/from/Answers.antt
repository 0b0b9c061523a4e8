use Rattle.std.proofs.Common.{◌∙◌, rules}
use Rattle.pf_trie.proofs.Bits.{from_signs, none_from}
use Rattle.pf_trie.proofs.signs.Signs.from.Goals as goal

pub returns-then-least-ge128 : goal.returns-then-least-ge128
returns-then-least-ge128 c = λ k. c.none.ensures k ∙ none_from c.args.self.plain c.args.self.negated c.args.least k (search rules) (search rules) c.if-least-ge128.true

pub returns : goal.returns
returns c = λ k. from_signs c.args.self.plain c.args.self.negated c.args.least k (search rules) (search rules)
