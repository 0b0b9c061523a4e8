use Rattle.std.proofs.Common.{rules}
use Rattle.pf_trie.proofs.Bits.{none_of_zero, place_within, is_first}
use Rattle.pf_trie.proofs.signs.Signs.longest.Goals as goal

pub returns-then-any-eq0 : goal.returns-then-any-eq0
returns-then-any-eq0 c = λ k. none_of_zero c.args.self.plain c.args.self.negated k c.if-any-eq0.true

pub overflow_shr-result : goal.overflow_shr-result
overflow_shr-result c = place_within c.args.self.plain c.args.self.negated (search rules) (search rules) c.if-any-eq0.false

pub returns : goal.returns
returns c = is_first c.args.self.plain c.args.self.negated (search rules) (search rules) c.if-any-eq0.false
