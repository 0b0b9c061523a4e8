use Rattle.pf_trie.proofs.Bits.{below_value}
use Rattle.pf_trie.proofs.signs.Signs.below.Goals as goal

pub returns : goal.returns
returns c = λ i. record { plain = below_value c.args.self.plain c.args.most c.requires i; negated = below_value c.args.self.negated c.args.most c.requires i }
