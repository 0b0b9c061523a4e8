use Rattle.std.proofs.Common.{refl, rules}
use Rattle.pf_trie.proofs.Cuts.{is_apart}
use Rattle.pf_trie.proofs.prefix.apart.Goals as goal

pub returns : goal.returns
returns c = is_apart c.args.one c.args.other (search rules) (search rules) _ refl
