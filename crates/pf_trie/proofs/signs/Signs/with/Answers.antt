use Rattle.std.proofs.Common.{◌==◌, Bool, cond, Option, ap, ◌∙◌, rules}
use Rattle.pf_trie.specs.Signs.{sign_of}
use Rattle.pf_trie.proofs.Bits.{with_plain, with_negated, with_none}
use Rattle.pf_trie.proofs.signs.Signs.with.Goals as goal

pub returns-in-Some-true : goal.returns-in-Some-true
returns-in-Some-true c = λ k. with_negated c.args.self.plain c.args.self.negated c.args.free k (search rules) (search rules) c.requires
    ∙ ap (λ (o : Option Bool). cond (k == c.args.free) o (sign_of c.args.self k)) (search rules)

pub returns-in-Some-false : goal.returns-in-Some-false
returns-in-Some-false c = λ k. with_plain c.args.self.plain c.args.self.negated c.args.free k (search rules) (search rules) c.requires
    ∙ ap (λ (o : Option Bool). cond (k == c.args.free) o (sign_of c.args.self k)) (search rules)

pub returns-in-None : goal.returns-in-None
returns-in-None c = λ k. with_none c.args.self.plain c.args.self.negated c.args.free k (search rules) (search rules) c.requires
    ∙ ap (λ (o : Option Bool). cond (k == c.args.free) o (sign_of c.args.self k)) (search rules)
