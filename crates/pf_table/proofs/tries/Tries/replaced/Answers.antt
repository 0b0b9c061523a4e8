use Rattle.std.proofs.Common.{◌∙◌, sym}
use Rattle.pf_table.proofs.TrieSigns.{in_v4, in_v6}
use Rattle.pf_table.proofs.tries.Tries.replaced.Goals as goal

pub returns-in_ok-replaced-in-V4 : goal.returns-in_ok-replaced-in-V4
returns-in_ok-replaced-in-V4 g c = λ es are. in_v4 g.T.PrefixIndex.has es c.args.net c.args.sign c.prefix_of-prefix.result c.args.self.v4 c.args.self.v6
    c.in_ok-replaced-in-V4.field-0 c.prefix_of-prefix.ensures (sym c.family.ensures.family ∙ c.in-V4.is) (λ s has. c.in_ok-replaced-in-V4.ensures s has) are

pub returns-in_ok-replaced-in-V6 : goal.returns-in_ok-replaced-in-V6
returns-in_ok-replaced-in-V6 g c = λ es are. in_v6 g.T.PrefixIndex.has es c.args.net c.args.sign c.prefix_of-prefix.result c.args.self.v4 c.args.self.v6
    c.in_ok-replaced-in-V6.field-0 c.prefix_of-prefix.ensures (sym c.family.ensures.family ∙ c.in-V6.is) (λ s has. c.in_ok-replaced-in-V6.ensures s has) are
