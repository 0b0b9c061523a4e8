use Rattle.std.proofs.Common.{◌∙◌, Some, sym}
use Rattle.pf_trie.specs.Tries.{IsDraft}
use Rattle.pf_table.proofs.TrieSigns.{in_v4, in_v6}
use Rattle.pf_table.proofs.drafts.Drafts.with_sign.Goals as goal

pub returns-in_ok-with-in-V4 : goal.returns-in_ok-with-in-V4
returns-in_ok-with-in-V4 c = λ es are. in_v4 IsDraft es c.args.net (Some c.args.sign) c.prefix_of-prefix.result c.args.self.v4 c.args.self.v6
    c.in_ok-with-in-V4.field-0 c.prefix_of-prefix.ensures (sym c.family.ensures.family ∙ c.in-V4.is) (λ s has. c.in_ok-with-in-V4.ensures s has) are

pub returns-in_ok-with-in-V6 : goal.returns-in_ok-with-in-V6
returns-in_ok-with-in-V6 c = λ es are. in_v6 IsDraft es c.args.net (Some c.args.sign) c.prefix_of-prefix.result c.args.self.v4 c.args.self.v6
    c.in_ok-with-in-V6.field-0 c.prefix_of-prefix.ensures (sym c.family.ensures.family ∙ c.in-V6.is) (λ s has. c.in_ok-with-in-V6.ensures s has) are
