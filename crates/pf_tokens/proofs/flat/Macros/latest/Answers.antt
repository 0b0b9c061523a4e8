use Rattle.std.proofs.Common.{List, ap, ◌∙◌}
use Rattle.pf_tokens.specs.declared.flat.Macro.{Macro}
use Rattle.pf_tokens.specs.Latest.{latest}
use Rattle.pf_tokens.proofs.Uses.{latest-below}
use Rattle.pf_tokens.proofs.flat.Macros.latest.Goals as goal

pub returns-clause-bound : goal.returns-clause-bound
returns-clause-bound c =
    latest-below c.args.name.now c.args.self.now c.copied.result (c.copied.ensures ∙ c.get.ensures.value ∙ c.self.invariant c.args.name.now ∙ ap (λ (ms : List Macro). latest c.args.name.now ms) c.self.view_is)
