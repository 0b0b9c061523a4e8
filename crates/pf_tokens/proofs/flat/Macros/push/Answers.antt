use Rattle.std.proofs.Common.{List, ap, sym, ◌∙◌}
use Rattle.pf_tokens.specs.declared.flat.Macro.{Macro}
use Rattle.pf_tokens.specs.Latest.{latest}
use Rattle.pf_tokens.proofs.Uses.{number_at-more}
use Rattle.pf_tokens.proofs.flat.Macros.push.Goals as goal

pub invariant_of-self-in-Ok : goal.invariant_of-self-in-Ok
invariant_of-self-in-Ok c = λ name.
    number_at-more c.self.inside.definitions c.args.definition c.self.inside.numbers c.insert.new.self c.in_ok-name.name c.len-number.result (c.in_ok-name.ensures.items ∙ c.as_slice.ensures) c.len-number.ensures c.self.invariant c.in-Ok.ensures.updates name
    ∙ ap (λ (ms : List Macro). latest name ms) (sym c.in_ok-push.ensures.ok)
