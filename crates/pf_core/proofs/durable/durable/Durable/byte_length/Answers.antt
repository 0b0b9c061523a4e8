use Rattle.std.proofs.Common.{List, ap, ◌∙◌}
use Rattle.pf_form.specs.Bytes.Forms.{length_of}
use Rattle.pf_anchor.specs.{Configurations.PlainConfig, Forms.config_length}
use Rattle.pf_state.specs.{Layouts.States.{states_form, plain_states}, States.PlainState}
use Rattle.pf_core.specs.Durable.Changes.{PlainDurable}
use Rattle.pf_core.proofs.Ticked.{durable_long}
use Rattle.pf_core.proofs.durable.durable.Durable.byte_length.Goals as goal

pub returns-clause-exact : goal.returns-clause-exact
returns-clause-exact c = λ version has.
    durable_long version c.args.self.now c.byte_length.result c.states_length.result has
    (λ labels. c.byte_length.ensures.exact version labels ∙ ap (λ (x : PlainConfig). config_length version x) (c.deref.ensures ∙ ap (λ (d : PlainDurable). d.config) c.self.view_is))
    (c.states_length.ensures version ∙ ap (λ (ss : List PlainState). length_of (states_form version) (plain_states ss)) (c.deref-2.ensures ∙ ap (λ (d : PlainDurable). d.states) c.self.view_is))
