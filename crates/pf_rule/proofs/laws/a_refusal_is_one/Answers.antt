use Rattle.pf_form.specs.Laws.Form.Texts.{one_refusal}
use Rattle.pf_rule.proofs.laws.a_refusal_is_one.Goals as goal

pub returns-clause-rules : goal.returns-clause-rules
returns-clause-rules c = one_refusal _ _

pub returns-clause-packets : goal.returns-clause-packets
returns-clause-packets c = one_refusal _ _
