use Rattle.pf_form.specs.Laws.Form.Texts.{one_refusal}
use Rattle.pf_line.proofs.laws.a_refusal_is_one.Goals as goal

pub returns : goal.returns
returns c = one_refusal _ _
