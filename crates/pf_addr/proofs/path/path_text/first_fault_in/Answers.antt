use Rattle.std.proofs.Common.{sym, ◌∙◌, None, Some}
use Rattle.pf_addr.proofs.PathTexts.{fault_some, fault_none}
use Rattle.pf_addr.proofs.path.path_text.first_fault_in.Goals as goal

pub returns-in-Some-component_fault_in : goal.returns-in-Some-component_fault_in
returns-in-Some-component_fault_in c =
    sym (c.loop-slash.invariant ∙ fault_some c.loop-slash.rest.now c.in-Some.slash (Some c.in-Some-component_fault_in.kind) (sym c.in-Some.ensures.place) (sym c.in-Some-component_fault_in.ensures))

pub loop-slash-preserved : goal.loop-slash-preserved
loop-slash-preserved c =
    c.loop-slash.invariant ∙ fault_some c.loop-slash.rest.now c.in-Some.slash None (sym c.in-Some.ensures.place) (sym c.in_default-component_fault_in.ensures)

pub returns : goal.returns
returns c = c.component_fault_in-2.ensures ∙ sym (c.loop-slash.invariant ∙ fault_none c.loop-slash.rest.now (sym c.in_default.ensures.place))
