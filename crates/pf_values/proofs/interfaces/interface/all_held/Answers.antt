use Rattle.std.proofs.Common.{◌∙◌, sym, arith}
use Rattle.pf_values.proofs.InterfacesSteps.{held_next, held_none}
use Rattle.pf_values.proofs.interfaces.interface.all_held.Goals as goal

pub returns-in-None : goal.returns-in-None
returns-in-None c =
    sym (held_none c.args.parts.now c.loop-part.part-index _ c.loop-part.all _ c.loop-part.invariant (omega arith) (sym c.in_ok-held.ensures
    ∙ c.in-None.is))

pub loop-part-preserved : goal.loop-part-preserved
loop-part-preserved c =
    rw c.in_ok-push-in-Some.ensures.ok
    (held_next c.args.parts.now c.loop-part.part-index _ c.loop-part.all c.in-Some.held _ c.loop-part.invariant (omega arith)
    (sym c.in_ok-held.ensures ∙ c.in-Some.is))
