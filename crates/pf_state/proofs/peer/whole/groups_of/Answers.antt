use Rattle.std.proofs.{Common.sym, lemmas.Result.err_from_is_err_and}
use Rattle.pf_state.proofs.Grouped.{fault_in, all_groups, none_left, some_left}
use Rattle.pf_state.proofs.peer.whole.groups_of.Goals as goal

pub returns-in_err-group-clause-fault : goal.returns-in_err-group-clause-fault
returns-in_err-group-clause-fault c =
    let p = err_from_is_err_and c.from_residual.result c.from_residual.ensures.1 in
    rw (p.1, p.2) (fault_in c.args.bytes.now c.loop-rest.rest.now c.loop-rest.groups.items c.in_err-group.field-0.0 c.loop-rest.invariant.bad (some_left c.loop-rest.rest.now (sym c.loop-rest-test.ensures)) c.in_err-group.ensures.given)

pub returns-clause-found : goal.returns-clause-found
returns-clause-found c = rw c.new.ensures (all_groups c.args.bytes.now c.loop-rest.rest.now c.loop-rest.groups.items c.loop-rest.invariant.good (none_left c.loop-rest.rest.now (sym c.loop-rest-test.ensures)))
