use Rattle.std.proofs.Common.{arith}
use Rattle.std.proofs.lemmas.Result.{err_from_is_err_and}
use Rattle.pf_lists.proofs.Turns.{way_taken, way_stops, ways_end}
use Rattle.pf_lists.proofs.rules.rules_of.Goals as goal

pub returns-in_err-rule : goal.returns-in_err-rule
returns-in_err-rule c =
    let p = err_from_is_err_and c.from_residual.result c.from_residual.ensures.1 in
    rw (p.1, p.2) (way_stops c.args.lists.now c.loop-number.number c.loop-number.rules c.in_err-rule.field-0.0 (omega arith) c.loop-number.invariant c.in_err-rule.ensures)

pub loop-number-preserved : goal.loop-number-preserved
loop-number-preserved c =
    rw c.in_ok-push_some.ensures (way_taken c.args.lists.now c.loop-number.number c.loop-number.rules c.in_ok-rule.rule (omega arith) c.loop-number.invariant c.in_ok-rule.ensures)

pub returns : goal.returns
returns c = ways_end c.args.lists.now c.loop-number.number c.loop-number.rules (omega arith) c.loop-number.invariant
