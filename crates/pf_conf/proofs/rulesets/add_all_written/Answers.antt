use Rattle.std.proofs.lemmas.Result.{err_from_is_err_and}
use Rattle.pf_conf.proofs.Written.{written_on, written_stops, written_end}
use Rattle.pf_conf.proofs.rulesets.add_all_written.Goals as goal

pub loop-written-preserved : goal.loop-written-preserved
loop-written-preserved c =
    written_on c.args.number c.args.all.now c.loop-written.written-index c.written-item.result c.loop-written.rules _ _ c.loop-written.invariant c.loop-written-test.true c.written-item.is c.in_ok-add_written.ensures

pub returns-in_err-add_written : goal.returns-in_err-add_written
returns-in_err-add_written c =
    let p = err_from_is_err_and c.from_residual.result c.from_residual.ensures.1 in
    rw (p.1, p.2)
    (written_stops c.args.number c.args.all.now c.loop-written.written-index c.written-item.result c.loop-written.rules _ _ c.in_err-add_written.field-0.0 _ c.loop-written.invariant c.loop-written-test.true c.written-item.is c.in_err-add_written.ensures)

pub returns : goal.returns
returns c = written_end c.args.number c.args.all.now c.loop-written.written-index c.loop-written.rules _ c.loop-written.invariant c.loop-written-test.false
