use Rattle.std.proofs.Common.{arith}
use Rattle.std.proofs.lemmas.Result.{err_from_is_err_and}
use Rattle.pfd_conf.proofs.Given.{given_on, given_stops}
use Rattle.pfd_conf.proofs.taking.given_interfaces.Goals as goal

pub loop-text-preserved : goal.loop-text-preserved
loop-text-preserved c =
    given_on c.args.texts.now c.loop-text.text-index _ c.loop-text.interfaces c.push_given.new.interfaces _ c.loop-text.invariant
    (omega arith) c.in_ok-push_given.ensures

pub returns-in_err-push_given : goal.returns-in_err-push_given
returns-in_err-push_given c =
    let p = err_from_is_err_and c.from_residual.result c.from_residual.ensures.1 in
    rw (p.1, p.2)
    (given_stops c.args.texts.now c.loop-text.text-index _ c.loop-text.interfaces c.in_err-push_given.field-0.0 _
    c.loop-text.invariant (omega arith) c.in_err-push_given.ensures)
