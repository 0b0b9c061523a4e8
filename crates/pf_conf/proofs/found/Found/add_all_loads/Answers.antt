use Rattle.std.proofs.lemmas.Result.{err_from_is_err_and}
use Rattle.pf_tokens.specs.declared.files.TheConstants.{READING_LIMIT}
use Rattle.pf_conf.proofs.Loads.{loads_on, loads_stop, loads_end}
use Rattle.pf_conf.proofs.found.Found.add_all_loads.Goals as goal

pub loop-number-preserved : goal.loop-number-preserved
loop-number-preserved c =
    loads_on c.args.files.now c.args.interfaces.now c.args.mode READING_LIMIT c.loop-number.number c.loop-number.self _ _
    c.loop-number.invariant c.loop-number-test.true c.in_ok-add_load_numbered.ensures

pub returns-in_err-add_load_numbered : goal.returns-in_err-add_load_numbered
returns-in_err-add_load_numbered c =
    let p = err_from_is_err_and c.from_residual.result c.from_residual.ensures.1 in
    rw (p.1, p.2)
    (loads_stop c.args.files.now c.args.interfaces.now c.args.mode READING_LIMIT c.loop-number.number c.loop-number.self _ _
    c.in_err-add_load_numbered.field-0.0 _ c.loop-number.invariant c.loop-number-test.true c.in_err-add_load_numbered.ensures)

pub returns : goal.returns
returns c = loads_end c.args.files.now c.args.interfaces.now c.args.mode READING_LIMIT c.loop-number.number c.loop-number.self _
    c.loop-number.invariant c.loop-number-test.false
