use Rattle.std.proofs.lemmas.Result.{err_from_is_err_and}
use Rattle.pf_conf.specs.Rulesets.{with_braces}
use Rattle.pf_sources.proofs.Steps.{each_on, each_stops, each_ends}
use Rattle.pf_conf.proofs.found.Found.add_all_braces.Goals as goal

pub loop-braces-preserved : goal.loop-braces-preserved
loop-braces-preserved c =
    each_on (with_braces c.args.tree.now) c.args.all.now c.loop-braces.braces-index c.braces-item.result (c.loop-braces.paths, c.loop-braces.self) _ _ c.loop-braces.invariant c.loop-braces-test.true c.braces-item.is c.in_ok-add_braces.ensures

pub returns-in_err-add_braces : goal.returns-in_err-add_braces
returns-in_err-add_braces c =
    let p = err_from_is_err_and c.from_residual.result c.from_residual.ensures.1 in
    rw (p.1, p.2)
    (each_stops (with_braces c.args.tree.now) c.args.all.now c.loop-braces.braces-index c.braces-item.result (c.loop-braces.paths, c.loop-braces.self) _ _ c.in_err-add_braces.field-0.0 _ c.loop-braces.invariant c.loop-braces-test.true c.braces-item.is c.in_err-add_braces.ensures)

pub returns : goal.returns
returns c = each_ends (with_braces c.args.tree.now) c.args.all.now c.loop-braces.braces-index (c.loop-braces.paths, c.loop-braces.self) _ c.loop-braces.invariant c.loop-braces-test.false
