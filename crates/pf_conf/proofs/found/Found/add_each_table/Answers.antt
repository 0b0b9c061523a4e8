use Rattle.std.proofs.lemmas.Result.{err_from_is_err_and}
use Rattle.pf_conf.specs.Filling.{with_sources}
use Rattle.pf_sources.proofs.Steps.{each_on, each_stops, each_ends}
use Rattle.pf_conf.proofs.found.Found.add_each_table.Goals as goal

pub loop-line-preserved : goal.loop-line-preserved
loop-line-preserved c =
    each_on (with_sources c.args.files.now c.args.path.now) c.args.tables.now c.loop-line.line-index c.line-item.result c.loop-line.self _ _ c.loop-line.invariant c.loop-line-test.true c.line-item.is c.in_ok-add_sources.ensures

pub returns-in_err-add_sources : goal.returns-in_err-add_sources
returns-in_err-add_sources c =
    let p = err_from_is_err_and c.from_residual.result c.from_residual.ensures.1 in
    rw (p.1, p.2)
    (each_stops (with_sources c.args.files.now c.args.path.now) c.args.tables.now c.loop-line.line-index c.line-item.result c.loop-line.self _ _ c.in_err-add_sources.field-0.0 _ c.loop-line.invariant c.loop-line-test.true c.line-item.is c.in_err-add_sources.ensures)

pub returns : goal.returns
returns c = each_ends (with_sources c.args.files.now c.args.path.now) c.args.tables.now c.loop-line.line-index c.loop-line.self _ c.loop-line.invariant c.loop-line-test.false
