use Rattle.std.proofs.lemmas.Result.{err_from_is_err_and}
use Rattle.pf_sources.specs.Sources.{with_source}
use Rattle.pf_sources.proofs.Steps.{each_on, each_stops_giving, each_ends}
use Rattle.pf_sources.proofs.sources.gather.Goals as goal

pub loop-source-preserved : goal.loop-source-preserved
loop-source-preserved c =
    each_on (with_source c.args.files.now c.args.named) c.args.sources.now c.loop-source.source-index c.source-item.result c.loop-source.gathered _ _ c.loop-source.invariant c.loop-source-test.true c.source-item.is c.in_ok-add_source.ensures

pub returns-in_err-add_source : goal.returns-in_err-add_source
returns-in_err-add_source c =
    let p = err_from_is_err_and c.from_residual.result c.from_residual.ensures.1 in
    rw (p.1, p.2)
    (each_stops_giving (with_source c.args.files.now c.args.named) c.args.sources.now c.loop-source.source-index c.source-item.result c.loop-source.gathered _ c.in_err-add_source.field-0.0 _ c.loop-source.invariant c.loop-source-test.true c.source-item.is c.in_err-add_source.ensures)

pub returns : goal.returns
returns c = each_ends (with_source c.args.files.now c.args.named) c.args.sources.now c.loop-source.source-index c.loop-source.gathered _ c.loop-source.invariant c.loop-source-test.false
