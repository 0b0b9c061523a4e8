use Rattle.std.proofs.{Common.{sym, ◌∙◌}, lemmas.Result.err_from_is_err_and}
use Rattle.pf_parse.proofs.{Turns.stops_at, InTurn.{skips_on, skips_stop, skips_end}}
use Rattle.pf_parse.proofs.parser.Parser.skip_each.Goals as goal

pub loop-interface-preserved : goal.loop-interface-preserved
loop-interface-preserved c =
    skips_on c.args.interfaces.now c.loop-interface.interface-index c.interface-item.result c.loop-interface.self _ c.loop-interface-test.true c.interface-item.is c.in_ok-skip_one.ensures
    ∙ c.loop-interface.invariant

pub returns-in_err-skip_one : goal.returns-in_err-skip_one
returns-in_err-skip_one c =
    let p = err_from_is_err_and c.from_residual.result c.from_residual.ensures.1 in
    rw (p.1, p.2)
    (stops_at (Unit {0}) (Unit {0}) c.in_err-skip_one.field-0.0 _ _ _ _ c.in_err-skip_one.ensures
    (λ d is. sym c.loop-interface.invariant ∙ skips_stop c.args.interfaces.now c.loop-interface.interface-index c.interface-item.result c.loop-interface.self d c.loop-interface-test.true c.interface-item.is is))

pub returns : goal.returns
returns c =
    sym c.loop-interface.invariant ∙ skips_end c.args.interfaces.now c.loop-interface.interface-index c.loop-interface.self c.loop-interface-test.false
