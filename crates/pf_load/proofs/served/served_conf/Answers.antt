use Rattle.std.proofs.Common.{Ok}
use Rattle.pf_load.proofs.Asked.{asks_then, asks_failed}
use Rattle.pf_load.proofs.served.served_conf.Goals as goal

pub returns-in_err-ask : goal.returns-in_err-ask
returns-in_err-ask g c =
    let old = g.W.Write.contents c.args.server.now in
    let mid = g.W.Write.contents c.loop-number.server in
    let new = g.W.Write.contents c.ask.new.server in
    let r = c.from_residual-in_err-ask.result in
    asks_then {A = Unit {0}} tt r old mid new c.loop-number.invariant
    (asks_failed c.in_err-ask.field-0.0 r _ mid new c.from_residual-in_err-ask.ensures.1 c.in_err-ask.ensures)

pub loop-number-preserved : goal.loop-number-preserved
loop-number-preserved g c =
    asks_then {A = Unit {0}} tt (Ok tt) (g.W.Write.contents c.args.server.now) (g.W.Write.contents c.loop-number.server)
    (g.W.Write.contents c.ask.new.server)
    c.loop-number.invariant c.in_ok-ask.ensures
