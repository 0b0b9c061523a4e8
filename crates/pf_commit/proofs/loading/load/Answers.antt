use Rattle.std.proofs.Common.{arith}
use Rattle.pf_commit.proofs.Attempts.{none_tried, tried, tried_last, not_tried}
use Rattle.pf_commit.proofs.loading.load.Goals as goal

pub returns-in_err-names : goal.returns-in_err-names
returns-in_err-names g c = not_tried c.from_residual.result _ c.args.conf.now c.args.retries (g.W.Write.contents c.args.server.now) c.from_residual.ensures.1

pub tries-init : goal.tries-init
tries-init g c = none_tried c.args.conf.now (g.W.Write.contents c.args.server.now)

pub returns-then-not-is_busy : goal.returns-then-not-is_busy
returns-then-not-is_busy g c =
    tried_last c.attempt-done.result c.args.conf.now c.tries.counter c.args.retries (g.W.Write.contents c.args.server.now) (g.W.Write.contents c.tries.server) (g.W.Write.contents c.attempt-done.new.server) (omega arith) c.tries.invariant
    c.attempt-done.ensures

pub tries-preserved : goal.tries-preserved
tries-preserved g c =
    tried c.attempt-done.result c.args.conf.now c.tries.counter (g.W.Write.contents c.args.server.now) (g.W.Write.contents c.tries.server) (g.W.Write.contents c.attempt-done.new.server) (c.is_busy.ensures c.if-not-is_busy.false) c.tries.invariant c.attempt-done.ensures

pub returns : goal.returns
returns g c =
    tried_last c.attempt.result c.args.conf.now c.tries.counter c.args.retries (g.W.Write.contents c.args.server.now) (g.W.Write.contents c.tries.server) (g.W.Write.contents c.attempt.new.server) (omega arith) c.tries.invariant c.attempt.ensures
