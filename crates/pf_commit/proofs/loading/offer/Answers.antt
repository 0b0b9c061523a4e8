use Rattle.std.proofs.Common.{rules}
use Rattle.pf_conf.proofs.CommitTexts.{sent_nothing, cut_in_two, one_more_sent, all_sent, stopped_within, sent_front, whole_front}
use Rattle.pf_commit.proofs.loading.offer.Goals as goal

pub loop-left-init : goal.loop-left-init
loop-left-init g c = sent_nothing (g.W.Write.contents c.args.server.now) c.args.lines.now

pub returns-in_err-send : goal.returns-in_err-send
returns-in_err-send g c =
    let some = c.split_at.result.0.now in
    let rest = c.split_at.result.1.now in
    let left = c.loop-left.left.now in
    sent_front c.from_residual.result _ (g.W.Write.contents c.args.server.now) (g.W.Write.contents c.send.new.server) c.args.lines.now c.from_residual.ensures.1
    (stopped_within (g.W.Write.contents c.args.server.now) (g.W.Write.contents c.loop-left.server) (g.W.Write.contents c.send.new.server) c.args.lines.now left some rest
    (cut_in_two left some rest c.length_of_some.result c.split_at.ensures.front c.split_at.ensures.back) c.loop-left.invariant c.in_err-send.ensures)

pub returns-in_err-heed : goal.returns-in_err-heed
returns-in_err-heed g c =
    let some = c.split_at.result.0.now in
    let rest = c.split_at.result.1.now in
    let left = c.loop-left.left.now in
    sent_front c.from_residual-in_err-heed.result _ (g.W.Write.contents c.args.server.now) (g.W.Write.contents c.send.new.server) c.args.lines.now c.from_residual-in_err-heed.ensures.1
    (stopped_within (g.W.Write.contents c.args.server.now) (g.W.Write.contents c.loop-left.server) (g.W.Write.contents c.send.new.server) c.args.lines.now left some rest
    (cut_in_two left some rest c.length_of_some.result c.split_at.ensures.front c.split_at.ensures.back) c.loop-left.invariant
    (whole_front (g.W.Write.contents c.loop-left.server) (g.W.Write.contents c.send.new.server) some c.in_ok-send.ensures))

pub loop-left-preserved : goal.loop-left-preserved
loop-left-preserved g c =
    let some = c.split_at.result.0.now in
    let rest = c.split_at.result.1.now in
    let left = c.loop-left.left.now in
    one_more_sent (g.W.Write.contents c.args.server.now) (g.W.Write.contents c.loop-left.server) (g.W.Write.contents c.send.new.server) c.args.lines.now left some rest
    (cut_in_two left some rest c.length_of_some.result c.split_at.ensures.front c.split_at.ensures.back) c.loop-left.invariant c.in_ok-send.ensures

pub returns : goal.returns
returns g c = all_sent (g.W.Write.contents c.args.server.now) (g.W.Write.contents c.loop-left.server) c.args.lines.now c.loop-left.left.now (search rules) c.loop-left.invariant
