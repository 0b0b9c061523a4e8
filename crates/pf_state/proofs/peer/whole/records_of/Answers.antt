use Rattle.std.proofs.Common.{◌∙◌, sym, ap, arith}
use Rattle.pf_state.proofs.Grouped.{bad_here, one_more_record}
use Rattle.pf_state.proofs.peer.whole.records_of.Goals as goal

pub returns-in-Err-Fault : goal.returns-in-Err-Fault
returns-in-Err-Fault g c =
    let none = rw c.in-Err-Fault.field-0-is at c.in-Err-Fault.ensures in
    bad_here g.T.PeerRecord.reading c.args.count c.loop.counter c.loop.rest.now c.loop.records.items _ c.loop-test.true (ap g.T.PeerRecord.reading (sym c.split_at.ensures.front) ∙ none) c.loop.invariant.reported

pub loop-preserved : goal.loop-preserved
loop-preserved g c =
    let reading = g.T.PeerRecord.reading in
    record {
      reported = one_more_record reading c.args.count c.loop.counter c.loop.rest.now _ c.loop.records.items _ c.in-Ok.read _ c.loop-test.true
          (ap reading (sym c.split_at.ensures.front) ∙ c.in-Ok.ensures) c.in_ok-push-in-Ok.ensures.items c.split_at.ensures.back c.loop.invariant.reported;
      enough = omega (arith, c.loop.invariant.enough, c.loop-test.true, c.split_at.ensures.back_len);
    }
