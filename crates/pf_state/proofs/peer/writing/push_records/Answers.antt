use Rattle.std.proofs.{Common.arith, lemmas.Grind.common_steps}
use Rattle.pf_state.proofs.Appended.{each_of, one_more}
use Rattle.pf_state.proofs.peer.writing.push_records.Goals as goal

pub loop-record-preserved : goal.loop-record-preserved
loop-record-preserved g c = record {
  written = grind (arith, common_steps);
  kept = one_more g.T.PeerRecord.keeps c.args.records.now c.loop-record.record-index c.record-item.result c.loop-record-test.true c.record-item.is
      c.loop-record.invariant.kept c.in_ok-push.ensures.kept;
}

pub returns-clause-kept : goal.returns-clause-kept
returns-clause-kept g c =
    each_of g.T.PeerRecord.keeps c.loop-record.record-index c.args.records.now c.loop-record-test.false c.loop-record.invariant.kept
