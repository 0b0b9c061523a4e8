use Rattle.pf_state.proofs.Inserts.{pushed_insert}
use Rattle.pf_state.proofs.peer.record.InsertPeerRecord.push.Goals as goal

pub returns-clause-written : goal.returns-clause-written
returns-clause-written c = pushed_insert c.args.self.now c.args.out.now.items c.write.new.out.items c.fields-fields.ensures.kept c.in_ok-write.ensures
