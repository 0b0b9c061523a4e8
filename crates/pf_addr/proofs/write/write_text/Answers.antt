use Rattle.std.proofs.Common.{arith}
use Rattle.pf_addr.proofs.Writers.{appends_more}
use Rattle.pf_addr.proofs.write.write_text.Goals as goal

pub loop-written-preserved : goal.loop-written-preserved
loop-written-preserved g c = record {
  within = let h = c.in-Ok.ensures.bound in omega arith;
  appended = appends_more _ _ _ c.args.text.now c.loop-written.written c.in-Ok.n c.loop-written.invariant.appended c.in-Ok.ensures.ok;
}
