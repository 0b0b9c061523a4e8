use Rattle.std.proofs.Common.{◌-◌, take}
use Rattle.pf_state.proofs.ExportParts.{taken_one, dropped_one, all_taken}
use Rattle.pf_state.proofs.failover.outgoing.next_part.Goals as goal

pub loop-reported-preserved : goal.loop-reported-preserved
loop-reported-preserved c =
    let reported = c.loop-reported.reported in
    let steps = c.in-Some.ensures.steps in
    record {
      part = rw (c.in_ok-push-in-Some.ensures.items, c.in_ok-shared-in-Some.ensures)
          (taken_one reported c.loop-reported.part.items c.loop-reported.rest c.in-Some.state.now c.next.new.self (take 31 c.args.rest.now) c.loop-reported-test.true steps c.loop-reported.invariant.part);
      left = dropped_one reported c.loop-reported.rest c.in-Some.state.now c.next.new.self _ c.loop-reported-test.true steps c.loop-reported.invariant.left;
    }

pub returns-in-None-clause-part : goal.returns-in-None-clause-part
returns-in-None-clause-part c =
    all_taken (31 - c.loop-reported.reported) c.loop-reported.part.items c.loop-reported.rest (take 31 c.args.rest.now) c.in-None.ensures.steps.0 c.loop-reported.invariant.part
