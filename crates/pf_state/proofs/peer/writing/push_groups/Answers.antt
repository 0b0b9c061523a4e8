use Rattle.std.proofs.{Common.arith, lemmas.Grind.common_steps}
use Rattle.pf_state.specs.Peer.Written.{IsGroup}
use Rattle.pf_state.proofs.Appended.{group_fits, each_of, one_more}
use Rattle.pf_state.proofs.peer.writing.push_groups.Goals as goal

pub push_group-requires : goal.push_group-requires
push_group-requires c = group_fits c.args.groups.now c.loop-group.group-index c.group-item.result c.group-item.is c.loop-group-test.true c.requires

pub loop-group-preserved : goal.loop-group-preserved
loop-group-preserved c = record {
  written = grind (arith, common_steps);
  kept = one_more IsGroup c.args.groups.now c.loop-group.group-index c.group-item.result c.loop-group-test.true c.group-item.is
      c.loop-group.invariant.kept c.in_ok-push_group.ensures.kept;
}

pub returns-clause-kept : goal.returns-clause-kept
returns-clause-kept c = each_of IsGroup c.loop-group.group-index c.args.groups.now c.loop-group-test.false c.loop-group.invariant.kept
