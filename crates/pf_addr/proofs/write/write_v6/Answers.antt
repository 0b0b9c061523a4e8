use Rattle.std.proofs.Common.{◌≡◌, append-nil, arith}
use Rattle.pf_addr.specs.{Spelling.group_text, Writing.Continues-then}
use Rattle.pf_addr.proofs.Writers.{groups_more}
use Rattle.pf_addr.proofs.write.write_v6.Goals as goal

pub loop-end-init : goal.loop-end-init
loop-end-init g c = rw (append-nil (group_text c.args.number 112)) (rw c.group.ensures at c.write_group-so_far.ensures)

pub loop-end-preserved : goal.loop-end-preserved
loop-end-preserved g c =
    rw (← groups_more c.args.number _ c.loop-end.end-index c.loop-end-test.true)
    (Continues-then c.loop-end.invariant (Continues-then c.write_more-so_far.ensures (rw c.group-in-loop-end.ensures at c.write_group-so_far-in-loop-end.ensures)))

pub returns : goal.returns
returns g c =
    let end : c.loop-end.end-index ≡ 7 = omega arith in
    rw (← append-nil (group_text c.args.number 0)) (rw end at c.loop-end.invariant)
