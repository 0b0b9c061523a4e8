use Rattle.std.proofs.Common.{map, arith}
use Rattle.pf_store.specs.Groups.{made_all}
use Rattle.pf_store.proofs.Recording.{pushed_long, recorded_by}
use Rattle.pf_store.proofs.encoding.group.record_group.Goals as goal

pub close-requires : goal.close-requires
close-requires g c =
    let pushed = c.in_ok-push_group.ensures in
    let long = pushed_long c.args.version (made_all (map g.C.AsChange.as_plain c.args.changes.now)) c.in_ok-record.record.after_gate.items pushed.0 c.push_group.new.out.items c.in_ok-record.ensures pushed.1 pushed.2 in
    record { begun = omega (arith, long); short = omega (arith, long, c.requires.short) }

pub returns-clause-made : goal.returns-clause-made
returns-clause-made g c =
    let pushed = c.in_ok-push_group.ensures in
    recorded_by c.args.version (made_all (map g.C.AsChange.as_plain c.args.changes.now)) c.in_ok-record.record.after_gate.items pushed.0 c.push_group.new.out.items c.in_ok-record.ensures pushed.1 pushed.2
    c.close.new.self c.in_ok-close.ensures.closed

pub returns-clause-long : goal.returns-clause-long
returns-clause-long g c =
    let pushed = c.in_ok-push_group.ensures in
    let long = pushed_long c.args.version (made_all (map g.C.AsChange.as_plain c.args.changes.now)) c.in_ok-record.record.after_gate.items pushed.0 c.push_group.new.out.items c.in_ok-record.ensures pushed.1 pushed.2 in
    omega (arith, c.in_ok-close.ensures.long, long)
