use Rattle.std.proofs.Common.{◌<◌, length, ap, arith, rules, length-drop}
use Rattle.pf_conf.specs.declared.commit.lines.TheConstants.{PART}
use Rattle.pf_conf.specs.Commit.Lines.{table_text}
use Rattle.pf_conf.proofs.CommitTexts.{no_part, one_more_part, all_parts}
use Rattle.pf_conf.proofs.commit.lines.write_extends.Goals as goal

pub loop-left-init : goal.loop-left-init
loop-left-init g c = no_part (table_text c.args.table.now) c.args.written (g.W.Write.contents c.args.out.now) c.args.entries.now

pub loop-left-preserved : goal.loop-left-preserved
loop-left-preserved g c =
    one_more_part (table_text c.args.table.now) c.args.written c.loop-left.so_far c.write_extend-so_far.result (g.W.Write.contents c.args.out.now) (g.W.Write.contents c.loop-left.out) (g.W.Write.contents c.write_extend-so_far.new.out)
    c.args.entries.now c.loop-left.left.now c.cut.result.0.now c.cut.result.1.now (search rules) c.cut.ensures.part c.cut.ensures.rest c.loop-left.invariant c.write_extend-so_far.ensures

pub loop-left-smaller : goal.loop-left-smaller
loop-left-smaller g c =
    let some : 0 < length c.loop-left.left.now = search rules in
    omega (arith, some, ap length c.cut.ensures.rest, length-drop PART c.loop-left.left.now)

pub returns : goal.returns
returns g c =
    all_parts (table_text c.args.table.now) c.args.written c.loop-left.so_far (g.W.Write.contents c.args.out.now) (g.W.Write.contents c.loop-left.out) c.args.entries.now c.loop-left.left.now (search rules) c.loop-left.invariant
