use Rattle.std.proofs.Common.{◌++◌, ◌+◌}
use Rattle.std.specs.Prelude.{codes}
use Rattle.pf_addr.specs.Writing.{Continues-then, WritesFront-longer, after_nothing}
use Rattle.pf_conf.specs.Shown.{newline}
use Rattle.pfd_conf.specs.Reports.{points_text, file_points}
use Rattle.pfd_conf.proofs.{Points.{head_of, point_of, no_point_of}, Texts.{stopped, some_front, all_at_ok, none_of, more_of, stopped_of, all_of}}
use Rattle.pfd_conf.proofs.firewall.Origins.write_points.Goals as goal

pub returns-in_err-written : goal.returns-in_err-written
returns-in_err-written g c =
    let old = g.W.Write.contents c.args.out.now in
    let new = g.W.Write.contents c.write_more.new.out in
    let t = c.args.tried.now in
    let head = codes "# " ++ t.name.now ++ newline in
    let w = after_nothing tt (Continues-then (Continues-then c.write_more-so_far.ensures c.write_more-so_far-2.ensures)
    c.write_more.ensures) in
    stopped _ c.from_residual.result old new (file_points c.args.self.now c.args.before t) c.from_residual.ensures.1
    (WritesFront-longer old new head (points_text c.args.self.now t c.args.before t.outcomes)
    (some_front c.write_more.result old new head w.0))

pub loop-index-init : goal.loop-index-init
loop-index-init g c =
    let old = g.W.Write.contents c.args.out.now in
    let new = g.W.Write.contents c.write_more.new.out in
    let t = c.args.tried.now in
    let all = file_points c.args.self.now c.args.before t in
    let head = codes "# " ++ t.name.now ++ newline in
    let w = after_nothing tt (Continues-then (Continues-then c.write_more-so_far.ensures c.write_more-so_far-2.ensures)
    c.write_more.ensures) in
    more_of old old new all all head (points_text c.args.self.now t (c.args.before + 0) t.outcomes) (none_of old all)
    (head_of c.args.self.now t c.args.before)
    (all_at_ok c.write_more.result _ old new head c.in_ok-written.ensures.ok w.0)

pub returns-in_err-write_numbered : goal.returns-in_err-write_numbered
returns-in_err-write_numbered g c =
    let old = g.W.Write.contents c.args.out.now in
    let new = g.W.Write.contents c.write_numbered.new.out in
    let t = c.args.tried.now in
    let all = file_points c.args.self.now c.args.before t in
    let items = c.as_slice-outcome-items.ensures in
    stopped _ c.from_residual-in_err-write_numbered.result old new all c.from_residual-in_err-write_numbered.ensures.1
    (stopped_of old (g.W.Write.contents c.loop-index.out) new all _ _ _ c.loop-index.invariant
    (point_of c.args.self.now t c.args.before c.loop-index.index c.number_of.result _ t.outcomes (rw items at c.loop-index-test.true)
    c.number_of.ensures)
    (rw items at c.in_err-write_numbered.ensures))

pub loop-index-preserved : goal.loop-index-preserved
loop-index-preserved g c =
    let old = g.W.Write.contents c.args.out.now in
    let t = c.args.tried.now in
    let items = c.as_slice-outcome-items.ensures in
    more_of old (g.W.Write.contents c.loop-index.out) (g.W.Write.contents c.write_numbered.new.out)
    (file_points c.args.self.now c.args.before t) _ _ _ c.loop-index.invariant
    (point_of c.args.self.now t c.args.before c.loop-index.index c.number_of.result _ t.outcomes (rw items at c.loop-index-test.true)
    c.number_of.ensures)
    (rw items at c.in_ok-write_numbered.ensures)

pub returns : goal.returns
returns g c =
    let t = c.args.tried.now in
    all_of (g.W.Write.contents c.args.out.now) (g.W.Write.contents c.loop-index.out) (file_points c.args.self.now c.args.before t) _
    c.loop-index.invariant
    (no_point_of c.args.self.now t c.args.before c.loop-index.index t.outcomes
    (rw c.as_slice-outcome-items.ensures at c.loop-index-test.false))
