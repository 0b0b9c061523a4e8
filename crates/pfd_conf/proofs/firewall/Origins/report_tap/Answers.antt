use Rattle.std.proofs.Common.{◌++◌}
use Rattle.std.specs.Prelude.{codes}
use Rattle.pf_addr.specs.Writing.{WritesFront-longer, WritesFront-then, Appends-then, after_nothing}
use Rattle.pfd_conf.specs.Reports.{sayable, case_count, files_points, tally, plan_text, tap_text}
use Rattle.pfd_conf.proofs.Texts.{stopped, some_front, all_at_ok, flushed}
use Rattle.pfd_conf.proofs.firewall.Origins.report_tap.Goals as goal

pub returns-in_err-written : goal.returns-in_err-written
returns-in_err-written g c =
    let old = g.W.Write.contents c.args.out.now in
    let new = g.W.Write.contents c.write_more.new.out in
    let head = codes "TAP version 13\n" in
    let points = files_points c.args.self.now 0 c.args.tried.now in
    let plan = plan_text (sayable (case_count c.args.tried.now)) (tally c.args.tried.now) in
    let w = after_nothing tt c.write_more.ensures in
    stopped _ c.from_residual.result old new (tap_text c.args.self.now c.args.tried.now) c.from_residual.ensures.1
    (WritesFront-longer old new (head ++ points) plan
    (WritesFront-longer old new head points (some_front c.write_more.result old new head w.0)))

pub returns-in_err-count : goal.returns-in_err-count
returns-in_err-count g c =
    let old = g.W.Write.contents c.args.out.now in
    let mid = g.W.Write.contents c.write_more.new.out in
    let new = g.W.Write.contents c.write_all_points.new.out in
    let head = codes "TAP version 13\n" in
    let points = files_points c.args.self.now 0 c.args.tried.now in
    let plan = plan_text (sayable (case_count c.args.tried.now)) (tally c.args.tried.now) in
    let w = after_nothing tt c.write_more.ensures in
    stopped _ c.from_residual-in_err-count.result old new (tap_text c.args.self.now c.args.tried.now) c.from_residual-in_err-count.ensures.1
    (WritesFront-longer old new (head ++ points) plan
    (WritesFront-then old mid new head points (all_at_ok c.write_more.result _ old mid head c.in_ok-written.ensures.ok w.0)
    c.in_err-count.ensures.text))

pub returns-in_err-written-2 : goal.returns-in_err-written-2
returns-in_err-written-2 g c =
    let old = g.W.Write.contents c.args.out.now in
    let first = g.W.Write.contents c.write_more.new.out in
    let mid = g.W.Write.contents c.write_all_points.new.out in
    let new = g.W.Write.contents c.write_plan.new.out in
    let head = codes "TAP version 13\n" in
    let points = files_points c.args.self.now 0 c.args.tried.now in
    let plan = plan_text (sayable (case_count c.args.tried.now)) (tally c.args.tried.now) in
    let w = after_nothing tt c.write_more.ensures in
    let rest = after_nothing tt (rw (c.in_ok-count.ensures.count, c.of.ensures) at c.write_plan.ensures) in
    stopped _ c.from_residual-in_err-written-2.result old new (tap_text c.args.self.now c.args.tried.now)
    c.from_residual-in_err-written-2.ensures.1
    (WritesFront-then old mid new (head ++ points) plan
    (Appends-then old first mid head points (all_at_ok c.write_more.result _ old first head c.in_ok-written.ensures.ok w.0)
    c.in_ok-count.ensures.text)
    (some_front c.write_plan.result mid new plan rest.0))

pub returns : goal.returns
returns g c =
    let old = g.W.Write.contents c.args.out.now in
    let first = g.W.Write.contents c.write_more.new.out in
    let mid = g.W.Write.contents c.write_all_points.new.out in
    let new = g.W.Write.contents c.write_plan.new.out in
    let head = codes "TAP version 13\n" in
    let points = files_points c.args.self.now 0 c.args.tried.now in
    let plan = plan_text (sayable (case_count c.args.tried.now)) (tally c.args.tried.now) in
    let w = after_nothing tt c.write_more.ensures in
    let rest = after_nothing tt (rw (c.in_ok-count.ensures.count, c.of.ensures) at c.write_plan.ensures) in
    flushed c.written-3.result old new (g.W.Write.contents c.flush.new.self) (tap_text c.args.self.now c.args.tried.now)
    (Appends-then old mid new (head ++ points) plan
    (Appends-then old first mid head points (all_at_ok c.write_more.result _ old first head c.in_ok-written.ensures.ok w.0)
    c.in_ok-count.ensures.text)
    (all_at_ok c.write_plan.result _ mid new plan c.in_ok-written-2.ensures.ok rest.0)) c.flush.ensures.bytes
