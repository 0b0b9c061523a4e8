use Rattle.std.proofs.Common.{◌≡◌, ◌+◌, arith, take}
use Rattle.pfd_conf.specs.Reports.{sayable, case_count, files_points}
use Rattle.pfd_conf.proofs.{Points.{count_of, file_of}, Texts.{stopped, more_of, stopped_of}}
use Rattle.pfd_conf.proofs.firewall.Origins.write_all_points.Goals as goal

pub returns-in_err-write_points-clause-text : goal.returns-in_err-write_points-clause-text
returns-in_err-write_points-clause-text g c =
    let old = g.W.Write.contents c.args.out.now in
    let new = g.W.Write.contents c.write_points.new.out in
    let all = files_points c.args.self.now 0 c.args.tried.now in
    stopped _ c.from_residual.result old new all c.from_residual.ensures.1
    (stopped_of old (g.W.Write.contents c.loop-file.out) new all _ _ _ c.loop-file.invariant.1
    (file_of c.args.self.now c.args.tried.now c.loop-file.file-index c.loop-file.count c.file-item.result c.loop-file-test.true
    c.file-item.is c.loop-file.invariant.0)
    c.in_err-write_points.ensures)

pub loop-file-preserved : goal.loop-file-preserved
loop-file-preserved g c =
    let more = count_of c.args.tried.now c.loop-file.file-index c.file-item.result c.loop-file-test.true c.file-item.is in
    let count : c.saturating_add-count.result ≡ sayable (case_count (take (c.loop-file.file-index + 1) c.args.tried.now)) =
    omega (arith, more, c.loop-file.invariant.0, c.saturating_add-count.ensures, c.len.ensures) in (
      count,
      more_of (g.W.Write.contents c.args.out.now) (g.W.Write.contents c.loop-file.out) (g.W.Write.contents c.write_points.new.out)
          (files_points c.args.self.now 0 c.args.tried.now) _ _ _
          c.loop-file.invariant.1
          (file_of c.args.self.now c.args.tried.now c.loop-file.file-index c.loop-file.count c.file-item.result c.loop-file-test.true
          c.file-item.is c.loop-file.invariant.0)
          c.in_ok-write_points.ensures,
    )
