use Rattle.pf_addr.specs.Writing.{WritesFront-longer, WritesFront-then, Appends-then, after_nothing}
use Rattle.pfd_conf.specs.Reports.{all_failures, tally, tally_text, report_text}
use Rattle.pfd_conf.proofs.Texts.{stopped, some_front, all_at_ok, flushed}
use Rattle.pfd_conf.proofs.firewall.Origins.report.Goals as goal

pub returns-in_err-write_all_failures : goal.returns-in_err-write_all_failures
returns-in_err-write_all_failures g c =
    let old = g.W.Write.contents c.args.out.now in
    let new = g.W.Write.contents c.write_all_failures.new.out in
    stopped _ c.from_residual.result old new (report_text c.args.self.now c.args.tried.now) c.from_residual.ensures.1
    (WritesFront-longer old new (all_failures c.args.self.now c.args.tried.now) (tally_text (tally c.args.tried.now))
    c.in_err-write_all_failures.ensures)

pub returns-in_err-written : goal.returns-in_err-written
returns-in_err-written g c =
    let old = g.W.Write.contents c.args.out.now in
    let mid = g.W.Write.contents c.write_all_failures.new.out in
    let new = g.W.Write.contents c.write_tally.new.out in
    let text = tally_text (tally c.args.tried.now) in
    let w = after_nothing tt (rw c.of.ensures at c.write_tally.ensures) in
    stopped _ c.from_residual-in_err-written.result old new (report_text c.args.self.now c.args.tried.now)
    c.from_residual-in_err-written.ensures.1
    (WritesFront-then old mid new (all_failures c.args.self.now c.args.tried.now) text c.in_ok-write_all_failures.ensures
    (some_front c.write_tally.result mid new text w.0))

pub returns : goal.returns
returns g c =
    let old = g.W.Write.contents c.args.out.now in
    let mid = g.W.Write.contents c.write_all_failures.new.out in
    let new = g.W.Write.contents c.write_tally.new.out in
    let text = tally_text (tally c.args.tried.now) in
    let w = after_nothing tt (rw c.of.ensures at c.write_tally.ensures) in
    flushed c.written-2.result old new (g.W.Write.contents c.flush.new.self) (report_text c.args.self.now c.args.tried.now)
    (Appends-then old mid new (all_failures c.args.self.now c.args.tried.now) text c.in_ok-write_all_failures.ensures
    (all_at_ok c.write_tally.result _ mid new text c.in_ok-written.ensures.ok w.0))
    c.flush.ensures.bytes
