use Rattle.std.proofs.Common.{◌++◌}
use Rattle.std.specs.Prelude.{codes}
use Rattle.pf_addr.specs.Writing.{WritesFront-longer, WritesFront-then, Appends-then, after_nothing}
use Rattle.pfd_conf.specs.{Reports.tally, Junit.{head_text, suites_text, junit_text}}
use Rattle.pfd_conf.proofs.Texts.{stopped, some_front, all_at_ok, flushed}
use Rattle.pfd_conf.proofs.firewall.Origins.report_junit.Goals as goal

pub returns-in_err-written : goal.returns-in_err-written
returns-in_err-written g c =
    let old = g.W.Write.contents c.args.out.now in
    let new = g.W.Write.contents c.write_head.new.out in
    let head = head_text (tally c.args.tried.now) in
    let suites = suites_text c.args.self.now c.args.tried.now in
    let w = after_nothing tt (rw c.of.ensures at c.write_head.ensures) in
    stopped _ c.from_residual.result old new (junit_text c.args.self.now c.args.tried.now) c.from_residual.ensures.1
    (WritesFront-longer old new (head ++ suites) (codes "</testsuites>\n")
    (WritesFront-longer old new head suites (some_front c.write_head.result old new head w.0)))

pub returns-in_err-write_suites : goal.returns-in_err-write_suites
returns-in_err-write_suites g c =
    let old = g.W.Write.contents c.args.out.now in
    let mid = g.W.Write.contents c.write_head.new.out in
    let new = g.W.Write.contents c.write_suites.new.out in
    let head = head_text (tally c.args.tried.now) in
    let suites = suites_text c.args.self.now c.args.tried.now in
    let w = after_nothing tt (rw c.of.ensures at c.write_head.ensures) in
    stopped _ c.from_residual-in_err-write_suites.result old new (junit_text c.args.self.now c.args.tried.now)
    c.from_residual-in_err-write_suites.ensures.1
    (WritesFront-longer old new (head ++ suites) (codes "</testsuites>\n")
    (WritesFront-then old mid new head suites (all_at_ok c.write_head.result _ old mid head c.in_ok-written.ensures.ok w.0)
    c.in_err-write_suites.ensures))

pub returns-in_err-written-2 : goal.returns-in_err-written-2
returns-in_err-written-2 g c =
    let old = g.W.Write.contents c.args.out.now in
    let first = g.W.Write.contents c.write_head.new.out in
    let mid = g.W.Write.contents c.write_suites.new.out in
    let new = g.W.Write.contents c.write_more.new.out in
    let head = head_text (tally c.args.tried.now) in
    let suites = suites_text c.args.self.now c.args.tried.now in
    let w = after_nothing tt (rw c.of.ensures at c.write_head.ensures) in
    let last = after_nothing tt c.write_more.ensures in
    stopped _ c.from_residual-in_err-written-2.result old new (junit_text c.args.self.now c.args.tried.now)
    c.from_residual-in_err-written-2.ensures.1
    (WritesFront-then old mid new (head ++ suites) (codes "</testsuites>\n")
    (Appends-then old first mid head suites (all_at_ok c.write_head.result _ old first head c.in_ok-written.ensures.ok w.0)
    c.in_ok-write_suites.ensures)
    (some_front c.write_more.result mid new (codes "</testsuites>\n") last.0))

pub returns : goal.returns
returns g c =
    let old = g.W.Write.contents c.args.out.now in
    let first = g.W.Write.contents c.write_head.new.out in
    let mid = g.W.Write.contents c.write_suites.new.out in
    let new = g.W.Write.contents c.write_more.new.out in
    let head = head_text (tally c.args.tried.now) in
    let suites = suites_text c.args.self.now c.args.tried.now in
    let w = after_nothing tt (rw c.of.ensures at c.write_head.ensures) in
    let last = after_nothing tt c.write_more.ensures in
    flushed c.written-3.result old new (g.W.Write.contents c.flush.new.self) (junit_text c.args.self.now c.args.tried.now)
    (Appends-then old mid new (head ++ suites) (codes "</testsuites>\n")
    (Appends-then old first mid head suites (all_at_ok c.write_head.result _ old first head c.in_ok-written.ensures.ok w.0)
    c.in_ok-write_suites.ensures)
    (all_at_ok c.write_more.result _ mid new (codes "</testsuites>\n") c.in_ok-written-2.ensures.ok last.0)) c.flush.ensures.bytes
