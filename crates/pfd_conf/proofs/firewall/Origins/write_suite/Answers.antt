use Rattle.std.proofs.Common.{◌++◌}
use Rattle.std.specs.Prelude.{codes}
use Rattle.pf_addr.specs.Writing.{WritesFront-longer, WritesFront-then, Appends-then, Writes-then, after_nothing}
use Rattle.pfd_conf.specs.Junit.{suite_head, tally_in, testcases_text, suite_text}
use Rattle.pfd_conf.proofs.Texts.{stopped, some_front, all_at_ok, as_written}
use Rattle.pfd_conf.proofs.firewall.Origins.write_suite.Goals as goal

pub returns-in_err-written : goal.returns-in_err-written
returns-in_err-written g c =
    let old = g.W.Write.contents c.args.out.now in
    let new = g.W.Write.contents c.write_suite_head.new.out in
    let t = c.args.tried.now in
    let head = suite_head t.name.now (tally_in t) in
    let cases = testcases_text c.args.self.now t in
    let w = after_nothing tt (rw c.tally_in.ensures at c.write_suite_head.ensures) in
    stopped _ c.from_residual.result old new (suite_text c.args.self.now t) c.from_residual.ensures.1
    (WritesFront-longer old new (head ++ cases) (codes "  </testsuite>\n")
    (WritesFront-longer old new head cases (some_front c.write_suite_head.result old new head w.0)))

pub returns-in_err-write_testcases : goal.returns-in_err-write_testcases
returns-in_err-write_testcases g c =
    let old = g.W.Write.contents c.args.out.now in
    let mid = g.W.Write.contents c.write_suite_head.new.out in
    let new = g.W.Write.contents c.write_testcases.new.out in
    let t = c.args.tried.now in
    let head = suite_head t.name.now (tally_in t) in
    let cases = testcases_text c.args.self.now t in
    let w = after_nothing tt (rw c.tally_in.ensures at c.write_suite_head.ensures) in
    stopped _ c.from_residual-in_err-write_testcases.result old new (suite_text c.args.self.now t)
    c.from_residual-in_err-write_testcases.ensures.1
    (WritesFront-longer old new (head ++ cases) (codes "  </testsuite>\n")
    (WritesFront-then old mid new head cases (all_at_ok c.write_suite_head.result _ old mid head c.in_ok-written.ensures.ok w.0)
    c.in_err-write_testcases.ensures))

pub returns : goal.returns
returns g c =
    let old = g.W.Write.contents c.args.out.now in
    let first = g.W.Write.contents c.write_suite_head.new.out in
    let mid = g.W.Write.contents c.write_testcases.new.out in
    let new = g.W.Write.contents c.write_more.new.out in
    let t = c.args.tried.now in
    let head = suite_head t.name.now (tally_in t) in
    let cases = testcases_text c.args.self.now t in
    let w = after_nothing tt (rw c.tally_in.ensures at c.write_suite_head.ensures) in
    let last = after_nothing tt c.write_more.ensures in
    as_written c.written-2.result c.write_more.result _ old new (suite_text c.args.self.now t) c.written-2.ensures.ok
    (Writes-then c.write_more.result old mid new (head ++ cases) (codes "  </testsuite>\n")
    (Appends-then old first mid head cases (all_at_ok c.write_suite_head.result _ old first head c.in_ok-written.ensures.ok w.0)
    c.in_ok-write_testcases.ensures) last.0)
