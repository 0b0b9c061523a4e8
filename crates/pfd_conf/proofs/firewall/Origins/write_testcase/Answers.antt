use Rattle.pf_addr.specs.Writing.{after_nothing}
use Rattle.pfd_conf.specs.Junit.{testcase_text}
use Rattle.pfd_conf.proofs.Texts.{as_written}
use Rattle.pfd_conf.proofs.firewall.Origins.write_testcase.Goals as goal

pub returns : goal.returns
returns g c =
    let written =
    rw (
      c.deref-3.ensures.value,
      c.deref-4.ensures.value,
      c.in_ok-name.ensures,
      c.in_ok-message.ensures,
      c.deref.ensures.value,
      c.deref-2.ensures.value,
      c.in_ok-words.ensures,
      c.line.ensures,
    ) at
    c.write_element.ensures in
    let w = after_nothing tt written in
    as_written c.written.result c.write_element.result _ (g.W.Write.contents c.args.out.now) (g.W.Write.contents c.write_element.new.out)
    (testcase_text c.args.self.now c.args.tried.now c.args.outcome.now) c.written.ensures.ok w.0
