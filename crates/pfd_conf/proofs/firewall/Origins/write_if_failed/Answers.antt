use Rattle.pf_addr.specs.Writing.{after_nothing}
use Rattle.pfd_conf.specs.Reports.{failure_text, words_at}
use Rattle.pfd_conf.proofs.Texts.{as_written}
use Rattle.pfd_conf.proofs.firewall.Origins.write_if_failed.Goals as goal

pub returns : goal.returns
returns g c =
    let t = c.args.tried.now in
    let o = c.args.outcome.now in
    let w = after_nothing tt (rw (c.deref.ensures.value, c.in_ok-words.ensures, c.line.ensures) at c.write_failure.ensures) in
    rw c.if-outcome.false
    (as_written c.written.result c.write_failure.result _ (g.W.Write.contents c.args.out.now) (g.W.Write.contents c.write_failure.new.out)
    (failure_text c.args.self.now t.name.now (words_at t o) o) c.written.ensures.ok w.0)
