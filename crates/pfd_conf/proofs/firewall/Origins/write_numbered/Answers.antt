use Rattle.pf_addr.specs.Writing.{after_nothing}
use Rattle.pfd_conf.specs.Reports.{point_text, words_at}
use Rattle.pfd_conf.proofs.Texts.{as_written}
use Rattle.pfd_conf.proofs.firewall.Origins.write_numbered.Goals as goal

pub returns : goal.returns
returns g c =
    let t = c.args.tried.now in
    let o = c.args.outcome.now in
    let w = after_nothing tt (rw (c.deref.ensures.value, c.in_ok-words.ensures, c.line.ensures) at c.write_point.ensures) in
    as_written c.written.result c.write_point.result _ (g.W.Write.contents c.args.out.now) (g.W.Write.contents c.write_point.new.out)
    (point_text c.args.self.now c.args.number (words_at t o) o) c.written.ensures.ok w.0
