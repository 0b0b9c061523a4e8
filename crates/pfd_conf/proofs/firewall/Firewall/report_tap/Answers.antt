use Rattle.std.proofs.Common.{subst}
use Rattle.pf_addr.specs.Writing.{Writes}
use Rattle.pfd_conf.specs.{Firewalls.Origins, Reports.tap_text}
use Rattle.pfd_conf.proofs.firewall.Firewall.report_tap.Goals as goal

pub returns : goal.returns
returns g c =
    subst
    (λ (o : Origins). Writes c.report_tap.result (g.W.Write.contents c.args.out.now) (g.W.Write.contents c.report_tap.new.out)
    (tap_text o c.args.tried.now))
    c.origins.ensures c.report_tap.ensures
