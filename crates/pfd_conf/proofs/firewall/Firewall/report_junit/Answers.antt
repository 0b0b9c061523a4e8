use Rattle.pfd_conf.proofs.firewall.Firewall.report_junit.Goals as goal

pub returns : goal.returns
returns g c = rw c.origins.ensures at c.report_junit.ensures
