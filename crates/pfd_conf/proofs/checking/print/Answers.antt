use Rattle.pf_conf.specs.Shown.{shown}
use Rattle.pfd_conf.proofs.Texts.{flushed}
use Rattle.pfd_conf.proofs.checking.print.Goals as goal

pub returns : goal.returns
returns g c =
    flushed c.flush.result (g.W.Write.contents c.args.out.now) (g.W.Write.contents c.write_conf.new.out)
    (g.W.Write.contents c.flush.new.self) (shown c.args.conf.now)
    c.in_ok-write_conf.ensures.0 c.flush.ensures.bytes
