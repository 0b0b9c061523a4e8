use Rattle.pf_conf.specs.Commit.Lines.{rollback_line}
use Rattle.pf_conf.proofs.CommitTexts.{some_front}
use Rattle.pf_commit.proofs.loading.give_up.Goals as goal

pub returns : goal.returns
returns g c = some_front c.roll_back.result (g.W.Write.contents c.args.server.now) (g.W.Write.contents c.roll_back.new.server) (rollback_line c.args.begun.now) c.roll_back.ensures
