use Rattle.pf_conf.specs.Commit.Lines.{commit_line}
use Rattle.pf_conf.proofs.CommitTexts.{no_front, whole_front, sent_front}
use Rattle.pf_commit.proofs.loading.commit.Goals as goal

pub returns-in_err-line : goal.returns-in_err-line
returns-in_err-line g c =
    sent_front c.from_residual.result _ (g.W.Write.contents c.args.server.now) (g.W.Write.contents c.args.server.now) (commit_line c.args.begun.now) c.from_residual.ensures.1
    (no_front (g.W.Write.contents c.args.server.now) (commit_line c.args.begun.now))

pub returns-in_err-send : goal.returns-in_err-send
returns-in_err-send g c =
    sent_front c.from_residual-in_err-send.result _ (g.W.Write.contents c.args.server.now) (g.W.Write.contents c.send.new.server) (commit_line c.args.begun.now) c.from_residual-in_err-send.ensures.1
    (rw (c.deref.ensures.value, c.in_ok-line.ensures) at c.in_err-send.ensures)

pub returns-in_err-reply : goal.returns-in_err-reply
returns-in_err-reply g c =
    sent_front c.from_residual-in_err-reply.result _ (g.W.Write.contents c.args.server.now) (g.W.Write.contents c.send.new.server) (commit_line c.args.begun.now) c.from_residual-in_err-reply.ensures.1
    (whole_front (g.W.Write.contents c.args.server.now) (g.W.Write.contents c.send.new.server) (commit_line c.args.begun.now) (rw (c.deref.ensures.value, c.in_ok-line.ensures) at c.in_ok-send.ensures))

pub returns : goal.returns
returns g c =
    whole_front (g.W.Write.contents c.args.server.now) (g.W.Write.contents c.send.new.server) (commit_line c.args.begun.now) (rw (c.deref.ensures.value, c.in_ok-line.ensures) at c.in_ok-send.ensures)
