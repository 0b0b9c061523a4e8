use Rattle.pf_conf.specs.Commit.Lines.{begin_line}
use Rattle.pf_conf.proofs.CommitTexts.{no_front, whole_front, sent_front, sent_whole}
use Rattle.pf_commit.proofs.loading.begin.Goals as goal

pub returns-in_err-line-clause-written : goal.returns-in_err-line-clause-written
returns-in_err-line-clause-written g c =
    sent_front c.from_residual.result _ (g.W.Write.contents c.args.server.now) (g.W.Write.contents c.args.server.now) (begin_line c.args.names.now) c.from_residual.ensures.1
    (no_front (g.W.Write.contents c.args.server.now) (begin_line c.args.names.now))

pub returns-in_err-send-clause-written : goal.returns-in_err-send-clause-written
returns-in_err-send-clause-written g c =
    sent_front c.from_residual-in_err-send.result _ (g.W.Write.contents c.args.server.now) (g.W.Write.contents c.send.new.server) (begin_line c.args.names.now) c.from_residual-in_err-send.ensures.1
    (rw (c.deref.ensures.value, c.in_ok-line.ensures) at c.in_err-send.ensures)

pub returns-in_err-reply-clause-written : goal.returns-in_err-reply-clause-written
returns-in_err-reply-clause-written g c =
    sent_front c.from_residual-in_err-reply.result _ (g.W.Write.contents c.args.server.now) (g.W.Write.contents c.send.new.server) (begin_line c.args.names.now) c.from_residual-in_err-reply.ensures.1
    (whole_front (g.W.Write.contents c.args.server.now) (g.W.Write.contents c.send.new.server) (begin_line c.args.names.now) (rw (c.deref.ensures.value, c.in_ok-line.ensures) at c.in_ok-send.ensures))

pub returns-clause-written : goal.returns-clause-written
returns-clause-written g c =
    sent_whole c.begun_by.result (g.W.Write.contents c.args.server.now) (g.W.Write.contents c.send.new.server) (begin_line c.args.names.now) (rw (c.deref.ensures.value, c.in_ok-line.ensures) at c.in_ok-send.ensures)
