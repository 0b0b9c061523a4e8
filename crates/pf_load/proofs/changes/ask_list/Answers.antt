use Rattle.pf_load.specs.Changes.{question}
use Rattle.pf_conf.proofs.CommitTexts.{no_front, sent_front, sent_whole}
use Rattle.pf_load.proofs.changes.ask_list.Goals as goal

pub returns-in_err-line : goal.returns-in_err-line
returns-in_err-line g c =
    sent_front c.from_residual.result _ (g.W.Write.contents c.args.server.now) (g.W.Write.contents c.args.server.now) (question c.args.what.now c.args.path.now) c.from_residual.ensures.1
    (no_front (g.W.Write.contents c.args.server.now) (question c.args.what.now c.args.path.now))

pub returns-in_err-send : goal.returns-in_err-send
returns-in_err-send g c =
    sent_front c.from_residual-in_err-send.result _ (g.W.Write.contents c.args.server.now) (g.W.Write.contents c.send.new.server) (question c.args.what.now c.args.path.now) c.from_residual-in_err-send.ensures.1
    (rw (c.deref.ensures.value, c.in_ok-line.ensures) at c.in_err-send.ensures)

pub returns : goal.returns
returns g c =
    sent_whole c.read_list.result (g.W.Write.contents c.args.server.now) (g.W.Write.contents c.send.new.server) (question c.args.what.now c.args.path.now) (rw (c.deref.ensures.value, c.in_ok-line.ensures) at c.in_ok-send.ensures)
