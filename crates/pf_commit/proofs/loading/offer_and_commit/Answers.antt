use Rattle.std.proofs.Common.{◌++◌}
use Rattle.pf_addr.specs.Writing.{Writes-then, WritesFront-longer}
use Rattle.pf_conf.specs.Commit.Lines.{load_lines, commit_line}
use Rattle.pf_conf.proofs.CommitTexts.{no_front, sent_front}
use Rattle.pf_commit.proofs.loading.offer_and_commit.Goals as goal

pub returns-in_err-lines : goal.returns-in_err-lines
returns-in_err-lines g c =
    let whole = load_lines c.args.begun.now c.args.conf.now ++ commit_line c.args.begun.now in
    sent_front c.from_residual.result _ (g.W.Write.contents c.args.server.now) (g.W.Write.contents c.args.server.now) whole c.from_residual.ensures.1 (no_front (g.W.Write.contents c.args.server.now) whole)

pub returns-in_err-offer : goal.returns-in_err-offer
returns-in_err-offer g c =
    let offered = load_lines c.args.begun.now c.args.conf.now in
    sent_front c.from_residual-in_err-offer.result _ (g.W.Write.contents c.args.server.now) (g.W.Write.contents c.offer.new.server) (offered ++ commit_line c.args.begun.now) c.from_residual-in_err-offer.ensures.1
    (WritesFront-longer (g.W.Write.contents c.args.server.now) (g.W.Write.contents c.offer.new.server) offered (commit_line c.args.begun.now) (rw (c.deref.ensures.value, c.in_ok-lines.ensures) at c.in_err-offer.ensures))

pub returns : goal.returns
returns g c =
    Writes-then c.commit.result (g.W.Write.contents c.args.server.now) (g.W.Write.contents c.offer.new.server) (g.W.Write.contents c.commit.new.server) (load_lines c.args.begun.now c.args.conf.now) (commit_line c.args.begun.now)
    (rw (c.deref.ensures.value, c.in_ok-lines.ensures) at c.in_ok-offer.ensures) c.commit.ensures
