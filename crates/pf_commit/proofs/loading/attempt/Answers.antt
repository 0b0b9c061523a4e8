use Rattle.std.proofs.Common.{◌∙◌, sym}
use Rattle.pf_commit.proofs.Attempts.{begin_stopped, went_through, stopped_after_begin}
use Rattle.pf_commit.proofs.loading.attempt.Goals.{then-is_err, else-is_err}
use Rattle.pf_commit.proofs.loading.attempt.Goals as goal

pub returns-in_err-begun : goal.returns-in_err-begun
returns-in_err-begun g c =
    begin_stopped c.from_residual.result _ c.args.conf.now c.args.names.now (g.W.Write.contents c.args.server.now) (g.W.Write.contents c.begin.new.server) c.requires c.from_residual.ensures.1 c.in_err-begun.ensures.written

pub returns : goal.returns
returns g c =
    elim c.if-is_err.branch [
      | then-is_err w ↦ rw w.server-is (
          stopped_after_begin c.offer_and_commit-done.result c.args.conf.now c.args.names.now c.in_ok-begun.begun.items (g.W.Write.contents c.args.server.now) (g.W.Write.contents c.begin.new.server) (g.W.Write.contents c.offer_and_commit-done.new.server) (g.W.Write.contents w.give_up.new.server)
          c.requires c.in_ok-begun.ensures.named (sym c.is_err.ensures.value ∙ w.if-is_err.true) c.in_ok-begun.ensures.written (rw c.deref.ensures.value at c.offer_and_commit-done.ensures)
          (rw w.deref-then-is_err.ensures.value at w.give_up.ensures)
          )
      | else-is_err w ↦ rw w.server-is (
          went_through c.offer_and_commit-done.result c.args.conf.now c.args.names.now c.in_ok-begun.begun.items (g.W.Write.contents c.args.server.now) (g.W.Write.contents c.begin.new.server) (g.W.Write.contents c.offer_and_commit-done.new.server)
          c.requires c.in_ok-begun.ensures.named (sym c.is_err.ensures.value ∙ w.if-is_err.false) c.in_ok-begun.ensures.written (rw c.deref.ensures.value at c.offer_and_commit-done.ensures)
          )
    ]
