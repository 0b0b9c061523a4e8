use Rattle.std.proofs.Common.{◌∙◌}
use Rattle.std.proofs.lemmas.Result.{err_from_is_err_and}
use Rattle.pfd_conf.specs.Explaining.{joined, explained_text}
use Rattle.pfd_conf.proofs.{Explained.{stops_explaining, explains}, Texts.{some_front, all_at_ok}}
use Rattle.pfd_conf.proofs.firewall.Firewall.explain.Goals as goal

pub returns-in_err-written : goal.returns-in_err-written
returns-in_err-written g c =
    let f = c.args.self.now in
    let p = c.in_ok-packet.packet in
    let t = c.in_ok-traced.traced in
    let old = g.W.Write.contents c.args.out.now in
    let new = g.W.Write.contents c.write_explained.new.out in
    let q = err_from_is_err_and c.from_residual-in_err-written.result c.from_residual-in_err-written.ensures.1 in
    stops_explaining f (joined c.args.texts.now) c.from_residual-in_err-written.result q.0 p t old new q.1
    (q.2 ∙ c.in_err-written.ensures.err)
    c.in_ok-packet.ensures.read c.in_ok-traced.ensures
    (some_front c.write_explained.result old new (explained_text f p t) c.write_explained.ensures)

pub returns : goal.returns
returns g c =
    let f = c.args.self.now in
    let p = c.in_ok-packet.packet in
    let t = c.in_ok-traced.traced in
    let old = g.W.Write.contents c.args.out.now in
    let mid = g.W.Write.contents c.write_explained.new.out in
    explains f (joined c.args.texts.now) c.written-2.result p t old mid (g.W.Write.contents c.flush.new.self) c.written-2.ensures.err
    c.in_ok-packet.ensures.read c.in_ok-traced.ensures
    (all_at_ok c.write_explained.result _ old mid (explained_text f p t) c.in_ok-written.ensures.ok c.write_explained.ensures)
    c.flush.ensures.bytes
