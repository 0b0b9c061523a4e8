use Rattle.std.proofs.Common.{[]}
use Rattle.std.proofs.lemmas.Result.{err_from_is_err_and}
use Rattle.pf_session.proofs.Flushing.{appends_none, whole_front, whole_writes}
use Rattle.pfd.proofs.program.serving.run_server.Goals as goal

pub returns-in_err-disk : goal.returns-in_err-disk
returns-in_err-disk g c =
    let held = g.W.Write.contents c.args.writer.now in
    let (e, failed, same) = err_from_is_err_and c.from_residual.result c.from_residual.ensures.1 in
    ([], whole_writes c.from_residual.result held held [] (appends_none held), rw failed tt)

pub returns-in-Err : goal.returns-in-Err
returns-in-Err g c = let held = g.W.Write.contents c.args.writer.now in ([], whole_front held held [] (appends_none held), tt)
