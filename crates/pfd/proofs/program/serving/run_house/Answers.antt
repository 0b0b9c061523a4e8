use Rattle.std.proofs.Common.{[]}
use Rattle.std.specs.Prelude.{flat_map}
use Rattle.std.proofs.lemmas.Result.{err_from_is_err_and}
use Rattle.pf_session.proofs.Flushing.{appends_none, whole_front, whole_writes}
use Rattle.pfd.specs.Program.{listening_text}
use Rattle.pfd.proofs.Listening.{where_ok}
use Rattle.pfd.proofs.program.serving.run_house.Goals as goal

pub returns-in_default : goal.returns-in_default
returns-in_default g c = let held = g.W.Write.contents c.args.writer.now in ([], whole_front held held [] (appends_none held), tt)

pub returns-in_default-new : goal.returns-in_default-new
returns-in_default-new g c = let held = g.W.Write.contents c.args.writer.now in ([], whole_front held held [] (appends_none held), tt)

pub returns-in_err-listening : goal.returns-in_err-listening
returns-in_err-listening g c =
    let (bounds, front, none) = c.in_err-listening.ensures in
    let (e, failed, same) = err_from_is_err_and c.from_residual.result c.from_residual.ensures.1 in
    (bounds, rw failed front, rw failed tt)

pub returns : goal.returns
returns g c =
    let (bounds, out, each) = c.in_ok-listening.ensures in (
      bounds,
      whole_writes c.run_and_say-served.result (g.W.Write.contents c.args.writer.now) (g.W.Write.contents c.open_doors.new.writer) (flat_map listening_text bounds) out,
      where_ok c.run_and_say-served.result _ each,
    )
