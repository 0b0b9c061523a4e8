use Rattle.std.proofs.Common.{[], map, length, string_bytes, ap, arith}
use Rattle.std.proofs.lemmas.{List.length-map, Result.err_from_is_err_and}
use Rattle.pf_session.proofs.Flushing.{appends_none, whole_writes}
use Rattle.pfd.specs.Program.{listening_text}
use Rattle.pfd.proofs.Listening.{texts-mapped}
use Rattle.pfd.proofs.program.serving.open_doors.Goals as goal

pub returns-in_err-all : goal.returns-in_err-all
returns-in_err-all g c =
    let held = g.W.Write.contents c.args.writer.now in
    let (e, failed, same) = err_from_is_err_and c.from_residual.result c.from_residual.ensures.1 in
    ([], whole_writes c.from_residual.result held held [] (appends_none held), rw failed tt)

pub returns-in-Ok : goal.returns-in-Ok
returns-in-Ok g c =
    let names = c.as_slice.result.now in (
      map string_bytes names,
      rw (texts-mapped listening_text string_bytes names) at c.in-Ok.ensures,
      omega (arith, length-map names string_bytes, ap length c.as_slice.ensures.value, c.in_ok-all.ensures, c.in_ok-all.all.names.ok.0),
    )

pub returns : goal.returns
returns g c =
    let names = c.as_slice.result.now in
    (map string_bytes names, rw (texts-mapped listening_text string_bytes names) at c.in-Err.ensures, tt)
