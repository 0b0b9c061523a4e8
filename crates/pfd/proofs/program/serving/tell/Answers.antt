use Rattle.std.proofs.Common.{Err, Ok, refl}
use Rattle.pf_addr.specs.Writing.{Continues-then, after_nothing}
use Rattle.pf_session.proofs.Flushing.{flushed}
use Rattle.pfd_files.proofs.Showing.{as_reported}
use Rattle.pfd.specs.Program.{listening_text}
use Rattle.pfd.proofs.program.serving.tell.Goals as goal

pub returns-in-Ok : goal.returns-in-Ok
returns-in-Ok g c =
    let all = after_nothing tt (Continues-then c.write_more-so_far.ensures (Continues-then c.write_more-so_far-2.ensures c.write_more.ensures)) in
    let old = g.W.Write.contents c.args.writer.now in
    let mid = g.W.Write.contents c.write_more.new.out in
    let text = listening_text c.args.bound.now in
    flushed c.flush.result old mid (g.W.Write.contents c.flush.new.self) text (as_reported c.write_more.result (Ok c.in-Ok.field-0) old mid _ text c.in-Ok.is refl all.0)
    c.flush.ensures.bytes

pub returns-in-Err : goal.returns-in-Err
returns-in-Err g c =
    let all = after_nothing tt (Continues-then c.write_more-so_far.ensures (Continues-then c.write_more-so_far-2.ensures c.write_more.ensures)) in
    as_reported c.write_more.result (Err c.in-Err.error) (g.W.Write.contents c.args.writer.now) (g.W.Write.contents c.write_more.new.out) _
    (listening_text c.args.bound.now) c.in-Err.is refl all.0
