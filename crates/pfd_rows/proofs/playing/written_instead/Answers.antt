use Rattle.std.proofs.Common.{rules, ◌≡◌, [], Some}
use Rattle.pfd_rows.proofs.playing.written_instead.Goals as goal

pub returns-in-Ok : goal.returns-in-Ok
returns-in-Ok g c =
    let empty : c.new-written.result.items ≡ [] = c.new-written.ensures.items in
    let wanted : c.serve_alone.new.writer.items ≡ c.args.wanted.now = search rules in
    λ none. (Some c.serve_alone.new.reader.now, rw (c.in-Ok.is, empty, wanted) at c.serve_alone.ensures.session)
