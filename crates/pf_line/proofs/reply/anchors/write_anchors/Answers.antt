use Rattle.std.proofs.Common.{length, codes, decimal, ◌++◌}
use Rattle.pf_addr.specs.Writing.{Continues-then}
use Rattle.pf_line.specs.Reply.TextLines.{lines_text}
use Rattle.pf_line.proofs.Writers.{lined}
use Rattle.pf_line.proofs.reply.anchors.write_anchors.Goals as goal

pub returns : goal.returns
returns g c =
    let paths = c.args.paths.now in
    let lines = lines_text paths in
    let shown = c.write_paths-so_far.ensures in
    let whole = (Continues-then c.write_numbered-so_far.ensures.written c.end_line.ensures).following (g.W.Write.contents c.args.out.now) lines shown.text in
    record { text = whole.0; retried = whole.1; lines = lined (length paths) lines (codes "end " ++ decimal (length paths)) shown.count c.write_numbered-so_far.ensures.one_line }
