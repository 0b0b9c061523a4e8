use Rattle.std.proofs.Common.{length}
use Rattle.pf_addr.specs.Writing.{Continues-then}
use Rattle.pf_line.specs.{Reply.TextLines.lines_text, Reply.Replies.{shown_lines, last_line}}
use Rattle.pf_line.proofs.Writers.{lined}
use Rattle.pf_line.proofs.reply.reply.write_reply.Goals as goal

pub returns : goal.returns
returns g c =
    let lines = lines_text (shown_lines c.args.reply.now) in
    let shown = c.write_shown-so_far.ensures in
    let whole = (Continues-then c.write_words-so_far.ensures.written c.end_line.ensures).following (g.W.Write.contents c.args.out.now) lines shown.text in
    record { text = whole.0; retried = whole.1; lines = lined (length (shown_lines c.args.reply.now)) lines (last_line c.args.reply.now) shown.count c.write_words-so_far.ensures.one_line }
