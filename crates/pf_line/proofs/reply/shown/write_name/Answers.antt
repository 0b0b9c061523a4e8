use Rattle.std.proofs.Common.{ap, ◌∙◌}
use Rattle.pf_line.specs.Reply.TextLines.{newlines}
use Rattle.pf_line.proofs.Newlines.{name_plain}
use Rattle.pf_line.proofs.reply.shown.write_name.Goals as goal

pub write_part-requires : goal.write_part-requires
write_part-requires g c = ap newlines c.as_bytes.ensures.value ∙ name_plain c.args.name.now c.as_bytes.ensures.kept.bytes
