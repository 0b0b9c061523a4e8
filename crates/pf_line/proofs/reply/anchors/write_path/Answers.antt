use Rattle.std.proofs.Common.{ap, ◌∙◌}
use Rattle.pf_line.specs.Reply.TextLines.{newlines}
use Rattle.pf_line.proofs.Newlines.{path_plain}
use Rattle.pf_line.proofs.reply.anchors.write_path.Goals as goal

pub write_part-requires : goal.write_part-requires
write_part-requires g c = ap newlines c.as_bytes.ensures.value ∙ path_plain c.paths_are_read_as_spelled.ensures.read c.paths_are_read_again.ensures.read c.args.path.now c.as_bytes.ensures.path
