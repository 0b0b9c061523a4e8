use Rattle.std.proofs.Common.{ap, ◌∙◌}
use Rattle.pf_line.specs.Reply.TextLines.{newlines}
use Rattle.pf_line.proofs.{Newlines.path_plain, Writers.goes_on}
use Rattle.pf_line.proofs.reply.verdict.write_at.Goals as goal

pub write_part-requires : goal.write_part-requires
write_part-requires g c = ap newlines c.as_bytes.ensures.value ∙ path_plain c.paths_are_read_as_spelled.ensures.read c.paths_are_read_again.ensures.read c.args.path.now c.as_bytes.ensures.path

pub returns : goal.returns
returns g c = goes_on c.write_part-so_far.ensures (rw c.as_bytes.ensures.value at c.write_part.ensures)
