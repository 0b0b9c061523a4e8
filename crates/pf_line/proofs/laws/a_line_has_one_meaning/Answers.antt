use Rattle.pf_line.specs.Lines.{line_at}
use Rattle.pf_line.proofs.Lines.{one_meaning}
use Rattle.pf_line.proofs.laws.a_line_has_one_meaning.Goals as goal

pub returns : goal.returns
returns c line = one_meaning (line_at line)
