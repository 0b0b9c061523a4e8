use Rattle.std.proofs.Common.{◌≡◌, length}
use Rattle.wirdalf_c.specs.Lines.{lines_of}
use Rattle.wirdalf_c.proofs.LineSteps.{Leads}
use Rattle.wirdalf_c.proofs.lines.do_lines.Given as goal

abbrev pub invariant-loop-line : goal.invariant-loop-line
invariant-loop-line l = (l.number ≡ length l.yielded) × Leads l.initial.core (lines_of l.text) l.core l.number
