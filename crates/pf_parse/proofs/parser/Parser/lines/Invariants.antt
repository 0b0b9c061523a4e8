use Rattle.std.proofs.Common.{◌≡◌, ◌-◌}
use Rattle.pf_parse.specs.Lines.{lines}
use Rattle.pf_parse.proofs.InTurn.{lines_left}
use Rattle.pf_parse.proofs.parser.Parser.lines.Given as goal

abbrev pub invariant-loop : goal.invariant-loop
invariant-loop l = lines_left (l.end - l.counter) l.self ≡ lines l.fn.self
