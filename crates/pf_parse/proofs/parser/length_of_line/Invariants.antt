use Rattle.std.proofs.Common.{◌≡◌, ◌≤◌, drop}
use Rattle.pf_parse.specs.Reading.{after_line}
use Rattle.pf_parse.proofs.parser.length_of_line.Given as goal

abbrev pub invariant-loop-count : goal.invariant-loop-count
invariant-loop-count l = record {
  deep : l.deep ≤ l.count;
  rest : after_line l.deep (drop l.count l.tokens) ≡ after_line 0 l.tokens;
}
