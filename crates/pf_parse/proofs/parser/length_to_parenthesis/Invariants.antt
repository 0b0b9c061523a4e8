use Rattle.std.proofs.Common.{◌≡◌, drop}
use Rattle.pf_parse.specs.Reading.{to_parenthesis}
use Rattle.pf_parse.proofs.parser.length_to_parenthesis.Given as goal

abbrev pub invariant-loop-count : goal.invariant-loop-count
invariant-loop-count l = to_parenthesis (drop l.count l.tokens) ≡ to_parenthesis l.tokens
