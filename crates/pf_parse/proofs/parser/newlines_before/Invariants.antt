use Rattle.std.proofs.Common.{◌≡◌, drop}
use Rattle.pf_parse.specs.Reading.{without_newlines}
use Rattle.pf_parse.proofs.parser.newlines_before.Given as goal

abbrev pub invariant-loop-count : goal.invariant-loop-count
invariant-loop-count l = without_newlines (drop l.count l.tokens) ≡ without_newlines l.tokens
